use Rattle.std.proofs.Common.{◌≡◌, ◌+◌, ◌-◌, None, sym, subst, arith}
use Rattle.linear.specs.Opb.{Opb}
use Rattle.kernel.specs.Held.{Keeps, state_with}
use Rattle.solutions.specs.Logged.{unlogged}
use Rattle.kernel.proofs.Keeping.{starts, kept_start, file_count}
use Rattle.kernel.proofs.kernel.Kernel.new.Goals as goal

pub invariant_of-result : goal.invariant_of-result
invariant_of-result g c =
    let p : Opb = c.args.problem.now in
    let d = c.in_ok-database.database in
    let file = c.in_ok-database.ensures in
    let next = c.next_id-problem_ids.ensures in
    let last : (c.next_id-problem_ids.result - 1) + 1 ≡ d.next = omega (arith, next.value, next.numbered.first) in
    let whole : Keeps (record { problem = p; state = state_with d unlogged None }) (c.next_id-problem_ids.result - 1) c.in_ok-objective.objective = record {
      kept = kept_start p (state_with d unlogged None) file.within (starts p d file.file);
      file = file_count p d (c.next_id-problem_ids.result - 1) file.file last;
      objective_is = c.in_ok-objective.ensures;
    } in
    subst (λ l. Keeps (record { problem = p; state = state_with d l None }) (c.next_id-problem_ids.result - 1) c.in_ok-objective.objective) (sym c.empty.ensures) whole
