use Rattle.std.proofs.Common.{ℕ, List, length, ap, subst, ◌∙◌}
use Rattle.presolve.specs.Uses.{AreTakenBelow}
use Rattle.presolve.specs.declared.uses.Uses.{Uses}
use Rattle.presolve.proofs.Taking.{taken_fixed}
use Rattle.presolve.proofs.fixing.fixable.Goals as goal

pub returns : goal.returns
returns c =
    let p = c.args.problem.now in
    let ls = c.in_ok-all_taken.field-0.items in
    let count = c.len-count.ensures.len ∙ ap length c.names.ensures.names in
    let taken = subst (λ (n : ℕ). AreTakenBelow c.in_ok-wanted.wanted.items n ls) count (subst (λ (table : List Uses). AreTakenBelow table c.len-count.result ls) c.as_slice.ensures.value (c.in_ok-all_taken.ensures {u = tt})) in
    taken_fixed p c.in_ok-wanted.wanted.items ls c.in_ok-wanted.ensures.wanted taken
