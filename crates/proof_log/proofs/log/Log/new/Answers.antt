use Rattle.std.proofs.Common.{◌≡◌, None, ◌≤◌, ◌++◌, ap, subst, ◌∙◌, arith}
use Rattle.pb_text.specs.Number.{largest_number}
use Rattle.linear.specs.Opb.{Opb}
use Rattle.proof_steps.specs.declared.conclusion.Conclusion.TheVariants.{Nothing}
use Rattle.proof_rules.specs.Forms.{problem_ids}
use Rattle.proof_write.specs.Whole.{first_lines}
use Rattle.proof_log.proofs.Growing.{logbook, starts}
use Rattle.proof_log.proofs.Naming.{start_named}
use Rattle.proof_log.proofs.StaysLive.{kept_first}
use Rattle.proof_log.proofs.log.Log.new.Goals as goal

pub invariant_of-result : goal.invariant_of-result
invariant_of-result g c =
    let kernel = c.in_ok-kernel in
    let p : Opb = c.args.problem.now in
    let count : c.problem_ids.result ≡ problem_ids p.constraints = c.problem_ids.ensures ∙ ap (λ (q : Opb). problem_ids q.constraints) kernel.ensures.problem in
    let small : c.problem_ids.result ≤ largest_number = omega arith in
    let few : problem_ids p.constraints ≤ largest_number = subst (λ n. n ≤ largest_number) count small in
    let text : c.write_start.new.out.items ≡ first_lines (problem_ids p.constraints) =
    c.in_ok-write_start.ensures.lines ∙ ap (λ t. t ++ first_lines c.problem_ids.result) c.new-text.ensures.items ∙ ap first_lines count in
    let proof = starts p kernel.kernel.state c.write_start.new.out.items c.new-2.result.items text c.new-2.ensures.items c.reveal.ensures.table few kernel.ensures.start in
    let live = kept_first (logbook p c.write_start.new.out.items kernel.kernel.state c.new-2.result.items 0 Nothing None) kernel.ensures.start in
    (kernel.ensures.problem, proof, live, start_named p kernel.kernel.state c.reveal.ensures kernel.ensures.start)
