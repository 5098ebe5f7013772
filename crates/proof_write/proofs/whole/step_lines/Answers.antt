use Rattle.std.proofs.Common.{◌<◌, length, arith, ◌≡◌, ◌∙◌, append_assoc, get_or, rules, subst}
use Rattle.std.proofs.lemmas.List.Elements.{All-more}
use Rattle.proof_text.specs.Steps.{IsProper}
use Rattle.proof_write.specs.Whole.{step_line}
use Rattle.proof_write.proofs.WordsAppended.{next_text}
use Rattle.proof_write.proofs.whole.step_lines.Goals as goal

pub loop-step-preserved : goal.loop-step-preserved
loop-step-preserved c =
    let xs = c.args.steps.now in
    let i = c.loop-step.step-index in
    let within : i < length xs = omega arith in
    let item = c.step-item.result in
    let at : item ≡ get_or xs i item = search rules in
    let old = c.loop-step.invariant in
    let text = next_text (step_line c.args.names.now) xs i item c.args.out.now.items c.loop-step.out.items c.step_text.new.out.items within at old.0 (c.in_ok-step_text.ensures.ok ∙ append_assoc c.loop-step.out.items _ _) in
    (text, All-more IsProper xs i item within old.1 (subst IsProper at c.in_ok-step_text.ensures.proper), (_, text))
