use Rattle.std.proofs.Common.{◌≡◌, ◌++◌, pos, ap, sym, subst, ◌∙◌, arith, ◌≤◌, codes}
use Rattle.std.specs.List.{flat_map}
use Rattle.pb_text.specs.Number.{largest_number}
use Rattle.proof_text.specs.ProofSpells.{SpellsProof}
use Rattle.proof_write.specs.Whole.{first_lines, step_line, last_lines, whole_text}
use Rattle.proof_write.specs.Writing.{spaced, conclusion_words}
use Rattle.proof_write.proofs.WordsAppended.{four_apart}
use Rattle.proof_write.proofs.WholeBack.{whole_back}
use Rattle.proof_write.proofs.whole.write_proof.Goals as goal

pub returns-clause-spells : goal.returns-clause-spells
returns-clause-spells c =
    let names = c.args.names.now in
    let steps = c.args.steps.now in
    let conclusion = c.args.conclusion.now in
    let small : c.args.count ≤ largest_number = omega (arith, c.ranges.count.fits) in
    let text : c.end_lines.new.out.items ≡ whole_text names c.args.count steps conclusion =
    c.in_ok-end_lines.ensures.ok
    ∙ four_apart c.step_lines.new.out.items (codes "output NONE\n") (codes "conclusion") (spaced (conclusion_words names conclusion)) (codes "\nend pseudo-Boolean proof\n")
    ∙ ap (λ t. t ++ last_lines names conclusion)
    (c.in_ok-step_lines.ensures.ok ∙ ap (λ t. t ++ flat_map (step_line names) steps) (c.in_ok-first.ensures.ok ∙ ap (λ t. t ++ first_lines c.args.count) c.new-out.ensures.items)) in
    subst (λ t. SpellsProof t names (pos c.args.count) steps conclusion) (sym text)
    (whole_back names c.args.count steps conclusion c.in_ok-end_lines.ensures.table small c.requires.steps c.in_ok-step_lines.ensures.proper c.requires.nested c.requires.conclusion)
