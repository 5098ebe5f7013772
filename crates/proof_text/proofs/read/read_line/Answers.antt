use Rattle.std.proofs.Common.{◌≡◌, ℤ, Some, length, refl, ap, subst, ◌∙◌}
use Rattle.proof_text.specs.Words.{words, unclosed, AreSmall}
use Rattle.proof_text.specs.Frame.{count_of}
use Rattle.std.proofs.lemmas.Result.{IfOk-weaker}
use Rattle.pb_text.specs.TokensOf.{texts_of}
use Rattle.proof_text.specs.declared.line.Section.TheVariants as sections
use Rattle.proof_text.specs.Spells.{IsLine}
use Rattle.proof_text.specs.Faults.{DeniesLine}
use Rattle.proof_text.specs.Writable.{IsLineWritable}
use Rattle.proof_text.proofs.LinesOfSections.{no_count_line}
use Rattle.proof_text.proofs.ReadIsWritable.{line_writable}
use Rattle.proof_text.proofs.read.read_line.Goals as goal

pub returns-in-None-clause-denies : goal.returns-in-None-clause-denies
unfolding DeniesLine words
returns-in-None-clause-denies c =
    let ws = words c.args.line.now in
    let at = c.new-in-Count.ensures ∙ ap unclosed (ap texts_of c.new-words.ensures) in
    rw c.in-Count.is
    (refl, no_count_line c.args.names.now ws (subst (λ u. (n : ℤ) → count_of u ≡ Some n → AreSmall u → ⊥) at c.in-None.ensures))

pub returns-in-Step-clause-writable : goal.returns-in-Step-clause-writable
returns-in-Step-clause-writable c =
    let old = c.args.names.now in
    let new = c.step_or_output.new.names in
    let ws = texts_of c.new-words.result in
    IfOk-weaker c.step_or_output.result (λ l. IsLine sections.Step old ws l new) (λ l. IsLineWritable (length new) l)
    (λ l r. line_writable sections.Step old ws new l r) c.step_or_output.ensures.line

pub returns-in-Block-clause-writable : goal.returns-in-Block-clause-writable
returns-in-Block-clause-writable c =
    let section = c.args.section in
    let old = c.args.names.now in
    let new = c.step_inside.new.names in
    let ws = texts_of c.new-words.result in
    IfOk-weaker c.step_inside.result (λ l. IsLine section old ws l new) (λ l. IsLineWritable (length new) l)
    (λ l r. line_writable section old ws new l r) c.step_inside.ensures.line

pub returns-in-Conclusion-clause-writable : goal.returns-in-Conclusion-clause-writable
returns-in-Conclusion-clause-writable c =
    let old = c.args.names.now in
    let new = c.conclusion_line.new.self in
    let ws = texts_of c.new-words.result in
    IfOk-weaker c.conclusion_line.result (λ l. IsLine sections.Conclusion old ws l new) (λ l. IsLineWritable (length new) l)
    (λ l r. line_writable sections.Conclusion old ws new l r) c.conclusion_line.ensures.line
