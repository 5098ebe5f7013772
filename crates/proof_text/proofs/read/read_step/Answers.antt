use Rattle.std.proofs.Common.{◌∷◌, length, sym, ap, ◌∙◌}
use Rattle.std.proofs.lemmas.Result.{IfOk-weaker}
use Rattle.pb_text.specs.TokensOf.{texts_of}
use Rattle.proof_text.specs.Steps.{IsStep}
use Rattle.proof_text.specs.Words.{words}
use Rattle.proof_text.specs.Writable.{IsStepWritable}
use Rattle.proof_text.proofs.LinesOfSections.{empty_denied}
use Rattle.proof_text.proofs.ReadIsWritable.{step_writable}
use Rattle.proof_text.proofs.read.read_step.Goals as goal

pub returns-in_default-clause-denies : goal.returns-in_default-clause-denies
unfolding words
returns-in_default-clause-denies c = empty_denied c.args.names.now (words c.args.line.now) (ap texts_of (sym c.new-words.ensures ∙ c.in_default.ensures.tokens.0))

pub returns-clause-writable : goal.returns-clause-writable
returns-clause-writable c =
    let old = c.args.names.now in
    let new = c.step_of_words.new.names in
    let ws = c.in-Some.first.text.now ∷ texts_of c.next.new.self in
    IfOk-weaker c.step_of_words.result (λ s. IsStep old ws s new) (λ s. IsStepWritable (length new) s) (λ s r. step_writable old ws new s r) c.step_of_words.ensures.step
