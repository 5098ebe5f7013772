use Rattle.std.proofs.Common.{◌≡◌, ◌∷◌, refl, sym, ap, subst, ◌∙◌}
use Rattle.std.proofs.lemmas.Result.{IfOk-weaker}
use Rattle.pb_text.specs.TokensOf.{texts_of}
use Rattle.proof_text.specs.NamesMet.{NamesMet}
use Rattle.proof_text.specs.PartsDenied.{DeniesRule}
use Rattle.proof_text.specs.StepsRead.{IsStepRead}
use Rattle.proof_text.specs.Steps.{IsStep}
use Rattle.proof_text.proofs.LinesOfSections.{fresh, ruled_denied, ruled_read, step_read, step_full}
use Rattle.proof_text.proofs.proof_names.ProofNames.step_of_rule.Goals as goal

pub returns-in-Err-clause-denies : goal.returns-in-Err-clause-denies
returns-in-Err-clause-denies c word is =
    let rest = texts_of c.args.words in
    let start : c.begin.new.self.names ≡ c.args.self.now = ap (λ (k : NamesMet). k.names) (c.begin.ensures ∙ ap fresh c.self.view_is) in
    ruled_denied c.in-Err.fault c.args.rule c.args.self.now word (word ∷ rest) rest refl is (subst (λ ns. DeniesRule c.in-Err.fault c.args.rule ns rest) start c.in-Err.ensures.denies)

pub returns-then-is_full-clause-denies : goal.returns-then-is_full-clause-denies
returns-then-is_full-clause-denies c word is =
    let k = c.begin.new.self in
    let new = c.step-read.new.table in
    let rest = texts_of c.args.words in
    let step = c.in_default.field-0 in
    let start : k ≡ fresh c.args.self.now = c.begin.ensures ∙ ap fresh c.self.view_is in
    step_full c.args.self.now k new (word ∷ rest) step start (ruled_read k new word (word ∷ rest) rest c.args.rule step refl is c.in_default.ensures.read) (sym c.is_full.ensures ∙ c.if-is_full.true)

pub returns-clause-step : goal.returns-clause-step
returns-clause-step c word is =
    let k = c.begin.new.self in
    let new = c.step-read.new.table in
    let rest = texts_of c.args.words in
    let start : k ≡ fresh c.args.self.now = c.begin.ensures ∙ ap fresh c.self.view_is in
    IfOk-weaker c.step-read.result (λ s. IsStepRead c.args.rule k rest s new) (λ s. IsStep c.args.self.now (word ∷ rest) s new.names)
    (λ step read. step_read c.args.self.now k new (word ∷ rest) step start (ruled_read k new word (word ∷ rest) rest c.args.rule step refl is read) (sym c.is_full.ensures ∙ c.if-is_full.false) c.reveal.ensures)
    c.step-read.ensures.read
