use Rattle.std.proofs.Common.{◌∷◌, ℕ, List, refl, sym, ap, subst}
use Rattle.std.proofs.lemmas.Result.{err_from_is_err_and}
use Rattle.pb_text.specs.TokensOf.{texts_of}
use Rattle.proof_text.specs.PartsDenied.{DeniesStepAt}
use Rattle.proof_text.specs.Spells.{IsLine}
use Rattle.proof_text.specs.declared.line.Line.TheVariants as lines
use Rattle.proof_text.specs.declared.fault.ProofFault.TheVariants as faults
use Rattle.proof_text.proofs.LinesOfSections.{empty_denied, inside, inside_denied, step_placed, step_denied_at}
use Rattle.proof_text.proofs.read.step_inside.Goals as goal

pub returns-in_default-clause-denies : goal.returns-in_default-clause-denies
returns-in_default-clause-denies c =
    let section = c.args.section in
    let names = c.args.names.now in
    let ws = texts_of c.args.words in
    inside_denied faults.BadLine section names ws c.requires
    (step_denied_at faults.BadLine section names ws (inside section ws c.requires)
    (record { misplaced = λ _. refl; placed = λ _. empty_denied names ws (ap texts_of c.in_default.ensures.tokens.0) }))

pub returns-in_err-step-clause-denies : goal.returns-in_err-step-clause-denies
returns-in_err-step-clause-denies c =
    let f = c.in_err-step.field-0.0 in
    let section = c.args.section in
    let names = c.args.names.now in
    let ws = texts_of c.args.words in
    let at = ap texts_of c.in-Some.ensures.tokens in
    let denied : DeniesStepAt f section names ws = subst (λ (xs : List (List ℕ)). DeniesStepAt f section names xs) (sym at) c.in_err-step.ensures.denies in
    let p = err_from_is_err_and c.from_residual.result c.from_residual.ensures.1 in
    rw (p.1, p.2) (inside_denied f section names ws c.requires (step_denied_at f section names ws (inside section ws c.requires) denied))

pub returns-clause-line : goal.returns-clause-line
returns-clause-line c =
    let section = c.args.section in
    let names = c.args.names.now in
    let new = c.step_at_section.new.names in
    let step = c.in_ok-step.step in
    let behind = c.in-Some.first.text.now ∷ texts_of c.next.new.self in
    let e = c.in_ok-step.ensures in
    subst (λ (xs : List (List ℕ)). IsLine section names xs (lines.Step step) new) (sym (ap texts_of c.in-Some.ensures.tokens))
    (step_placed section names new behind step (inside section behind c.requires) e.placed e.step)
