use Rattle.std.proofs.Common.{rules, ◌≡◌, ◌∷◌, ℕ, List, true, false, codes, refl, sym, ap, subst, ◌∙◌}
use Rattle.std.proofs.lemmas.Result.{err_from_is_err_and}
use Rattle.std.specs.Str.{bytes_eq}
use Rattle.pb_text.specs.Token.{lexeme_of}
use Rattle.pb_text.specs.TokensOf.{texts_of}
use Rattle.proof_text.specs.Words.{is_first, are_words}
use Rattle.proof_text.specs.Frame.{output}
use Rattle.proof_text.specs.Faults.{DeniesLine}
use Rattle.proof_text.specs.PartsDenied.{DeniesStepAt}
use Rattle.proof_text.specs.Spells.{IsLine}
use Rattle.proof_text.specs.declared.fault.ProofFault.TheVariants as faults
use Rattle.proof_text.specs.declared.line.Line.TheVariants as lines
use Rattle.proof_text.specs.declared.line.Section.TheVariants as sections
use Rattle.proof_text.proofs.LinesOfSections.{empty_denied, outside, output_placed, output_denied, step_placed, step_denied_at}
use Rattle.proof_text.proofs.NextWord.{cut_apart}
use Rattle.proof_text.proofs.read.step_or_output.Goals as goal

pub returns-in_default-clause-denies : goal.returns-in_default-clause-denies
unfolding DeniesLine
returns-in_default-clause-denies c =
    let names = c.args.names.now in
    let ws = texts_of c.args.words in
    let none = ap texts_of c.in_default.ensures.tokens in
    step_denied_at faults.BadLine sections.Step names ws (outside ws (ap (is_first (codes "output")) none)) (record { misplaced = λ _. refl; placed = λ _. empty_denied names ws none })

pub returns-in_err-output-clause-denies : goal.returns-in_err-output-clause-denies
unfolding DeniesLine
returns-in_err-output-clause-denies c =
    let f = c.in_err-output.field-0.0 in
    let ws = texts_of c.args.words in
    let w = c.in-Some.found.token.text.now in
    let at = cut_apart c.args.words c.in-Some.found.behind (lexeme_of c.in-Some.found.token) c.in-Some.ensures.tokens c.in-Some.ensures.behind in
    let here : bytes_eq w (codes "output") ≡ true = search rules in
    let first : is_first (codes "output") ws ≡ true = ap (is_first (codes "output")) at ∙ here in
    let none = ap (are_words output) (sym c.new.ensures) ∙ c.in_err-output.ensures.denies in
    let p = err_from_is_err_and c.from_residual.result c.from_residual.ensures.1 in
    rw (p.1, p.2) (output_denied f c.args.names.now ws first none c.in_err-output.ensures.form)

pub returns-then-eq-clause-line : goal.returns-then-eq-clause-line
returns-then-eq-clause-line c =
    let ws = texts_of c.args.words in
    let w = c.in-Some.found.token.text.now in
    let at = cut_apart c.args.words c.in-Some.found.behind (lexeme_of c.in-Some.found.token) c.in-Some.ensures.tokens c.in-Some.ensures.behind in
    let here : bytes_eq w (codes "output") ≡ true = search rules in
    let first : is_first (codes "output") ws ≡ true = ap (is_first (codes "output")) at ∙ here in
    output_placed c.args.names.now ws first (ap (are_words output) (sym c.new.ensures) ∙ c.in_ok-output.ensures.ok)
    c.reveal.ensures

pub returns-in_err-step-clause-denies : goal.returns-in_err-step-clause-denies
unfolding DeniesLine
returns-in_err-step-clause-denies c =
    let f = c.in_err-step.field-0.0 in
    let names = c.args.names.now in
    let ws = texts_of c.args.words in
    let w = c.in-Some.found.token.text.now in
    let at = cut_apart c.args.words c.in-Some.found.behind (lexeme_of c.in-Some.found.token) c.in-Some.ensures.tokens c.in-Some.ensures.behind in
    let other : bytes_eq w (codes "output") ≡ false = search rules in
    let first : is_first (codes "output") ws ≡ false = ap (is_first (codes "output")) at ∙ other in
    let denied : DeniesStepAt f sections.Step names ws = subst (λ (xs : List (List ℕ)). DeniesStepAt f sections.Step names xs) (sym at) c.in_err-step.ensures.denies in
    let p = err_from_is_err_and c.from_residual-in_err-step.result c.from_residual-in_err-step.ensures.1 in
    rw (p.1, p.2) (step_denied_at f sections.Step names ws (outside ws first) denied)

pub returns-clause-line : goal.returns-clause-line
returns-clause-line c =
    let names = c.args.names.now in
    let new = c.step_at_section.new.names in
    let step = c.in_ok-step.step in
    let w = c.in-Some.found.token.text.now in
    let at = cut_apart c.args.words c.in-Some.found.behind (lexeme_of c.in-Some.found.token) c.in-Some.ensures.tokens c.in-Some.ensures.behind in
    let behind = w ∷ texts_of c.in-Some.found.behind in
    let other : bytes_eq w (codes "output") ≡ false = search rules in
    let e = c.in_ok-step.ensures in
    subst (λ (xs : List (List ℕ)). IsLine sections.Step names xs (lines.Step step) new) (sym at)
    (step_placed sections.Step names new behind step (outside behind other) e.placed e.step)
