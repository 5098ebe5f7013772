use Rattle.std.proofs.Common.{◌≡◌, ◌∷◌, None, refl, sym, ◌∙◌}
use Rattle.pb_text.specs.TokensOf.{texts_of}
use Rattle.proof_text.specs.Rules.{rule_of}
use Rattle.proof_text.proofs.LinesOfSections.{misplaced_at, unruled_denied}
use Rattle.proof_text.proofs.read.step_at_section.Goals as goal

pub returns-in_default-clause-denies : goal.returns-in_default-clause-denies
returns-in_default-clause-denies c =
    let w = c.args.first.text.now in
    let rest = texts_of c.args.behind in
    let none : rule_of w ≡ None = sym c.rule_of.ensures ∙ c.in_default.is in
    record {
      misplaced = λ e. absurd (cc (sym (misplaced_at c.args.section w rest None none) ∙ e));
      placed = λ _. unruled_denied c.rule_fault.result c.args.names.now w (w ∷ rest) rest refl none c.rule_fault.ensures;
    }
