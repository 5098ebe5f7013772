use Rattle.std.proofs.Common.{◌≡◌, ◌∷◌, ℕ, true, ap, sym, subst, ◌∙◌}
use Rattle.pb_text.specs.Lexeme.{begins}
use Rattle.pb_text.specs.Scan.{IsFirst}
use Rattle.pb_text.proofs.ScannedWords.{semicolon_first, equals_first, at_least_first}
use Rattle.pb_text.proofs.scan.symbol_word.Goals as goal

pub returns-in-59 : goal.returns-in-59
returns-in-59 c =
    let at = c.in-Some.ensures.cases.0 ∙ ap (λ (b : ℕ). b ∷ c.in-Some.rest.now) c.in-59.is in
    subst (IsFirst c.args.text.now) (sym c.symbol_of.ensures) (semicolon_first c.args.text.now c.in-Some.rest.now at)

pub returns-in-61 : goal.returns-in-61
returns-in-61 c =
    let at = c.in-Some.ensures.cases.0 ∙ ap (λ (b : ℕ). b ∷ c.in-Some.rest.now) c.in-61.is in
    subst (IsFirst c.args.text.now) (sym c.symbol_of-in-61.ensures) (equals_first c.args.text.now c.in-Some.rest.now at)

pub returns-then-begins_equals : goal.returns-then-begins_equals
returns-then-begins_equals c =
    let at = c.in-Some.ensures.cases.0 ∙ ap (λ (b : ℕ). b ∷ c.in-Some.rest.now) c.in-62.is in
    let equals : begins 61 c.in-Some.rest.now ≡ true = sym c.begins_equals.ensures ∙ c.if-begins_equals.true in
    subst (IsFirst c.args.text.now) (sym c.symbol_of-then-begins_equals.ensures) (at_least_first c.args.text.now c.in-Some.rest.now at equals)
