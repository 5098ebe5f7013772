use Rattle.std.proofs.Common.{◌∷◌, ℕ, ap, sym, subst, ◌∙◌}
use Rattle.pb_text.specs.Scan.{IsIntegerWord}
use Rattle.pb_text.specs.declared.scan.IntegerWord.{IntegerWord}
use Rattle.pb_text.proofs.ScannedWords.{plain_integer, plus_word, negated_word}
use Rattle.pb_text.proofs.scan.integer_word.Goals as goal

pub returns-in_ok-found-in-45 : goal.returns-in_ok-found-in-45
returns-in_ok-found-in-45 c =
    let at = c.in-Some.ensures.cases.0 ∙ ap (λ (b : ℕ). b ∷ c.in-Some.rest.now) c.in-45.is in
    let found = c.in_ok-found-in-45.found in
    subst (λ (w : IntegerWord). IsIntegerWord w.size w.number c.args.text.now) (sym c.negated_integer.ensures)
    (negated_word found.size found.value c.args.text.now c.in-Some.rest.now at c.in_ok-found-in-45.ensures.1)

pub returns-in_ok-found-in-43 : goal.returns-in_ok-found-in-43
returns-in_ok-found-in-43 c =
    let at = c.in-Some.ensures.cases.0 ∙ ap (λ (b : ℕ). b ∷ c.in-Some.rest.now) c.in-43.is in
    let found = c.in_ok-found-in-43.found in
    subst (λ (w : IntegerWord). IsIntegerWord w.size w.number c.args.text.now) (sym c.plain_integer.ensures)
    (plus_word found.size found.value c.args.text.now c.in-Some.rest.now at c.in_ok-found-in-43.ensures.1)

pub returns-in_ok-found-in_default-first : goal.returns-in_ok-found-in_default-first
returns-in_ok-found-in_default-first c =
    let found = c.in_ok-found-in_default-first.found in
    subst (λ (w : IntegerWord). IsIntegerWord w.size w.number c.args.text.now) (sym c.plain_integer-in_default-first.ensures)
    (plain_integer found.size found.value c.args.text.now c.in_ok-found-in_default-first.ensures.1)
