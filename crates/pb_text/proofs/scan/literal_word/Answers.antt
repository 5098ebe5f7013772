use Rattle.std.proofs.Common.{◌∷◌, ℕ, ap, ◌∙◌}
use Rattle.pb_text.proofs.ScannedWords.{tilde_first, literal_of}
use Rattle.pb_text.proofs.scan.literal_word.Goals as goal

pub returns-in_ok-found-in-126 : goal.returns-in_ok-found-in-126
returns-in_ok-found-in-126 c =
    let at = c.in-Some.ensures.cases.0 ∙ ap (λ (b : ℕ). b ∷ c.in-Some.rest.now) c.in-126.is in
    tilde_first c.in_ok-found-in-126.found.size c.in_ok-found-in-126.found.said c.args.text.now c.in-Some.rest.now at c.in_ok-found-in-126.ensures

pub returns-in_default-first : goal.returns-in_default-first
returns-in_default-first c = literal_of c.args.text.now c.any_name-in_default-first.result c.any_name-in_default-first.ensures
