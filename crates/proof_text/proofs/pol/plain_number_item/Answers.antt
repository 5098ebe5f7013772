-- The number that was passed is the word of the item.
use Rattle.std.proofs.Common.{rules, ◌≡◌, ◌∷◌, ap, sym, subst, ◌∙◌, FitsSigned, to_z, of_z}
use mir.Syntax.{w64, w128}
use Rattle.std.proofs.lemmas.Int.{to_z-of_z}
use Rattle.proof_text.specs.Forms.{are_items, items_of}
use Rattle.proof_text.specs.PartsRead.{Takes}
use Rattle.proof_text.proofs.NextWord.{same_number}
use Rattle.proof_text.proofs.pol.plain_number_item.Goals as goal

pub returns-clause-takes : goal.returns-clause-takes
returns-clause-takes c k =
    let n = c.in_ok-number.number in
    let f = c.in_ok-number.ensures in
    let short : FitsSigned w64 n = search rules in
    let fits : FitsSigned w128 c.from.result = search rules in
    let same : to_z w128 (of_z w128 c.from.result) ≡ n = to_z-of_z w128 c.from.result fits ∙ c.from.ensures ∙ to_z-of_z w64 n short in
    let here = ap (λ ws. f.word ∷ ws) c.pass_gap.ensures ∙ sym f.first in
    subst (λ ws. Takes are_items items_of k ws c.number_item.result k c.number_item.new.words) here
    (c.number_item.ensures f.word k (same_number n (to_z w128 (of_z w128 c.from.result)) f.word same f.passed))
