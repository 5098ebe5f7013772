use Rattle.std.proofs.Common.{◌≡◌, pos, [], ◌∷◌, ◌++◌, List, ℤ, refl, sym, ap, ◌∙◌, arith}
use Rattle.std.proofs.lemmas.Int.{ints}
use Rattle.proof_log.specs.Log.{value_list}
use Rattle.proof_log.proofs.cases.improved_by_soli_alone.Goals as goal

pub returns-clause-leads : goal.returns-clause-leads
returns-clause-leads c p s t legal least = (t, legal, ([], sym (ap (λ o. value_list o ++ []) least), (refl, refl)))

first_of : List ℤ → ℤ
first_of [] = pos 0
first_of (value ∷ values) = value

pub returns-clause-other_value : goal.returns-clause-other_value
unfolding first_of
returns-clause-other_value c p s t least (between, legal, (later, is, (same, none))) =
    let seven : pos 8 ∷ [] ≡ pos 7 ∷ later = is ∙ ap (λ u. value_list u.least ++ later) (sym same) ∙ ap (λ o. value_list o ++ later) least in
    omega (arith, ints, ap first_of seven)
