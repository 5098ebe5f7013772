-- The name that stands at the place of a name.
use Rattle.std.proofs.Common.{◌≡◌, ℕ, suc, ◌+◌, Bool, true, false, not, cond, ◌||◌, List, [], ◌∷◌, slice_index_or, refl, sym, ap, ◌∙◌, arith}
use Rattle.std.proofs.lemmas.Bool.Decides.{Decides-eqb}
use Rattle.std.proofs.lemmas.Slice.Eq.{slice_eq-Decides}
use Rattle.linear.specs.Table.{same_name, has_name, place_of}

past_first : (n : List ℕ) (ns : List (List ℕ)) (k : ℕ) → slice_index_or (n ∷ ns) (suc k) [] ≡ slice_index_or ns k []
past_first n ns k = refl

pub name_there : (names : List (List ℕ)) (name : List ℕ) → has_name names name ≡ true → slice_index_or names (place_of names name) [] ≡ name
name_there [] name h = cc
name_there (n ∷ ns) name h = by (same_name name n) (λ e. sym ((slice_eq-Decides Decides-eqb name n (same_name name n) refl).0 e)) h (name_there ns name)
  where
    behind : 1 + place_of ns name ≡ suc (place_of ns name)
    behind = omega arith

    by : (b : Bool) → (b ≡ true → n ≡ name) → (b || has_name ns name) ≡ true → (has_name ns name ≡ true → slice_index_or ns (place_of ns name) [] ≡ name)
        → slice_index_or (n ∷ ns) (cond (not b) (1 + place_of ns name) 0) [] ≡ name
    by true same e rest = same refl
    by false same e rest = ap (λ i. slice_index_or (n ∷ ns) i []) behind ∙ past_first n ns (place_of ns name) ∙ rest e
