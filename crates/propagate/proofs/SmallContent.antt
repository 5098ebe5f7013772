-- Two constraints under their ids: what is found under an id, and all of them in order.
use Rattle.std.proofs.Common.{◌≡◌, ℕ, List, [], ◌∷◌, None, map, length, refl, sym, ap, ◌∙◌, arith}
use Rattle.std.specs.FinMap as fin
use Rattle.std.specs.FinMap.Entries.{put}
use Rattle.std.specs.Ordering.{nat_cmp}
use Rattle.std.proofs.lemmas.Cmp.{nat_cmp_total}
use Rattle.normal_form.specs.Normal.{NormalConstraint}
use Rattle.propagate.specs.Cases.{one_of_two, two_ids, unit_not}
use Rattle.propagate.proofs.Entries.{passed_over}

abbrev pub Entries : Type 0
Entries = List (ℕ × NormalConstraint)

abbrev both : Entries
both = (2, one_of_two) ∷ (5, unit_not 2) ∷ []

pub found : (k : ℕ) → fin.get two_ids k ≡ fin.find nat_cmp k both
found k = fin.get-from_entries nat_cmp_total both k

pub not_found : (k : ℕ) → (k ≡ 2 → ⊥) → (k ≡ 5 → ⊥) → fin.get two_ids k ≡ None
not_found k other another = found k ∙ passed_over k (2, one_of_two) ((5, unit_not 2) ∷ []) other ∙ passed_over k (5, unit_not 2) [] another

-- entries put one by one, the last one first
abbrev pub placed : Entries → Entries
placed [] = []
placed (e ∷ es) = put nat_cmp e.0 e.1 (placed es)

no_entries : (es : Entries) → length es ≡ 0 → es ≡ []
no_entries [] h = refl
no_entries (e ∷ es) h = absurd (omega (arith, h))

nothing_placed : fin.entries (fin.empty {X = NormalConstraint} {R = nat_cmp}) ≡ []
nothing_placed = no_entries (fin.entries fin.empty) (sym (fin.len-entries fin.empty) ∙ fin.len-empty nat_cmp NormalConstraint)

pub entries_placed : (es : Entries) → fin.entries (fin.from_entries {R = nat_cmp} es) ≡ placed es
entries_placed [] = nothing_placed
entries_placed (e ∷ es) = fin.entries-insert nat_cmp_total (fin.from_entries es) e.0 e.1 ∙ ap (put nat_cmp e.0 e.1) (entries_placed es)

pub values_are : fin.values two_ids ≡ one_of_two ∷ unit_not 2 ∷ []
values_are = ap (λ (es : Entries). map (λ e. e.1) es) (entries_placed both)
