-- Notes of how many terms were passed, as a round reads them.
use Rattle.std.proofs.Common.{◌≡◌, ℕ, zero, suc, ◌==◌, ◌<◌, ◌≤◌, Bool, true, false, cond, All, List, [], ◌∷◌, ◌++◌, length, get_or, map, set, refl, ap, arith}
use Rattle.std.proofs.lemmas.Bool.Decides.{nat_tests}
use Rattle.ledger.specs.declared.passed.Note.{Note}
use Rattle.ledger.specs.Passed.{count_in}

-- what the notes say in a round
abbrev pub read_in : ℕ → List Note → List ℕ
read_in round = map (count_in round)

-- no note says more than its count
pub at_most : (b : Bool) (count most : ℕ) → count ≤ most → cond b count 0 ≤ most
at_most true count most low = low
at_most false count most low = omega arith

pub noted_other : (round : ℕ) (notes : List Note) (place k : ℕ) (n : Note) → (k ≡ place → ⊥) → get_or (read_in round (set notes place n)) k 0 ≡ get_or (read_in round notes) k 0
noted_other round [] place k n apart = refl
noted_other round (m ∷ ms) zero zero n apart = absurd (apart refl)
noted_other round (m ∷ ms) zero (suc k) n apart = refl
noted_other round (m ∷ ms) (suc place) zero n apart = refl
noted_other round (m ∷ ms) (suc place) (suc k) n apart = noted_other round ms place k n (λ e. apart (ap suc e))

pub noted_there : (round : ℕ) (notes : List Note) (place : ℕ) (n : Note) → place < length notes → get_or (read_in round (set notes place n)) place 0 ≡ count_in round n
noted_there round [] place n low = absurd (omega (arith, low))
noted_there round (m ∷ ms) zero n low = refl
noted_there round (m ∷ ms) (suc place) n low = noted_there round ms place n (omega (arith, low))

pub nothing_noted : (round : ℕ) (notes : List Note) (place : ℕ) → length notes ≤ place → get_or (read_in round notes) place 0 ≡ 0
nothing_noted round [] place past = refl
nothing_noted round (m ∷ ms) zero past = absurd (omega (arith, past))
nothing_noted round (m ∷ ms) (suc place) past = nothing_noted round ms place (omega (arith, past))

none_counted : (b : Bool) (count : ℕ) → count ≡ 0 → cond b count 0 ≡ 0
none_counted true count none = none
none_counted false count none = refl

-- an empty note more says nothing
pub empty_note : (round : ℕ) (notes : List Note) (n : Note) (k : ℕ) → n.count ≡ 0 → get_or (read_in round (notes ++ n ∷ [])) k 0 ≡ get_or (read_in round notes) k 0
empty_note round [] n zero none = none_counted (n.round == round) n.count none
empty_note round [] n (suc k) none = refl
empty_note round (m ∷ ms) n zero none = refl
empty_note round (m ∷ ms) n (suc k) none = empty_note round ms n k none

of_before : (old new count : ℕ) → old < new → cond (old == new) count 0 ≡ 0
of_before old new count earlier = grind (arith, nat_tests)

-- notes of earlier rounds say nothing
pub forgotten : (round new : ℕ) (notes : List Note) → All (λ n. n.round ≤ round) notes → round < new → (k : ℕ) → get_or (read_in new notes) k 0 ≡ 0
forgotten round new [] within later k = refl
forgotten round new (m ∷ ms) within later zero = of_before m.round new m.count (omega (arith, within 0 m (omega arith), later))
forgotten round new (m ∷ ms) within later (suc k) = forgotten round new ms (λ j d low. within (suc j) d (omega (arith, low))) later k
