-- The literals of a trail: none twice, and none beside its opposite.
use Rattle.std.proofs.Common.{◌≡◌, ℕ, zero, suc, ◌+◌, ◌<◌, ◌≤◌, false, List, [], ◌∷◌, ◌++◌, length, get_or, take, ap, sym, subst, ◌∙◌, arith}
use Rattle.std.proofs.lemmas.Bool.{false≢true}
use Rattle.std.proofs.lemmas.List.{take_more}
use Rattle.std.proofs.Math.Seq.{take-length}
use Rattle.linear.specs.declared.term.Lit.{Lit}
use Rattle.propagate.specs.Literals.{IsConsistent, IsOnce}
use Rattle.propagate.proofs.Consistency.{push_consistent}
use Rattle.propagate.proofs.Assignments.{once_push}
use Rattle.propagate.specs.declared.value.Value.{Value}
use Rattle.propagate.specs.Trails.{IsFree, IsTrail}

abbrev AreApart : List Lit → Type 0
AreApart xs = IsOnce xs × IsConsistent xs

apart_more : (xs : List Lit) (l : Lit) → AreApart xs → IsFree xs l → AreApart (xs ++ l ∷ [])
apart_more xs l a f = (once_push xs l a.0 f.0, push_consistent xs l a.1 f.1)

nothing_apart : AreApart []
nothing_apart = (tt, λ m. false≢true m.1)

any : Lit
any = record { var = record { 0 = 0 }; negated = false }

apart_to : (xs : List Lit) → ((k : ℕ) (d : Lit) → k < length xs → IsFree (take k xs) (get_or xs k d)) → (k : ℕ) → k ≤ length xs → AreApart (take k xs)
apart_to xs fresh zero h = nothing_apart
apart_to xs fresh (suc k) h =
    let low : k < length xs = omega (arith, h) in
    let one : suc k ≡ k + 1 = omega arith in
    let next : take (suc k) xs ≡ take k xs ++ get_or xs k any ∷ [] = ap (λ (j : ℕ). take j xs) one ∙ take_more xs k any low in
    subst AreApart (sym next) (apart_more (take k xs) (get_or xs k any) (apart_to xs fresh k (omega (arith, low))) (fresh k any low))

pub apart : (assigned : List Lit) (values : List Value) → IsTrail assigned values → IsOnce assigned × IsConsistent assigned
apart assigned values t = subst AreApart (take-length assigned) (apart_to assigned t.fresh (length assigned) (omega arith))
