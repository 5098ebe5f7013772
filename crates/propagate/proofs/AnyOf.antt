-- That one element of a list has something: at its head or in the rest, and as a test tells.
use Rattle.std.proofs.Common.{◌≡◌, ℕ, zero, suc, ◌<◌, Bool, true, false, ◌||◌, List, [], ◌∷◌, Any, length, get_or, refl, sym, subst, inl, inr, ◌⊎◌, arith}
use Rattle.std.specs.List.{list_any}
use Rattle.std.proofs.lemmas.Bool.{false≢true}

pub any_here : {X : Type 0} (P : X → Type 0) (x : X) (xs : List X) → P x → Any P (x ∷ xs)
any_here P x xs p = (0, x, omega arith, refl, p)

pub any_there : {X : Type 0} (P : X → Type 0) (x : X) (xs : List X) → Any P xs → Any P (x ∷ xs)
any_there P x xs a = (suc a.0, a.1, omega (arith, a.2), a.3, a.4)

split_at : {X : Type 0} (P : X → Type 0) (x : X) (xs : List X) (k : ℕ) (y : X) → k < length (x ∷ xs) → get_or (x ∷ xs) k y ≡ y → P y → P x ⊎ Any P xs
split_at P x xs zero y h e p = inl (subst P (sym e) p)
split_at P x xs (suc k) y h e p = inr (k, y, omega (arith, h), e, p)

pub any_split : {X : Type 0} (P : X → Type 0) (x : X) (xs : List X) → Any P (x ∷ xs) → P x ⊎ Any P xs
any_split P x xs a = split_at P x xs a.0 a.1 a.2 a.3 a.4

pub any_none : {X : Type 0} (P : X → Type 0) → Any P [] → ⊥
any_none P a = omega (arith, a.2)

-- by a test that tells
here_or_there : {X : Type 0} (P : X → Type 0) (b d : Bool) (x : X) (xs : List X) → (b ≡ true → P x) → (d ≡ true → Any P xs) → (b || d) ≡ true → Any P (x ∷ xs)
here_or_there P true d x xs f g h = any_here P x xs (f refl)
here_or_there P false d x xs f g h = any_there P x xs (g h)

pub any_from_test : {X : Type 0} (P : X → Type 0) (p : X → Bool) → ((x : X) → p x ≡ true → P x) → (xs : List X) → list_any p xs ≡ true → Any P xs
any_from_test P p f [] h = absurd (false≢true h)
any_from_test P p f (x ∷ xs) h = here_or_there P (p x) (list_any p xs) x xs (f x) (any_from_test P p f xs) h

neither : (b d : Bool) → (b || d) ≡ false → (b ≡ false) × (d ≡ false)
neither true d h = absurd (false≢true (cc))
neither false d h = (refl, h)

pub none_from_test : {X : Type 0} (P : X → Type 0) (p : X → Bool) → ((x : X) → P x → p x ≡ true) → (xs : List X) → list_any p xs ≡ false → Any P xs → ⊥
none_from_test P p f [] h a = any_none P a
none_from_test P p f (x ∷ xs) h a =
    let parts = neither (p x) (list_any p xs) h in
    elim (any_split P x xs a) [
      | inl here ↦ let e = f x here in absurd (false≢true (cc))
      | inr there ↦ none_from_test P p f xs parts.1 there
    ]
