-- What holds at a place of a list that is seen through a function.
use Rattle.std.proofs.Common.{◌≡◌, ℕ, ◌+◌, ◌<◌, ◌≤◌, All, List, map, length, get_or, ap, sym, subst, ◌∙◌, arith}
use Rattle.std.specs.List.{AllWithin, HoldsAt}
use Rattle.normal_form.specs.Normal.{NormalConstraint}
use Rattle.std.proofs.lemmas.List.{get_or-map, length-map}
use Rattle.std.proofs.lemmas.List.Elements.{AllWithin-more}

seen_at : {X Y : Type 0} (f : X → Y) (xs : List X) (i : ℕ) (x : X) (d : Y) → i < length xs → x ≡ get_or xs i x → f x ≡ get_or (map f xs) i d
seen_at f xs i x d h is = ap f is ∙ sym (get_or-map f xs i x d h)

pub holds_seen : {X Y : Type 0} (f : X → Y) (P : Y → Type 0) (xs : List X) (i : ℕ) (x : X) → i < length xs → x ≡ get_or xs i x → P (f x) → HoldsAt P (map f xs) i
holds_seen f P xs i x h is p d = subst P (seen_at f xs i x d h is) p

pub more_seen : {X Y : Type 0} (f : X → Y) (P : Y → Type 0) (xs : List X) (low i : ℕ) (x : X) → AllWithin P (map f xs) low i → i < length xs → x ≡ get_or xs i x → P (f x) → AllWithin P (map f xs) low (i + 1)
more_seen f P xs low i x all h is p = AllWithin-more P (map f xs) low i all (holds_seen f P xs i x h is p)

-- the element at a place
pub stands_seen : {X Y : Type 0} (f : X → Y) (xs : List X) (i : ℕ) (x : X) → i < length xs → x ≡ get_or xs i x → (i < length (map f xs)) × (get_or (map f xs) i (f x) ≡ f x)
stands_seen f xs i x h is = (omega (arith, h, length-map xs f), sym (seen_at f xs i x (f x) h is))

-- the same list, seen through the function
pub seen_same : {X : Type 0} (f : X → NormalConstraint) (xs ys : List X) (ns : List NormalConstraint) → xs ≡ ys → map f ys ≡ ns → map f xs ≡ ns
seen_same f xs ys ns e h = ap (map f) e ∙ h

-- what holds of all holds of the element at a place
pub holds_item : {X : Type 0} (P : X → Type 0) (xs : List X) (i : ℕ) (x : X) → All P xs → i < length xs → x ≡ get_or xs i x → P x
holds_item P xs i x all h is = subst P (sym is) (all i x h)

-- what holds from the first place to the last holds of all
pub all_within : {X : Type 0} (P : X → Type 0) (xs : List X) (high : ℕ) → length xs ≤ high → AllWithin P xs 0 high → All P xs
all_within P xs high h all k d low = all k d (omega arith) (omega (arith, low, h))
