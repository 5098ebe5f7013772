-- Which pairs are used, one first variable after the other.
use Rattle.std.proofs.Common.{◌≡◌, ◌≢◌, ℕ, suc, ◌+◌, ◌-◌, ◌<◌, ◌≤◌, ◌⊎◌, inl, inr, Bool, false, List, [], ◌∷◌, ◌++◌, Some, take, length, get_or, All, Contains, refl, sym, ap, subst, ◌∙◌, arith}
use Rattle.std.specs.Prelude.{◌↔◌}
use Rattle.std.proofs.lemmas.Bool.{cases_lt, cases_order}
use Rattle.std.proofs.lemmas.List.{get_or_default, take_more}
use Rattle.std.proofs.lemmas.List.Elements.{All-more, All-nil, All-pop, All-push, Contains-append_left, Contains-get_or, Contains-push, Contains-push_cases}
use Rattle.std.proofs.lemmas.List.Quantifiers.{all_pairs_push}
use Rattle.linear.specs.Opb.{Opb}
use Rattle.linear.specs.declared.term.Lit.{Lit}
use Rattle.presolve.specs.Pairs.{AreTaken, AreUsedBelow, IsPartner}
use Rattle.presolve.specs.Swapping.{AreUsed, IsEarlier, IsFree, IsSwappable, IsUsed, IsWithout, most_tried, pairs_before, rank}
use Rattle.presolve.specs.declared.swapping.Swap.{Swap}

all_member : {X : Type 0} (P : X → Type 0) (xs : List X) (x : X) → All P xs → Contains xs x → P x
all_member P xs x all c = subst P c.2 (all c.0 x c.1)

all_from : {X : Type 0} (P : X → Type 0) (xs : List X) → ((x : X) → Contains xs x → P x) → All P xs
all_from P xs h i d inside = h (get_or xs i d) (Contains-get_or xs i d inside)

pair_of : ℕ → ℕ → Swap
pair_of x y = record { first = record { 0 = x }; second = record { 0 = y } }

-- nothing is used before the first variable
pub none_used : (p : Opb) (fixed : List Lit) → AreUsedBelow p fixed 0 []
none_used p fixed = record { order = λ i j d lt within. absurd (omega (arith, within)); exact = λ s. (λ c. absurd (omega (arith, c.1)), λ h. absurd (omega (arith, h.0))) }

-- of a pair that begins at the bound the variables are free where it is used
free_of_used : (p : Opb) (fixed : List Lit) (bound v : ℕ) (used : List Swap) (s : Swap) → AreUsedBelow p fixed bound used → s.first.0 ≡ bound → (All (λ l. l.var.0 ≢ v) fixed)
    → ((t : Swap) → Contains used t → IsEarlier t s → IsWithout v t) → IsFree fixed used v
free_of_used p fixed bound v used s are at unfixed apart =
    record { unfixed = unfixed; unused = all_from (IsWithout v) used (λ t c. let below = ((are.exact t).0 c).0 in apart t c (inl (omega (arith, below, at)))) }

first_unfixed : (fixed : List Lit) (x y : ℕ) → All (λ l. (l.var.0 ≢ x) × (l.var.0 ≢ y)) fixed → All (λ l. l.var.0 ≢ x) fixed
first_unfixed fixed x y all i d h = (all i d h).0

second_unfixed : (fixed : List Lit) (x y : ℕ) → All (λ l. (l.var.0 ≢ x) × (l.var.0 ≢ y)) fixed → All (λ l. l.var.0 ≢ y) fixed
second_unfixed fixed x y all i d h = (all i d h).1

-- a used pair of the variable at the bound is one of a free variable and a partner
pub used_is_partner : (p : Opb) (fixed : List Lit) (used : List Swap) (taken : List Bool) (left x : ℕ) (s : Swap) → AreUsedBelow p fixed x used → AreTaken fixed used taken → length taken ≡ length p.names
    → left ≡ most_tried - pairs_before (length p.names) x → s.first.0 ≡ x → IsUsed p fixed used s → IsFree fixed used x × IsPartner p taken left x (s.second.0)
used_is_partner p fixed used taken left x s are tables long is at u =
    let unfixed : All (λ l. l.var.0 ≢ x) fixed = subst (λ v. All (λ l. l.var.0 ≢ v) fixed) at (first_unfixed fixed (s.first.0) (s.second.0) u.unfixed) in
    let free : IsFree fixed used x = free_of_used p fixed x x used s are at unfixed (λ t c e. subst (λ v. IsWithout v t) at (u.apart t c e).0) in
    let other : IsFree fixed used (s.second.0) = free_of_used p fixed x (s.second.0) used s are at (second_unfixed fixed (s.first.0) (s.second.0) u.unfixed) (λ t c e. (u.apart t c e).1) in
    let tried : rank (length p.names) x (s.second.0) < most_tried = subst (λ v. rank (length p.names) v (s.second.0) < most_tried) at u.tried in
    let swappable : IsSwappable p x (s.second.0) = subst (λ v. IsSwappable p v (s.second.0)) at u.swappable in
    (free, record { swappable = swappable; free = (tables (s.second.0) (omega (arith, swappable.variable, long))).1 other; near = omega (arith, tried, is) })

-- where none begins with a variable, the pairs are as before
pub none_more : (p : Opb) (fixed : List Lit) (x : ℕ) (used : List Swap) → AreUsedBelow p fixed x used → ((s : Swap) → s.first.0 ≡ x → IsUsed p fixed used s → ⊥) → AreUsedBelow p fixed (x + 1) used
none_more p fixed x used are none = record {
  order = are.order;
  exact = λ s. (λ c. let h = (are.exact s).0 c in (omega (arith, h.0), h.1), λ h. by s h (cases_lt (s.first.0) x));
}
  where
    by : (s : Swap) → (s.first.0 < x + 1) × IsUsed p fixed used s → (s.first.0 < x) ⊎ (x ≤ s.first.0) → Contains used s
    by s h (inl below) = (are.exact s).1 (below, h.1)
    by s h (inr above) = absurd (none s (omega (arith, h.0, above)) h.1)

-- a pair that is not earlier does not count
used_beside : (p : Opb) (fixed : List Lit) (used : List Swap) (new s : Swap) → (IsEarlier new s → ⊥) → IsUsed p fixed used s → IsUsed p fixed (used ++ new ∷ []) s
used_beside p fixed used new s later u = record { swappable = u.swappable; tried = u.tried; unfixed = u.unfixed; apart = λ t c e. by t e (Contains-push_cases used new t c) }
  where
    by : (t : Swap) → IsEarlier t s → Contains used t ⊎ (new ≡ t) → IsWithout (s.first.0) t × IsWithout (s.second.0) t
    by t e (inl c) = u.apart t c e
    by t e (inr same) = absurd (later (subst (λ w. IsEarlier w s) (sym same) e))

used_among : (p : Opb) (fixed : List Lit) (used : List Swap) (new s : Swap) → IsUsed p fixed (used ++ new ∷ []) s → IsUsed p fixed used s
used_among p fixed used new s u = record { swappable = u.swappable; tried = u.tried; unfixed = u.unfixed; apart = λ t c e. u.apart t (Contains-append_left used (new ∷ []) t c) e }

not_earlier : (new s : Swap) → s.first.0 < new.first.0 → IsEarlier new s → ⊥
not_earlier new s below (inl h) = omega (arith, below, h)
not_earlier new s below (inr h) = omega (arith, below, h.0)

not_before_itself : (s : Swap) → IsEarlier s s → ⊥
not_before_itself s (inl h) = omega (arith, h)
not_before_itself s (inr h) = omega (arith, h.1)

same_pair : (s t : Swap) → s.first.0 ≡ t.first.0 → s.second.0 ≡ t.second.0 → s ≡ t
unfolding pair_of
same_pair s t f g = ap (λ x. pair_of x (s.second.0)) f ∙ ap (λ y. pair_of (t.first.0) y) g

-- the first partner of a free variable is used
pub one_more : (p : Opb) (fixed : List Lit) (x y left : ℕ) (used : List Swap) (taken : List Bool) (new : Swap) → AreUsedBelow p fixed x used → AreTaken fixed used taken → length taken ≡ length p.names → x < length p.names
    → left ≡ most_tried - pairs_before (length p.names) x → new.first.0 ≡ x → new.second.0 ≡ y → IsFree fixed used x → IsPartner p taken left x y → ((z : ℕ) → z < y → IsPartner p taken left x z → ⊥)
    → AreUsedBelow p fixed (x + 1) (used ++ new ∷ [])
one_more p fixed x y left used taken new are tables long inside is first second free partner least = record {
  order = all_pairs_push (λ s t. s.first.0 < t.first.0) used new are.order (λ i d h. omega (arith, ((are.exact (get_or used i d)).0 (Contains-get_or used i d h)).0, first));
  exact = λ s. (λ c. there s (Contains-push_cases used new s c), λ h. back s h (cases_lt (s.first.0) x));
}
  where
    other : IsFree fixed used y
    other = (tables y (omega (arith, partner.swappable.variable, long))).0 partner.free

    here : IsUsed p fixed (used ++ new ∷ []) new
    here = record {
      swappable = subst (λ v. IsSwappable p v (new.second.0)) (sym first) (subst (λ v. IsSwappable p x v) (sym second) partner.swappable);
      tried = subst (λ v. rank (length p.names) v (new.second.0) < most_tried) (sym first) (subst (λ v. rank (length p.names) x v < most_tried) (sym second) (omega (arith, partner.near, is)));
      unfixed = λ i d h. (λ e. free.unfixed i d h (e ∙ first), λ e. other.unfixed i d h (e ∙ second));
      apart = λ t c e. by t e (Contains-push_cases used new t c);
    }
      where
        by : (t : Swap) → IsEarlier t new → Contains used t ⊎ (new ≡ t) → IsWithout (new.first.0) t × IsWithout (new.second.0) t
        by t e (inl c) = (subst (λ v. IsWithout v t) (sym first) (all_member (IsWithout x) used t free.unused c), subst (λ v. IsWithout v t) (sym second) (all_member (IsWithout y) used t other.unused c))
        by t e (inr same) = absurd (not_before_itself new (subst (λ w. IsEarlier w new) (sym same) e))

    there : (s : Swap) → Contains used s ⊎ (new ≡ s) → (s.first.0 < x + 1) × IsUsed p fixed (used ++ new ∷ []) s
    there s (inl c) =
        let h = (are.exact s).0 c in
        (omega (arith, h.0), used_beside p fixed used new s (not_earlier new s (omega (arith, h.0, first))) h.1)
    there s (inr same) = subst (λ w. (w.first.0 < x + 1) × IsUsed p fixed (used ++ new ∷ []) w) same (omega (arith, first), here)

    at_bound : (s : Swap) → s.first.0 ≡ x → IsUsed p fixed (used ++ new ∷ []) s → (s.second.0 ≡ new.second.0) ⊎ ((s.second.0 < new.second.0) ⊎ (new.second.0 < s.second.0)) → Contains (used ++ new ∷ []) s
    at_bound s at u (inl same) = subst (Contains (used ++ new ∷ [])) (same_pair new s (first ∙ sym at) (sym same)) (Contains-push used new)
    at_bound s at u (inr (inl below)) =
        absurd (least (s.second.0) (omega (arith, below, second)) (used_is_partner p fixed used taken left x s are tables long is at (used_among p fixed used new s u)).1)
    at_bound s at u (inr (inr above)) = absurd ((u.apart new (Contains-push used new) (inr (first ∙ sym at, above))).0.0 (first ∙ sym at))

    back : (s : Swap) → (s.first.0 < x + 1) × IsUsed p fixed (used ++ new ∷ []) s → (s.first.0 < x) ⊎ (x ≤ s.first.0) → Contains (used ++ new ∷ []) s
    back s h (inl below) = Contains-append_left used (new ∷ []) s ((are.exact s).1 (below, used_among p fixed used new s h.1))
    back s h (inr above) = at_bound s (omega (arith, h.0, above)) h.1 (cases_order (s.second.0) (new.second.0))

-- what is taken then
pub taken_more : (fixed : List Lit) (used : List Swap) (new : Swap) (old taken : List Bool) → length taken ≡ length old → AreTaken fixed used old
    → ((v : ℕ) → v < length old → (get_or taken v false ≡ false) ↔ ((get_or old v false ≡ false) × IsWithout v new)) → AreTaken fixed (used ++ new ∷ []) taken
taken_more fixed used new old taken long before noted v inside =
    let below : v < length old = omega (arith, inside, long) in
    let was = before v below in
    let is = noted v below in (
      λ e. let h = is.0 e in let f = was.0 h.0 in record { unfixed = f.unfixed; unused = All-push (IsWithout v) used new f.unused h.1 },
      λ f. is.1 (
        was.1 (record { unfixed = f.unfixed; unused = all_from (IsWithout v) used (λ t c. all_member (IsWithout v) (used ++ new ∷ []) t f.unused (Contains-append_left used (new ∷ []) t c)) }),
        all_member (IsWithout v) (used ++ new ∷ []) new f.unused (Contains-push used new),
      ),
    )

-- behind the last variable no pair begins
pub all_used : (p : Opb) (fixed : List Lit) (bound : ℕ) (used : List Swap) → length p.names ≤ bound → AreUsedBelow p fixed bound used → AreUsed p fixed used
all_used p fixed bound used end are = record { order = are.order; exact = λ s. (λ c. ((are.exact s).0 c).1, λ u. (are.exact s).1 (omega (arith, u.swappable.order, u.swappable.variable, end), u)) }

-- one more literal that is fixed
pub fixed_more : (fixed : List Lit) (i : ℕ) (d : Lit) (old taken : List Bool) → i < length fixed → length taken ≡ length old → AreTaken (take i fixed) [] old
    → ((v : ℕ) → v < length old → (get_or taken v false ≡ false) ↔ ((get_or old v false ≡ false) × ((get_or fixed i d).var.0 ≢ v))) → AreTaken (take (i + 1) fixed) [] taken
fixed_more fixed i d old taken h long before noted v inside =
    let below : v < length old = omega (arith, inside, long) in
    let was = before v below in
    let is = noted v below in (
      λ e. let k = is.0 e in let f = was.0 k.0 in record { unfixed = All-more (λ (l : Lit). l.var.0 ≢ v) fixed i d h f.unfixed k.1; unused = All-nil (IsWithout v) },
      λ f. let parts = All-pop (λ (l : Lit). l.var.0 ≢ v) (take (i + 1) fixed) (take i fixed) (Some (get_or fixed i d)) (take_more fixed i d h) f.unfixed in
          is.1 (was.1 (record { unfixed = parts.0; unused = All-nil (IsWithout v) }), parts.1),
    )

-- a value that is read is the one at its place
pub read_at : (taken : List Bool) (v : ℕ) (b c : Bool) → v < length taken → b ≡ get_or taken v b → b ≡ c → get_or taken v false ≡ c
read_at taken v b c h e is = get_or_default taken v false b h ∙ sym e ∙ is

pub pairs_next : (count x : ℕ) → pairs_before count (x + 1) ≡ pairs_before count x + (count - (x + 1))
pairs_next count x = let e : suc x ≡ x + 1 = omega arith in subst (λ y. pairs_before count y ≡ pairs_before count x + (count - y)) e refl
