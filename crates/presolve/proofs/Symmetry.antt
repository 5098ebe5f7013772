-- Two variables may change places where each constraint that has one of them becomes one of the file.
use Rattle.std.proofs.Common.{◌≡◌, ℕ, zero, suc, ◌+◌, ◌<◌, ◌≤◌, ◌⊎◌, inl, inr, ◌==◌, if◌then◌else◌, Bool, true, false, List, [], ◌∷◌, length, get_or, All, Contains, IsTrue, refl, sym, ap, subst, ◌∙◌, arith}
use Rattle.std.specs.Prelude.{◌↔◌}
use Rattle.std.specs.Global.{Vec}
use Rattle.std.specs.List.{list_any}
use Rattle.std.proofs.lemmas.Bool.Decides.{nat_tests}
use Rattle.std.proofs.lemmas.List.{get_or_default, get_or-map, length-map}
use Rattle.std.proofs.lemmas.List.Elements.{Contains-get_or}
use Rattle.linear.specs.declared.constraint.Relation.{Relation}
use Rattle.linear.specs.declared.constraint.Relation.TheVariants as relations
use Rattle.linear.specs.declared.constraint.Signed.{Signed}
use Rattle.normal_form.specs.declared.term.NormalTerm.{NormalTerm}
use Rattle.normal_form.specs.Normal.{NormalConstraint, Rises, coefficient, only, same_sign, sum_over}
use Rattle.normal_form.proofs.OneList.{one_constraint}
use Rattle.presolve.specs.Forms.{AreKeysOf, ArePlacesOf, HasExchange, HasExchangeAt, HasTerm, constraint_of, constraints_of, places_at}
use Rattle.presolve.specs.Standing.{IsFormAs}
use Rattle.presolve.specs.Swapping.{IsExchange, IsFormIn, IsSymmetric}
use Rattle.presolve.specs.declared.form.Form.{Form}
use Rattle.presolve.proofs.Keys.{TellsApart, found, looked_up}

form_rises : (r : Relation) (c : Signed) (n : NormalConstraint) → IsFormAs r c n → Rises 0 n.terms
form_rises relations.AtLeast c n f = f.rises
form_rises relations.Equal c n (inl f) = f.rises
form_rises relations.Equal c n (inr f) = f.rises

-- the key at a place is among the constraints
pub key_in : (keys : List Form) (i : ℕ) (d : Form) → i < length keys → Contains (constraints_of keys) (constraint_of (get_or keys i d))
key_in keys i d h =
    let n = constraint_of (get_or keys i d) in
    (i, omega (arith, h, length-map keys constraint_of), get_or-map constraint_of keys i d n h)

pub keys_rise : (cs : List Signed) (keys : List Form) → AreKeysOf cs keys → All (λ k. Rises 0 k.terms.items) keys
keys_rise cs keys are i d h =
    let form = (are (constraint_of (get_or keys i d))).1 (key_in keys i d h) in
    form_rises (form.1).relation form.1 (constraint_of (get_or keys i d)) form.4

pub some_form : (keys : List Form) (i : ℕ) → i < length keys → Form
some_form [] i h = absurd (omega (arith, h))
some_form (k ∷ ks) i h = k

-- a constraint among those of keys rises, where they do
pub member_rises : (keys : List Form) (m : NormalConstraint) → All (λ k. Rises 0 k.terms.items) keys → Contains (constraints_of keys) m → Rises 0 m.terms
member_rises keys m rises c =
    let inside : c.0 < length keys = omega (arith, c.1, length-map keys constraint_of) in
    let k : Form = some_form keys c.0 inside in
    subst (λ (n : NormalConstraint). Rises 0 n.terms) (sym (get_or-map constraint_of keys c.0 k m inside) ∙ c.2) (rises c.0 k inside)

-- the exchanged constraint is looked up
pub exchange_found : (same : Form → Form → Bool) → TellsApart same → (keys : List Form) (x y : ℕ) (n : NormalConstraint) (image : Form) (answer : Bool) → All (λ k. Rises 0 k.terms.items) keys
    → IsExchange x y n (constraint_of image) → Rises 0 image.terms.items → answer ≡ list_any (same image) keys → IsTrue answer ↔ HasExchange x y (constraints_of keys) n
exchange_found same tells keys x y n image answer rises is up found_by =
    (λ h. (constraint_of image, found same tells keys image (sym found_by ∙ h), is), λ has. found_by ∙ looked_up same tells keys image (subst (Contains (constraints_of keys)) (one has) has.1))
  where
    one : (has : HasExchange x y (constraints_of keys) n) → has.0 ≡ constraint_of image
    one has =
        one_constraint has.0 (constraint_of image) (member_rises keys has.0 rises has.1) up (λ v s. has.2.coefficients v s ∙ sym (is.coefficients v s)) (has.2.degree ∙ sym is.degree)

-- a term that stands among others that rise is the only one of its variable
pub none_before : (low v : ℕ) (s : Bool) (ts : List NormalTerm) → Rises low ts → v < low → sum_over (only v s) ts ≡ 0
none_before low v s [] r h = refl
none_before low v s (t ∷ ts) r h =
    let rest = none_before (t.var.0 + 1) v s ts r.2 (omega (arith, r.0, h)) in
    let here : (t.var.0 == v) ≡ false = grind (arith, nat_tests, r.0, h) in
    grind (arith, rest, here)

low_at : (low : ℕ) (ts : List NormalTerm) (i : ℕ) (d : NormalTerm) → Rises low ts → i < length ts → low ≤ (get_or ts i d).var.0
low_at low (t ∷ ts) zero d r h = r.0
low_at low (t ∷ ts) (suc i) d r h = omega (arith, r.0, low_at (t.var.0 + 1) ts i d r.2 (omega (arith, h)))
low_at low [] i d r h = absurd (omega (arith, h))

only_term : (low : ℕ) (ts : List NormalTerm) (t : NormalTerm) (i : ℕ) (d : NormalTerm) (s : Bool) → Rises low ts → i < length ts → get_or ts i d ≡ t
    → sum_over (only (t.var.0) s) ts ≡ (if same_sign s t.negated then t.coef else 0)
only_term low [] t i d s r h e = absurd (omega (arith, h))
only_term low (u ∷ us) t zero d s r h e =
    subst (λ (x : NormalTerm). sum_over (only (x.var.0) s) (u ∷ us) ≡ (if same_sign s x.negated then x.coef else 0)) e
    (let rest = none_before (u.var.0 + 1) (u.var.0) s us r.2 (omega arith) in
    let here : (u.var.0 == u.var.0) ≡ true = grind (arith, nat_tests) in
    grind (arith, rest, here))
only_term low (u ∷ us) t (suc i) d s r h e =
    let rest = only_term (u.var.0 + 1) us t i d s r.2 (omega (arith, h)) e in
    let above : u.var.0 + 1 ≤ t.var.0 = subst (λ (x : NormalTerm). u.var.0 + 1 ≤ x.var.0) e (low_at (u.var.0 + 1) us i d r.2 (omega (arith, h))) in
    let here : (u.var.0 == t.var.0) ≡ false = grind (arith, nat_tests, above) in
    grind (arith, rest, here)

-- terms that are alike
pub alike_terms : (x y : ℕ) (n : NormalConstraint) (t u : NormalTerm) → Rises 0 n.terms → Contains n.terms t × (t.var.0 ≡ x) → Contains n.terms u × (u.var.0 ≡ y)
    → t.coef ≡ u.coef → t.negated ≡ u.negated → IsExchange x y n n
alike_terms x y n t u rises first second coefs signs = record { coefficients = λ v s. by v s (v == x) (v == y) refl refl; degree = refl }
  where
    same : (s : Bool) → coefficient n x s ≡ coefficient n y s
    same s =
        ap (λ v. coefficient n v s) (sym first.1)
        ∙ only_term 0 n.terms t first.0.0 t s rises first.0.1 (get_or_default n.terms first.0.0 t t first.0.1 ∙ first.0.2)
        ∙ ap (λ c. if same_sign s t.negated then c else 0) coefs
        ∙ ap (λ m. if same_sign s m then u.coef else 0) signs
        ∙ sym (only_term 0 n.terms u second.0.0 u s rises second.0.1 second.0.2)
        ∙ ap (λ v. coefficient n v s) second.1

    by : (v : ℕ) (s p q : Bool) → p ≡ (v == x) → q ≡ (v == y) → coefficient n v s ≡ coefficient n (if p then y else if q then x else v) s
    by v s true q e f = ap (λ k. coefficient n k s) (number v x e) ∙ same s
      where
        number : (a b : ℕ) → true ≡ (a == b) → a ≡ b
        number a b t = grind (arith, nat_tests)
    by v s false true e f = ap (λ k. coefficient n k s) (number v y f) ∙ sym (same s)
      where
        number : (a b : ℕ) → true ≡ (a == b) → a ≡ b
        number a b t = grind (arith, nat_tests)
    by v s false false e f = refl

-- a variable has a term, or its literals have no coefficient
has_or_none : (v : ℕ) (ts : List NormalTerm) → HasTerm v ts ⊎ ((s : Bool) → sum_over (only v s) ts ≡ 0)
has_or_none v [] = inr (λ s. refl)
has_or_none v (t ∷ ts) = by (t.var.0 == v) refl (has_or_none v ts)
  where
    by : (b : Bool) → b ≡ (t.var.0 == v) → HasTerm v ts ⊎ ((s : Bool) → sum_over (only v s) ts ≡ 0) → HasTerm v (t ∷ ts) ⊎ ((s : Bool) → sum_over (only v s) (t ∷ ts) ≡ 0)
    by true e rest = inl (0, t, omega arith, refl, grind (arith, nat_tests))
    by false e (inl has) = inl (suc has.0, has.1, omega (arith, has.2), has.3, has.4)
    by false e (inr none) = inr (λ s. grind (arith, nat_tests, none s))

-- a constraint that has neither variable stays as it is
itself : (x y : ℕ) (n : NormalConstraint) → ((s : Bool) → coefficient n x s ≡ 0) → ((s : Bool) → coefficient n y s ≡ 0) → IsExchange x y n n
itself x y n no_x no_y = record { coefficients = λ v s. by v s (v == x) (v == y) refl refl; degree = refl }
  where
    by : (v : ℕ) (s p q : Bool) → p ≡ (v == x) → q ≡ (v == y) → coefficient n v s ≡ coefficient n (if p then y else if q then x else v) s
    by v s true q e f = ap (λ k. coefficient n k s) (same v x e) ∙ no_x s ∙ sym (no_y s)
      where
        same : (a b : ℕ) → true ≡ (a == b) → a ≡ b
        same a b t = grind (arith, nat_tests)
    by v s false true e f = ap (λ k. coefficient n k s) (same v y f) ∙ no_y s ∙ sym (no_x s)
      where
        same : (a b : ℕ) → true ≡ (a == b) → a ≡ b
        same a b t = grind (arith, nat_tests)
    by v s false false e f = refl

-- where two variables may change places, each constraint at the places of one becomes one of the file
pub at_places : (cs : List Signed) (keys : List Form) (count : ℕ) (places : List (Vec ℕ)) (x y v : ℕ) → AreKeysOf cs keys → ArePlacesOf keys count places → v < count
    → IsSymmetric cs x y → All (λ i. HasExchangeAt x y keys i) (places_at places v)
at_places cs keys count places x y v are placed inside symmetric j d h e =
    let i = get_or (places_at places v) j d in
    let at = ((placed.places v inside i).0 (Contains-get_or (places_at places v) j d h)).0 in
    let is = symmetric (constraint_of (get_or keys i e)) ((are (constraint_of (get_or keys i e))).1 (key_in keys i e at)) in
    (is.0, (are is.0).0 is.1, is.2)

all_at : (P : ℕ → Type 0) (xs : List ℕ) (i : ℕ) → All P xs → Contains xs i → P i
all_at P xs i all c = subst P c.2 (all c.0 i c.1)

-- the other way round
pub symmetric_by : (cs : List Signed) (keys : List Form) (count : ℕ) (places : List (Vec ℕ)) (x y : ℕ) → AreKeysOf cs keys → ArePlacesOf keys count places → x < count → y < count
    → All (λ i. HasExchangeAt x y keys i) (places_at places x) → All (λ i. HasExchangeAt x y keys i) (places_at places y) → IsSymmetric cs x y
symmetric_by cs keys count places x y are placed below_x below_y first second n form =
    let c = (are n).0 form in
    let inside : c.0 < length keys = omega (arith, c.1, length-map keys constraint_of) in
    let k : Form = some_form keys c.0 inside in
    let is : constraint_of (get_or keys c.0 k) ≡ n = sym (get_or-map constraint_of keys c.0 k n inside) ∙ c.2 in
    by c.0 k inside is (has_or_none x (get_or keys c.0 k).terms.items) (has_or_none y (get_or keys c.0 k).terms.items)
  where
    here : (v i : ℕ) (k : Form) → i < length keys → constraint_of (get_or keys i k) ≡ n → v < count → All (λ i. HasExchangeAt x y keys i) (places_at places v) → HasTerm v (get_or keys i k).terms.items
        → (m : NormalConstraint) × IsFormIn cs m × IsExchange x y n m
    here v i k inside is below all has =
        let at = (placed.places v below i).1 (inside, λ e. subst (λ (f : Form). HasTerm v f.terms.items) (get_or_default keys i k e inside) has) in
        let ex = all_at (λ j. HasExchangeAt x y keys j) (places_at places v) i all at k in
        (ex.0, (are ex.0).1 ex.1, subst (λ p. IsExchange x y p ex.0) is ex.2)

    by : (i : ℕ) (k : Form) → i < length keys → constraint_of (get_or keys i k) ≡ n → HasTerm x (get_or keys i k).terms.items ⊎ ((s : Bool) → sum_over (only x s) (get_or keys i k).terms.items ≡ 0)
        → HasTerm y (get_or keys i k).terms.items ⊎ ((s : Bool) → sum_over (only y s) (get_or keys i k).terms.items ≡ 0) → (m : NormalConstraint) × IsFormIn cs m × IsExchange x y n m
    by i k inside is (inl has) other = here x i k inside is below_x first has
    by i k inside is (inr none) (inl has) = here y i k inside is below_y second has
    by i k inside is (inr none) (inr neither) = (n, form, subst (λ p. IsExchange x y p p) is (itself x y (constraint_of (get_or keys i k)) none neither))

-- a list of the table that is lent
pub lent : (table : List (Vec ℕ)) (v : ℕ) (p : Vec ℕ) → v < length table → p ≡ get_or table v p → p.items ≡ places_at table v
lent table v p h is = ap (λ (q : Vec ℕ). q.items) is ∙ sym (get_or-map (λ (q : Vec ℕ). q.items) table v p [] h)

-- at each of its places there is a key
pub place_inside : (keys : List Form) (count : ℕ) (table : List (Vec ℕ)) (v j : ℕ) (xs : List ℕ) → ArePlacesOf keys count table → v < count → xs ≡ places_at table v → j < length xs → get_or xs j 0 < length keys
place_inside keys count table v j xs placed below is h =
    ((placed.places v below (get_or xs j 0)).0 (subst (λ l. Contains l (get_or xs j 0)) is (Contains-get_or xs j 0 h))).0
