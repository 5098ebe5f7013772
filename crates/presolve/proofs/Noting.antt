-- What a table of literals says after more was noted in it.
use Rattle.std.proofs.Common.{◌≡◌, ℕ, ◌+◌, ◌<◌, ◌≤◌, ◌⊎◌, inl, inr, ◌||◌, Bool, true, false, cond, not, List, [], ◌∷◌, Some, map, length, get_or, take, unsigned_abs, refl, sym, ap, subst, ◌∙◌, arith}
use Rattle.std.specs.Prelude.{ℤ, pos, negsuc, neg_ℤ, ◌≤ℤ◌, ◌↔◌, ◌==◌}
use Rattle.std.proofs.lemmas.Bool.{false≢true}
use Rattle.std.proofs.lemmas.Int.{ints}
use Rattle.std.proofs.lemmas.List.{take_more}
use Rattle.std.proofs.lemmas.List.Elements.{All-nil, All-more, All-pop}
use Rattle.linear.specs.Limits.{IsSumWithin, IsConstraintWithin}
use Rattle.linear.specs.declared.constraint.Relation.{Relation}
use Rattle.linear.specs.declared.constraint.Relation.TheVariants as relations
use Rattle.linear.specs.declared.constraint.Signed.{Signed}
use Rattle.linear.specs.declared.term.Term.{Term}
use Rattle.normal_form.specs.declared.term.NormalTerm.{NormalTerm}
use Rattle.normal_form.specs.Normal.{NormalConstraint, Rises, coefficient, largest_sum, only, sum_over}
use Rattle.normal_form.specs.NormalOf.{IsNormalOf, IsBothOf, at_least_zero, net, sign_changed, signs_changed, size_sum}
use Rattle.normal_form.proofs.NormalForm.{one_form}
use Rattle.normal_form.proofs.Sums.{rises_at, sum_over_more}
use Rattle.normal_form.proofs.SmallSizes.{size_sum_small}
use Rattle.presolve.specs.Fixing.{price}
use Rattle.presolve.specs.Standing.{IsAbsent, IsFormAs, StandsNowhere}
use Rattle.presolve.specs.Uses.{Notes, NotesForm, stands}
use Rattle.presolve.specs.declared.uses.Uses.{Uses}

-- a term's literal is noted: the sum over it is still 0 where the literal is another
term_noted : (a b : Bool) (x y c : ℕ) (P : Type 0) → 0 < c → y ≡ x + cond b c 0 → ((a ≡ false) ↔ (P × (x ≡ 0))) → (((a || b) ≡ false) ↔ (P × (y ≡ 0)))
term_noted true b x y c P above sum w = (λ h. absurd (false≢true (sym h)), λ h. w.1 (h.0, omega (arith, h.1, sum)))
term_noted false true x y c P above sum w = (λ h. absurd (false≢true (sym h)), λ h. absurd (omega (arith, above, h.1, sum)))
term_noted false false x y c P above sum w = (λ h. let was = w.0 refl in (was.0, omega (arith, was.1, sum)), λ h. refl)

pub form_more : (terms : List NormalTerm) (i : ℕ) (d : NormalTerm) (start old new : List Uses) → Rises 0 terms → i < length terms → length old ≡ length start
    → ((v : ℕ) (s : Bool) → v < length old → stands new v s ≡ stands old v s || only v s ((get_or terms i d).var.0) (get_or terms i d).negated)
    → Notes (λ v s. sum_over (only v s) (take i terms) ≡ 0) start old → Notes (λ v s. sum_over (only v s) (take (i + 1) terms) ≡ 0) start new
form_more terms i d start old new rises h long noted before v s inside =
    let t = get_or terms i d in
    let step = term_noted (stands old v s) (only v s (t.var.0) t.negated) (sum_over (only v s) (take i terms)) (sum_over (only v s) (take (i + 1) terms)) t.coef (stands start v s ≡ false) (rises_at 0 terms i d rises h) (sum_over_more (only v s) terms i d h) (before v s inside) in
    subst (λ b. (b ≡ false) ↔ ((stands start v s ≡ false) × (sum_over (only v s) (take (i + 1) terms) ≡ 0))) (sym (noted v s (subst (λ n. v < n) (sym long) inside))) step

-- what is noted one after the other
pub notes_both : (P Q : ℕ → Bool → Type 0) (start between new : List Uses) → length between ≡ length start → Notes P start between → Notes Q between new → Notes (λ v s. P v s × Q v s) start new
notes_both P Q start between new long first second v s inside =
    let f = first v s inside in
    let g = second v s (subst (λ n. v < n) (sym long) inside) in
    (λ h. let k = g.0 h in let j = f.0 k.0 in (j.0, (j.1, k.1)), λ h. g.1 (f.1 (h.0, h.1.0), h.1.1))

-- the same said in other words
pub notes_as : (P Q : ℕ → Bool → Type 0) (old new : List Uses) → ((v : ℕ) (s : Bool) → P v s ↔ Q v s) → Notes P old new → Notes Q old new
notes_as P Q old new same noted v s inside =
    let n = noted v s inside in
    (λ h. let k = n.0 h in (k.0, (same v s).0 k.1), λ h. n.1 (h.0, (same v s).1 h.1))

-- the normal form of a `>=` has a literal exactly where one of its forms has it
at_least_absent : (r : Relation) (c : Signed) (n : NormalConstraint) (v : ℕ) (s : Bool) → r ≡ relations.AtLeast → IsNormalOf c n
    → (coefficient n v s ≡ 0) ↔ ((m : NormalConstraint) → IsFormAs r c m → coefficient m v s ≡ 0)
at_least_absent r c n v s e form = subst (λ (x : Relation). (coefficient n v s ≡ 0) ↔ ((m : NormalConstraint) → IsFormAs x c m → coefficient m v s ≡ 0)) (sym e) as_at_least
  where
    as_at_least : (coefficient n v s ≡ 0) ↔ ((m : NormalConstraint) → IsNormalOf c m → coefficient m v s ≡ 0)
    as_at_least = (λ h m other. subst (λ (k : NormalConstraint). coefficient k v s ≡ 0) (one_form c n m form other) h, λ h. h n form)

-- so have the two forms of an equality
equal_absent : (r : Relation) (c : Signed) (n m : NormalConstraint) (v : ℕ) (s : Bool) → r ≡ relations.Equal → IsBothOf c n m
    → ((coefficient n v s ≡ 0) × (coefficient m v s ≡ 0)) ↔ ((k : NormalConstraint) → IsFormAs r c k → coefficient k v s ≡ 0)
equal_absent r c n m v s e forms = subst (λ (x : Relation). ((coefficient n v s ≡ 0) × (coefficient m v s ≡ 0)) ↔ ((k : NormalConstraint) → IsFormAs x c k → coefficient k v s ≡ 0)) (sym e) as_equal
  where
    by : (coefficient n v s ≡ 0) × (coefficient m v s ≡ 0) → (k : NormalConstraint) → IsNormalOf c k ⊎ IsNormalOf (signs_changed c) k → coefficient k v s ≡ 0
    by h k (inl at_least) = subst (λ (x : NormalConstraint). coefficient x v s ≡ 0) (one_form c n k forms.at_least at_least) h.0
    by h k (inr at_most) = subst (λ (x : NormalConstraint). coefficient x v s ≡ 0) (one_form (signs_changed c) m k forms.at_most at_most) h.1

    as_equal : ((coefficient n v s ≡ 0) × (coefficient m v s ≡ 0)) ↔ ((k : NormalConstraint) → IsNormalOf c k ⊎ IsNormalOf (signs_changed c) k → coefficient k v s ≡ 0)
    as_equal = (by, λ h. (h n (inl forms.at_least), h m (inr forms.at_most)))

pub at_least_noted : (c : Signed) (n : NormalConstraint) (old new : List Uses) → c.relation ≡ relations.AtLeast → IsNormalOf c n → NotesForm n old new → Notes (λ v s. IsAbsent v s c) old new
at_least_noted c n old new e form noted = notes_as (λ v s. coefficient n v s ≡ 0) (λ v s. IsAbsent v s c) old new (λ v s. at_least_absent c.relation c n v s e form) noted

pub equal_noted : (c : Signed) (n m : NormalConstraint) (old between new : List Uses) → c.relation ≡ relations.Equal → IsBothOf c n m → length between ≡ length old
    → NotesForm n old between → NotesForm m between new → Notes (λ v s. IsAbsent v s c) old new
equal_noted c n m old between new e forms long first second =
    notes_as (λ v s. (coefficient n v s ≡ 0) × (coefficient m v s ≡ 0)) (λ v s. IsAbsent v s c) old new (λ v s. equal_absent c.relation c n m v s e forms)
    (notes_both (λ v s. coefficient n v s ≡ 0) (λ v s. coefficient m v s ≡ 0) old between new long first second)

-- one more constraint of the file
pub file_more : (cs : List Signed) (i : ℕ) (d : Signed) (start old new : List Uses) → i < length cs → length old ≡ length start
    → Notes (λ v s. StandsNowhere (take i cs) v s) start old → Notes (λ v s. IsAbsent v s (get_or cs i d)) old new → Notes (λ v s. StandsNowhere (take (i + 1) cs) v s) start new
file_more cs i d start old new h long before here =
    notes_as (λ v s. StandsNowhere (take i cs) v s × IsAbsent v s (get_or cs i d)) (λ v s. StandsNowhere (take (i + 1) cs) v s) start new
    (λ v s.
    let P : Signed → Type 0 = IsAbsent v s in (
      λ k. All-more P cs i d h k.0 k.1,
      λ all.
          let split = All-pop P (take (i + 1) cs) (take i cs) (Some (get_or cs i d)) (take_more cs i d h) all in
          (split.0, split.1),
    ))
    (notes_both (λ v s. StandsNowhere (take i cs) v s) (λ v s. IsAbsent v s (get_or cs i d)) start old new long before here)

-- before the first one nothing was noted
pub none_noted : (cs : List Signed) (table : List Uses) → Notes (λ v s. StandsNowhere (take 0 cs) v s) table table
none_noted cs table v s inside = (λ h. (h, All-nil (IsAbsent v s)), λ h. h.0)

-- the net coefficient of a variable with all signs changed
net_changed_term : (b n : Bool) (z : ℤ) → cond b (cond n (neg_ℤ (neg_ℤ z)) (neg_ℤ z)) (pos 0) ≡ neg_ℤ (cond b (cond n (neg_ℤ z) z) (pos 0))
net_changed_term true true z = omega (arith, ints)
net_changed_term true false z = omega (arith, ints)
net_changed_term false n z = omega (arith, ints)

net_changed : (terms : List Term) (v : ℕ) → net (map sign_changed terms) v ≡ neg_ℤ (net terms v)
net_changed [] v = refl
net_changed (t ∷ ts) v = omega (arith, ints, net_changed_term (t.var.0 == v) t.negated t.coef, net_changed ts v)

floor_zero : (z : ℤ) → (at_least_zero z ≡ 0) ↔ (z ≤ℤ pos 0)
floor_zero (pos n) = (λ h. omega (arith, ints, h), λ h. omega (arith, ints, h))
floor_zero (negsuc n) = (λ h. omega (arith, ints), λ h. refl)

floor_is : (z w : ℤ) (k : ℕ) → k ≡ at_least_zero z → z ≡ w → (k ≡ 0) ↔ (w ≤ℤ pos 0)
floor_is z w k e is = subst (λ (x : ℤ). (k ≡ 0) ↔ (x ≤ℤ pos 0)) is (subst (λ (n : ℕ). (n ≡ 0) ↔ (z ≤ℤ pos 0)) (sym e) (floor_zero z))

-- what asks for less of an objective has a literal exactly where its opposite has a price
less_absent : (c : Signed) (n : NormalConstraint) (v : ℕ) (s : Bool) → IsNormalOf (signs_changed c) n → (coefficient n v s ≡ 0) ↔ (price c.terms v (not s) ≤ℤ pos 0)
less_absent c n v false form = floor_is (net (map sign_changed c.terms) v) (neg_ℤ (net c.terms v)) (coefficient n v false) (form.plain v) (net_changed c.terms v)
less_absent c n v true form =
    floor_is (neg_ℤ (net (map sign_changed c.terms) v)) (net c.terms v) (coefficient n v true) (form.negated v) (omega (arith, ints, net_changed c.terms v))

pub less_noted : (c : Signed) (n : NormalConstraint) (old new : List Uses) → IsNormalOf (signs_changed c) n → NotesForm n old new → Notes (λ v s. price c.terms v (not s) ≤ℤ pos 0) old new
less_noted c n old new form noted = notes_as (λ v s. coefficient n v s ≡ 0) (λ v s. price c.terms v (not s) ≤ℤ pos 0) old new (λ v s. less_absent c n v s form) noted

pub sum_small : (n : ℕ) (ts : List Term) → IsSumWithin n ts → size_sum ts ≤ largest_sum
sum_small n ts h =
    let sizes = size_sum_small n ts h.each in
    let few = h.count in
    omega (arith, sizes, few)

-- a constraint of a file is small enough for its normal form
pub constraint_small : (n : ℕ) (c : Signed) → IsConstraintWithin n c → size_sum c.terms + unsigned_abs c.right ≤ largest_sum
constraint_small n c h =
    let sizes = size_sum_small n c.terms h.sum.each in
    let few = h.sum.count in
    let right = h.right in
    omega (arith, sizes, few, right)

-- the constraint that was read is the one at its place
pub read_constraint : (cs shown : List Signed) (c : Signed) (i : ℕ) → shown ≡ cs → c ≡ get_or shown i c → c ≡ get_or cs i c
read_constraint cs shown c i same e = e ∙ ap (λ xs. get_or xs i c) same
