-- What a table of values leaves free, and what is decided.
use Rattle.std.proofs.Common.{◌≡◌, ◌≢◌, ℕ, zero, suc, ◌+◌, ◌<◌, ◌≤◌, Bool, true, false, not, eqb, cond, ◌||◌, ◌&&◌, List, [], ◌∷◌, ◌++◌, length, get_or, map, set, drop, take, refl, sym, ap, subst, ◌∙◌, inl, inr, arith}
use Rattle.std.proofs.lemmas.Bool.{cases_eq, cases_lt, false≢true}
use Rattle.std.proofs.lemmas.Bool.Decides.{nat_tests}
use Rattle.std.proofs.lemmas.List.{append_assoc, get_or_default, get_or-set_other, get_or-set_same, length-set, map-append, take-append-drop, take_more}
use mathlib.Core.Bool.{beq}
use Rattle.linear.specs.declared.term.Lit.{Lit}
use Rattle.normal_form.specs.Normal.{same_sign}
use Rattle.propagate.specs.Literals.{among, lists}
use Rattle.propagate.proofs.Consistency.{only_here}
use Rattle.propagate.proofs.Assignments.{among_cases, among_head, among_left, among_right}
use Rattle.propagate.proofs.SearchEnds.{fewer_unset, unset_below}
use Rattle.propagate.specs.Values.{AreValuesUnder, makes_true}
use Rattle.propagate.specs.declared.value.Value.{Value}
use Rattle.propagate.specs.declared.value.Value.TheVariants.{True, False, Free}
use Rattle.search.specs.Values.{IsFree, IsUnlisted, unlisted_below}

-- a place behind the table is not free
pub behind : (values : List Value) (v : ℕ) → length values ≤ v → IsFree values v → ⊥
behind [] v h free = absurd (cc)
behind (x ∷ xs) zero h free = absurd (omega (arith, h))
behind (x ∷ xs) (suc v) h free = behind xs v (omega (arith, h)) free

is_none : (b : Bool) → (b ≡ true → ⊥) → b ≡ false
is_none true h = absurd (h refl)
is_none false h = refl

equal_number : (n : ℕ) → eqb n n ≡ true
equal_number n = grind (arith, nat_tests)

-- what the table has as free is not listed
abbrev pub LeavesFree : List Lit → List Value → Type 0
LeavesFree assigned values = (v : ℕ) → IsFree values v → (s : Bool) → among assigned v s ≡ false

-- what a table of what is listed has as free is not listed
pub values_leave_free : (assigned : List Lit) (values : List Value) → AreValuesUnder assigned values → LeavesFree assigned values
values_leave_free assigned values are v free s = elim (cases_lt v (length values)) as (λ _. among assigned v s ≡ false) [
  | inl inside ↦ are v s inside ∙ ap (λ (o : Value). makes_true o s) (get_or_default values v Free True inside ∙ free)
  | inr outside ↦ absurd (behind values v (omega (arith, outside)) free)
]

-- and what is not listed it has as free
pub free_where : (assigned : List Lit) (values : List Value) (v : ℕ) → AreValuesUnder assigned values → v < length values → IsUnlisted assigned v → IsFree values v
free_where assigned values v are inside none = get_or_default values v True Free inside ∙ by (get_or values v Free) (λ s. sym (are v s inside) ∙ none s)
  where
    by : (o : Value) → ((s : Bool) → makes_true o s ≡ false) → o ≡ Free
    by True h = absurd (false≢true (sym (h false)))
    by False h = absurd (false≢true (sym (h true)))
    by Free h = refl

-- a literal that is none of those before, nor the next one
same_literal : (x l : Lit) → x.var.0 ≡ l.var.0 → x.negated ≡ l.negated → x ≡ l
same_literal x l e f =
    ap (λ (n : ℕ). record { var = record { 0 = n }; negated = x.negated }) e ∙ ap (λ (b : Bool). record { var = l.var; negated = b }) f

equal_sign : (b : Bool) → beq b b ≡ true
equal_sign true = refl
equal_sign false = refl

-- the program's test
pub different : (x l : Lit) → (eqb (x.var.0) (l.var.0) && beq x.negated l.negated) ≡ false → x ≡ l → ⊥
different x l h e =
    let test : (eqb (x.var.0) (x.var.0) && beq x.negated x.negated) ≡ false = subst (λ (y : Lit). (eqb (x.var.0) (y.var.0) && beq x.negated (y.negated)) ≡ false) (sym e) h in
    false≢true (sym test ∙ ap (λ b. b && beq x.negated x.negated) (equal_number (x.var.0)) ∙ equal_sign x.negated)

pub unlisted_more : (assigned : List Lit) (x l : Lit) → lists assigned l ≡ false → (x ≡ l → ⊥) → lists (assigned ++ x ∷ []) l ≡ false
unlisted_more assigned x l h other = is_none (lists (assigned ++ x ∷ []) l) (λ e. elim (among_cases assigned (x ∷ []) (l.var.0) l.negated e) [
  | inl a ↦ false≢true (sym h ∙ a)
  | inr a ↦ let here = only_here x (l.var.0) l.negated a in other (same_literal x l (sym here.0) (sym here.1))
])

same_count : (count : ℕ) (assigned : List Lit) → unlisted_below count assigned ≡ unset_below count assigned
same_count zero assigned = refl
same_count (suc v) assigned = ap (λ n. n + unlisted_one v assigned) (same_count v assigned)
  where
    unlisted_one : ℕ → List Lit → ℕ
    unlisted_one v assigned = Rattle.std.proofs.Common.cond (among assigned v false || among assigned v true) 0 1

-- a free literal is one more that is listed
pub fewer : (count : ℕ) (assigned : List Lit) (values : List Value) (l : Lit) → LeavesFree assigned values → IsFree values (l.var.0) → l.var.0 < count
    → unlisted_below count (assigned ++ l ∷ []) < unlisted_below count assigned
fewer count assigned values l leaves free inside =
    let less = fewer_unset count assigned l inside (leaves (l.var.0) free l.negated) (leaves (l.var.0) free (not l.negated)) in
    omega (arith, less, same_count count assigned, same_count count (assigned ++ l ∷ []))

-- what is noted of more literals leaves fewer variables free
pub leaves_first : (first more : List Lit) (values : List Value) → LeavesFree (first ++ more) values → LeavesFree first values
leaves_first first more values h v free s = is_none (among first v s) (λ e. false≢true (sym (h v free s) ∙ among_left first more v s e))

-- one more of the literals that are forced
pub forced_more : (before : List Lit) (forced : List (Lit × ℕ)) (place : ℕ) (d : Lit × ℕ) → place < length forced
    → (before ++ map (λ p. p.0) (take place forced)) ++ (get_or forced place d).0 ∷ [] ≡ before ++ map (λ p. p.0) (take (place + 1) forced)
forced_more before forced place d h =
    append_assoc before (map (λ p. p.0) (take place forced)) ((get_or forced place d).0 ∷ [])
    ∙ ap (λ (t : List Lit). before ++ t) (sym (map-append (λ p. p.0) (take place forced) (get_or forced place d ∷ [])) ∙ ap (map (λ p. p.0)) (sym (take_more forced place d h)))

-- what stands at a place is listed
pub listed_at : (xs : List Lit) (k : ℕ) (d : Lit) → k < length xs → lists xs (get_or xs k d) ≡ true
listed_at xs k d low =
    let x : Lit = get_or xs k d in
    let up_to : lists (take (k + 1) xs) x ≡ true =
    ap (λ (ys : List Lit). lists ys x) (take_more xs k d low) ∙ among_right (take k xs) (x ∷ []) (x.var.0) x.negated (among_head x []) in
    ap (λ (ys : List Lit). lists ys x) (sym (take-append-drop (k + 1) xs)) ∙ among_left (take (k + 1) xs) (drop (k + 1) xs) (x.var.0) x.negated up_to

-- the program's test, where it says yes
pub alike : (x l : Lit) → (eqb (x.var.0) (l.var.0) && beq x.negated l.negated) ≡ true → x ≡ l
alike x l h = same_literal x l (number (eqb (x.var.0) (l.var.0)) (beq x.negated l.negated) refl h) (sign x.negated l.negated (second (eqb (x.var.0) (l.var.0)) (beq x.negated l.negated) h))
  where
    number : (b d : Bool) → eqb (x.var.0) (l.var.0) ≡ b → (b && d) ≡ true → x.var.0 ≡ l.var.0
    number true d e h = grind (arith, nat_tests, e)
    number false d e h = absurd (false≢true h)

    second : (b d : Bool) → (b && d) ≡ true → d ≡ true
    second true d h = h
    second false d h = absurd (false≢true h)

    sign : (b d : Bool) → beq b d ≡ true → b ≡ d
    sign true true h = refl
    sign false false h = refl
    sign true false h = absurd (false≢true h)
    sign false true h = absurd (false≢true h)
