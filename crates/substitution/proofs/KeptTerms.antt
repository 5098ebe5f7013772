-- The terms of a constraint of some variables, and what a substitution that names no others makes of the rest: nothing.
use Rattle.std.proofs.Common.{◌≡◌, ◌≢◌, ℕ, ◌+◌, ◌≤◌, Bool, true, false, not, cond, ◌==◌, ◌&&◌, List, [], ◌∷◌, All, map, refl, ap, sym, ◌∙◌, arith, inl, inr}
use Rattle.std.specs.Prelude.{ℤ, pos, ◌+ℤ◌}
use Rattle.std.proofs.lemmas.Bool.{cases_eq, false≢true}
use Rattle.std.proofs.lemmas.Bool.Decides.{nat_tests}
use Rattle.std.proofs.lemmas.Int.{ints}
use Rattle.std.proofs.lemmas.List.Elements.{All-head, All-tail, All-nil}
use Rattle.linear.specs.declared.term.Term.{Term}
use Rattle.normal_form.specs.declared.term.NormalTerm.{NormalTerm}
use Rattle.normal_form.specs.Normal.{Literals, NormalConstraint, only, same_sign, sum_over, Rises, variable_bound}
use Rattle.normal_form.specs.NormalOf.{negated_sum, net, slope}
use Rattle.normal_form.proofs.OneList.{one_list}
use Rattle.normal_form.proofs.Sums.{counted}
use Rattle.substitution.specs.declared.image.Image.{Image}
use Rattle.substitution.specs.declared.image.Image.TheVariants.{Lit, Zero, One}
use Rattle.substitution.specs.Images.{Images, image_of, image_of_literal, opposite_image}
use Rattle.substitution.specs.Part.{AreAmong, IsImageAmong, IsPart, is_among}
use Rattle.substitution.specs.Under.{constant_at, constant_under, signed_term, term_at, terms_under}
use Rattle.substitution.proofs.Regrouped.{net_append, negated_append}
use Rattle.substitution.proofs.Untouched.{literal, literal_stays}

-- the terms of some variables
abbrev pub kept : List ℕ → List NormalTerm → List NormalTerm
kept vs [] = []
kept vs (t ∷ ts) = cond (is_among vs (t.var.0)) (t ∷ kept vs ts) (kept vs ts)

pub lower_rises : (low high : ℕ) (ts : List NormalTerm) → low ≤ high → Rises high ts → Rises low ts
lower_rises low high [] h r = tt
lower_rises low high (t ∷ ts) h r = (omega (arith, h, r.0), r.1, r.2)

kept_rises : (vs : List ℕ) (low : ℕ) (ts : List NormalTerm) → Rises low ts → Rises low (kept vs ts)
kept_rises vs low [] r = tt
kept_rises vs low (t ∷ ts) r =
    let rest = kept_rises vs (t.var.0 + 1) ts r.2 in
    elim (is_among vs (t.var.0)) as (λ b. Rises low (cond b (t ∷ kept vs ts) (kept vs ts))) [
      | true ↦ (r.0, r.1, rest)
      | false ↦ lower_rises low (t.var.0 + 1) (kept vs ts) (omega (arith, r.0)) rest
    ]

kept_bound : (vs : List ℕ) (ts : List NormalTerm) → variable_bound (kept vs ts) ≤ variable_bound ts
kept_bound vs [] = omega arith
kept_bound vs (t ∷ ts) =
    let rest = kept_bound vs ts in
    elim (is_among vs (t.var.0)) as (λ b. variable_bound (cond b (t ∷ kept vs ts) (kept vs ts)) ≤ variable_bound (t ∷ ts)) [
      | true ↦ omega (arith, rest)
      | false ↦ omega (arith, rest)
    ]

other : (w v c : ℕ) (s : Bool) → (w ≡ v → ⊥) → cond ((w == v) && s) c 0 ≡ 0
other w v c s h = grind (arith, nat_tests)

none : (b : Bool) (c : ℕ) → c ≡ 0 → cond b c 0 ≡ 0
none true c h = h
none false c h = refl

chosen : (b : Bool) (c : ℕ) → b ≡ true → cond b c 0 ≡ c
chosen true c h = refl
chosen false c h = absurd (false≢true h)

unchosen : (b : Bool) (c : ℕ) → b ≡ false → cond b c 0 ≡ 0
unchosen true c h = absurd (false≢true (sym h))
unchosen false c h = refl

counted_kept : (vs : List ℕ) (t : NormalTerm) (v : ℕ) (s : Bool) → is_among vs (t.var.0) ≡ true → cond (is_among vs v) (counted (only v s) t) 0 ≡ counted (only v s) t
counted_kept vs t v s among = elim (cases_eq (t.var.0) v) [
  | inl e ↦ chosen (is_among vs v) (counted (only v s) t) (ap (is_among vs) (sym e) ∙ among)
  | inr h ↦
      let gone = other (t.var.0) v t.coef (same_sign s t.negated) h in
      none (is_among vs v) (counted (only v s) t) gone ∙ sym gone
]

counted_left : (vs : List ℕ) (t : NormalTerm) (v : ℕ) (s : Bool) → is_among vs (t.var.0) ≡ false → cond (is_among vs v) (counted (only v s) t) 0 ≡ 0
counted_left vs t v s apart = elim (cases_eq (t.var.0) v) [
  | inl e ↦ unchosen (is_among vs v) (counted (only v s) t) (ap (is_among vs) (sym e) ∙ apart)
  | inr h ↦ none (is_among vs v) (counted (only v s) t) (other (t.var.0) v t.coef (same_sign s t.negated) h)
]

together : (b : Bool) (x y : ℕ) → cond b (x + y) 0 ≡ cond b x 0 + cond b y 0
together true x y = refl
together false x y = refl

kept_sum : (vs : List ℕ) (ts : List NormalTerm) (v : ℕ) (s : Bool) → sum_over (only v s) (kept vs ts) ≡ cond (is_among vs v) (sum_over (only v s) ts) 0
kept_sum vs [] v s = sym (none (is_among vs v) 0 refl)
kept_sum vs (t ∷ ts) v s = by (is_among vs (t.var.0)) refl (kept_sum vs ts v s)
  where
    by : (b : Bool) → is_among vs (t.var.0) ≡ b → sum_over (only v s) (kept vs ts) ≡ cond (is_among vs v) (sum_over (only v s) ts) 0
        → sum_over (only v s) (cond b (t ∷ kept vs ts) (kept vs ts)) ≡ cond (is_among vs v) (counted (only v s) t + sum_over (only v s) ts) 0
    by true is rest = omega (arith, rest, counted_kept vs t v s is, together (is_among vs v) (counted (only v s) t) (sum_over (only v s) ts))
    by false is rest = omega (arith, rest, counted_left vs t v s is, together (is_among vs v) (counted (only v s) t) (sum_over (only v s) ts))

-- a part has the terms of its variables
pub part_kept : (n m : NormalConstraint) (vs : List ℕ) → Rises 0 n.terms → IsPart n vs m → m.terms ≡ kept vs n.terms
part_kept n m vs rises part =
    one_list 0 0 m.terms (kept vs n.terms) part.rises (kept_rises vs 0 n.terms rises) (λ v s. part.coefficients v s ∙ sym (kept_sum vs n.terms v s))

pub part_bound : (n m : NormalConstraint) (vs : List ℕ) → Rises 0 n.terms → IsPart n vs m → variable_bound m.terms ≤ variable_bound n.terms
part_bound n m vs rises part = omega (arith, ap variable_bound (part_kept n m vs rises part), kept_bound vs n.terms)

-- a variable that is not among those that are named is its own image
apart_from : (vs : List ℕ) (images : Images) (w : ℕ) → AreAmong vs images → is_among vs w ≡ false → All (λ p. p.0.0 ≢ w) images
apart_from vs images w among apart k d inside same = false≢true (sym apart ∙ ap (is_among vs) (sym same) ∙ (among k d inside).0)

own_image : (vs : List ℕ) (images : Images) (w : ℕ) (s : Bool) → AreAmong vs images → is_among vs w ≡ false → image_of_literal images w s ≡ literal w s
own_image vs images w s among apart = literal_stays images w s (apart_from vs images w among apart)

image_among : (vs : List ℕ) (images : Images) (w : ℕ) → AreAmong vs images → is_among vs w ≡ true → IsImageAmong vs (image_of images w)
image_among vs [] w among h = h
image_among vs (p ∷ ps) w among h =
    let here = (All-head (λ q. (is_among vs (q.0.0) ≡ true) × IsImageAmong vs q.1) p ps among).1 in
    let rest = image_among vs ps w (All-tail (λ q. (is_among vs (q.0.0) ≡ true) × IsImageAmong vs q.1) p ps among) h in
    elim (w == p.0.0) as (λ b. IsImageAmong vs (cond b p.1 (image_of ps w))) [ true ↦ here | false ↦ rest ]

opposite_among : (vs : List ℕ) (i : Image) → IsImageAmong vs i → IsImageAmong vs (opposite_image i)
opposite_among vs (Lit l) h = h
opposite_among vs Zero h = tt
opposite_among vs One h = tt

literal_among : (vs : List ℕ) (images : Images) (w : ℕ) (s : Bool) → AreAmong vs images → is_among vs w ≡ true → IsImageAmong vs (image_of_literal images w s)
literal_among vs images w true among h = opposite_among vs (image_of images w) (image_among vs images w among h)
literal_among vs images w false among h = image_among vs images w among h

-- variables of which one is among some and the other is not
differ : (vs : List ℕ) (w v : ℕ) → is_among vs w ≡ true → is_among vs v ≡ false → w ≡ v → ⊥
differ vs w v here there same = false≢true (sym there ∙ ap (is_among vs) (sym same) ∙ here)

no_net : (w v : ℕ) (z : ℤ) → (w ≡ v → ⊥) → cond (w == v) z (pos 0) ≡ pos 0
no_net w v z h = let off : (w == v) ≡ false = grind (arith, nat_tests) in ap (λ (b : Bool). cond b z (pos 0)) off

-- an image among some variables gives none of the others
image_quiet : (vs : List ℕ) (i : Image) (z : ℤ) (v : ℕ) → IsImageAmong vs i → is_among vs v ≡ false → net (term_at z i) v ≡ pos 0
image_quiet vs (Lit l) z v here there = omega (arith, ints, no_net (l.var.0) v (slope (record { coef = z; var = l.var; negated = l.negated })) (differ vs (l.var.0) v here there))
image_quiet vs Zero z v here there = refl
image_quiet vs One z v here there = refl

-- a literal that stays gives other variables nothing
literal_quiet : (w v : ℕ) (s : Bool) (z : ℤ) → (w ≡ v → ⊥) → net (term_at z (literal w s)) v ≡ pos 0
literal_quiet w v s z h = omega (arith, ints, no_net w v (slope (record { coef = z; var = record { 0 = w }; negated = s })) h)

-- the terms with images put in
abbrev pub put : Images → List NormalTerm → List Term
put images ts = terms_under images (map signed_term ts)

-- what one term becomes
abbrev one : Images → NormalTerm → List Term
one images t = term_at (pos t.coef) (image_of_literal images (t.var.0) t.negated)

net_of_own : (vs : List ℕ) (images : Images) (t : NormalTerm) (v : ℕ) → AreAmong vs images → is_among vs (t.var.0) ≡ false → net (one images t) v ≡ net (term_at (pos t.coef) (literal (t.var.0) t.negated)) v
net_of_own vs images t v among apart = ap (λ (i : Image). net (term_at (pos t.coef) i) v) (own_image vs images (t.var.0) t.negated among apart)

-- of a variable that is among them the kept terms give all
pub net_kept : (vs : List ℕ) (images : Images) (ts : List NormalTerm) (v : ℕ) → AreAmong vs images → is_among vs v ≡ true → net (put images ts) v ≡ net (put images (kept vs ts)) v
net_kept vs images [] v among here = refl
net_kept vs images (t ∷ ts) v among here = net_append (one images t) (put images ts) v ∙ by (is_among vs (t.var.0)) refl (net_kept vs images ts v among here)
  where
    by : (b : Bool) → is_among vs (t.var.0) ≡ b → net (put images ts) v ≡ net (put images (kept vs ts)) v
        → net (one images t) v +ℤ net (put images ts) v ≡ net (put images (cond b (t ∷ kept vs ts) (kept vs ts))) v
    by true is rest = ap (λ (z : ℤ). net (one images t) v +ℤ z) rest ∙ sym (net_append (one images t) (put images (kept vs ts)) v)
    by false is rest =
        let quiet = net_of_own vs images t v among is ∙ literal_quiet (t.var.0) v t.negated (pos t.coef) (λ same. differ vs v (t.var.0) here is (sym same)) in
        omega (arith, ints, quiet, rest)

-- of one that is not they give nothing
pub net_kept_quiet : (vs : List ℕ) (images : Images) (ts : List NormalTerm) (v : ℕ) → AreAmong vs images → is_among vs v ≡ false → net (put images (kept vs ts)) v ≡ pos 0
net_kept_quiet vs images [] v among there = refl
net_kept_quiet vs images (t ∷ ts) v among there = by (is_among vs (t.var.0)) refl (net_kept_quiet vs images ts v among there)
  where
    by : (b : Bool) → is_among vs (t.var.0) ≡ b → net (put images (kept vs ts)) v ≡ pos 0 → net (put images (cond b (t ∷ kept vs ts) (kept vs ts))) v ≡ pos 0
    by true is rest =
        let quiet = image_quiet vs (image_of_literal images (t.var.0) t.negated) (pos t.coef) v (literal_among vs images (t.var.0) t.negated among is) there in
        omega (arith, ints, net_append (one images t) (put images (kept vs ts)) v, quiet, rest)
    by false is rest = rest

-- and all terms give what they give where nothing is put in
pub net_stays : (vs : List ℕ) (images : Images) (ts : List NormalTerm) (v : ℕ) → AreAmong vs images → is_among vs v ≡ false → net (put images ts) v ≡ net (put [] ts) v
net_stays vs images [] v among there = refl
net_stays vs images (t ∷ ts) v among there =
    let rest = net_stays vs images ts v among there in
    omega (arith, ints, net_append (one images t) (put images ts) v, net_append (one [] t) (put [] ts) v, by (is_among vs (t.var.0)) refl, rest)
  where
    itself : net (one [] t) v ≡ net (term_at (pos t.coef) (literal (t.var.0) t.negated)) v
    itself = ap (λ (i : Image). net (term_at (pos t.coef) i) v) (literal_stays [] (t.var.0) t.negated (All-nil (λ p. p.0.0 ≢ t.var.0)))

    by : (b : Bool) → is_among vs (t.var.0) ≡ b → net (one images t) v ≡ net (one [] t) v
    by true is =
        image_quiet vs (image_of_literal images (t.var.0) t.negated) (pos t.coef) v (literal_among vs images (t.var.0) t.negated among is) there
        ∙ sym (itself ∙ literal_quiet (t.var.0) v t.negated (pos t.coef) (differ vs (t.var.0) v is there))
    by false is = net_of_own vs images t v among is ∙ sym itself

-- the negated literals of other variables
abbrev pub left_negated : List ℕ → Literals
left_negated vs v s = not (is_among vs v) && s

left_part : (b d n : Bool) (c : ℕ) → d ≡ b → b ≡ true → cond (not d && n) c 0 ≡ 0
left_part true true n c e h = refl
left_part true false n c e h = absurd (false≢true e)
left_part false d n c e h = absurd (false≢true h)

signed_part : (d n : Bool) (c : ℕ) → d ≡ false → cond n (pos c) (pos 0) +ℤ pos 0 ≡ pos (cond (not d && n) c 0)
signed_part true n c h = absurd (false≢true (sym h))
signed_part false true c h = omega (arith, ints)
signed_part false false c h = omega (arith, ints)

-- what is left over stays negated
pub negated_kept : (vs : List ℕ) (images : Images) (ts : List NormalTerm) → AreAmong vs images → negated_sum (put images ts) ≡ negated_sum (put images (kept vs ts)) +ℤ pos (sum_over (left_negated vs) ts)
negated_kept vs images [] among = refl
negated_kept vs images (t ∷ ts) among = negated_append (one images t) (put images ts) ∙ by (is_among vs (t.var.0)) refl (negated_kept vs images ts among)
  where
    by : (b : Bool) → is_among vs (t.var.0) ≡ b → negated_sum (put images ts) ≡ negated_sum (put images (kept vs ts)) +ℤ pos (sum_over (left_negated vs) ts)
        → negated_sum (one images t) +ℤ negated_sum (put images ts) ≡ negated_sum (put images (cond b (t ∷ kept vs ts) (kept vs ts))) +ℤ pos (counted (left_negated vs) t + sum_over (left_negated vs) ts)
    by true is rest = omega (arith, ints, negated_append (one images t) (put images (kept vs ts)), left_part true (is_among vs (t.var.0)) t.negated t.coef is refl, rest)
    by false is rest =
        let own : negated_sum (one images t) ≡ cond t.negated (pos t.coef) (pos 0) +ℤ pos 0 = ap (λ (i : Image). negated_sum (term_at (pos t.coef) i)) (own_image vs images (t.var.0) t.negated among is) in
        omega (arith, ints, own, signed_part (is_among vs (t.var.0)) t.negated t.coef is, rest)

-- what is constant comes of the kept terms
pub constant_kept : (vs : List ℕ) (images : Images) (ts : List NormalTerm) → AreAmong vs images → constant_under images (map signed_term ts) ≡ constant_under images (map signed_term (kept vs ts))
constant_kept vs images [] among = refl
constant_kept vs images (t ∷ ts) among = by (is_among vs (t.var.0)) refl (constant_kept vs images ts among)
  where
    by : (b : Bool) → is_among vs (t.var.0) ≡ b → constant_under images (map signed_term ts) ≡ constant_under images (map signed_term (kept vs ts))
        → constant_at (pos t.coef) (image_of_literal images (t.var.0) t.negated) +ℤ constant_under images (map signed_term ts) ≡ constant_under images (map signed_term (cond b (t ∷ kept vs ts) (kept vs ts)))
    by true is rest = ap (λ (z : ℤ). constant_at (pos t.coef) (image_of_literal images (t.var.0) t.negated) +ℤ z) rest
    by false is rest =
        let own : constant_at (pos t.coef) (image_of_literal images (t.var.0) t.negated) ≡ pos 0 = ap (constant_at (pos t.coef)) (own_image vs images (t.var.0) t.negated among is) in
        omega (arith, ints, own, rest)
