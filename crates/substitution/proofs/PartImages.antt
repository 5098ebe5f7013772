-- The image of a constraint and that of a part of it have one degree, and as much is lost in both. So the one shows what it
-- becomes exactly where the other does.
use Rattle.std.proofs.Common.{◌≡◌, ◌≢◌, ◌↔◌, ℕ, ◌+◌, ◌-◌, Bool, true, false, not, cond, ◌&&◌, List, [], map, refl, ap, sym, ◌∙◌, arith, inl, inr}
use Rattle.std.specs.Prelude.{ℤ, pos, neg_ℤ, ◌+ℤ◌, ◌-ℤ◌}
use Rattle.std.proofs.lemmas.Bool.{false≢true}
use Rattle.std.proofs.lemmas.Int.{ints}
use Rattle.std.proofs.lemmas.List.Elements.{All-nil}
use Rattle.normal_form.specs.declared.term.NormalTerm.{NormalTerm}
use Rattle.normal_form.specs.Normal.{Literals, NormalConstraint, coefficient, sum_over, Rises, variable_bound}
use Rattle.normal_form.specs.NormalOf.{at_least_zero, negated_sum, negated_total, net}
use Rattle.normal_form.proofs.NormalForm.{form, form_is}
use Rattle.normal_form.proofs.SumsByVariable.{absent_above, add_up, all_zero, none_above, pivot, told}
use Rattle.substitution.specs.Beyond.{Shows, ShowsImage}
use Rattle.substitution.specs.Covering.{excess, excess_at}
use Rattle.substitution.specs.Images.{Images}
use Rattle.substitution.specs.Part.{AreAmong, IsPart, is_among}
use Rattle.substitution.specs.Under.{IsUnder, constant_under, signed_term, substituted}
use Rattle.substitution.proofs.KeptTerms.{constant_kept, kept, left_negated, negated_kept, net_kept, net_kept_quiet, net_stays, part_bound, part_kept, put}
use Rattle.substitution.proofs.Untouched.{under_untouched}

-- a constraint, a part of it, and what both become under a substitution that names variables of the part alone
record Parted (vs : List ℕ) (images : Images) (n m r q : NormalConstraint) : Type 0 where
  rises : Rises 0 n.terms
  among : AreAmong vs images
  part : IsPart n vs m
  whole : IsUnder n images r
  image : IsUnder m images q

-- the normal form of a constraint's own terms is itself
own_form : (n : NormalConstraint) → Rises 0 n.terms → IsUnder n [] n
own_form n rises = under_untouched n [] rises (λ k d inside. All-nil (λ p. p.0.0 ≢ _))

net_of_part : (vs : List ℕ) (images : Images) (n m r q : NormalConstraint) → Parted vs images n m r q → (v : ℕ) → net (put images (kept vs n.terms)) v ≡ net (put images m.terms) v
net_of_part vs images n m r q p v = ap (λ (ts : List NormalTerm). net (put images ts) v) (sym (part_kept n m vs p.rises p.part))

coefficients_kept : (vs : List ℕ) (images : Images) (n m r q : NormalConstraint) → Parted vs images n m r q → (v : ℕ) (s : Bool) → is_among vs v ≡ true → coefficient r v s ≡ coefficient q v s
coefficients_kept vs images n m r q p v s here = by s
  where
    same : net (put images n.terms) v ≡ net (put images m.terms) v
    same = net_kept vs images n.terms v p.among here ∙ net_of_part vs images n m r q p v

    by : (s : Bool) → coefficient r v s ≡ coefficient q v s
    by false = p.whole.plain v ∙ ap at_least_zero same ∙ sym (p.image.plain v)
    by true = p.whole.negated v ∙ ap (λ (z : ℤ). at_least_zero (neg_ℤ z)) same ∙ sym (p.image.negated v)

coefficients_stay : (vs : List ℕ) (images : Images) (n m r q : NormalConstraint) → Parted vs images n m r q → (v : ℕ) (s : Bool) → is_among vs v ≡ false → coefficient r v s ≡ coefficient n v s
coefficients_stay vs images n m r q p v s there = by s
  where
    same : net (put images n.terms) v ≡ net (put [] n.terms) v
    same = net_stays vs images n.terms v p.among there

    by : (s : Bool) → coefficient r v s ≡ coefficient n v s
    by false = p.whole.plain v ∙ ap at_least_zero same ∙ sym ((own_form n p.rises).plain v)
    by true = p.whole.negated v ∙ ap (λ (z : ℤ). at_least_zero (neg_ℤ z)) same ∙ sym ((own_form n p.rises).negated v)

coefficients_gone : (vs : List ℕ) (images : Images) (n m r q : NormalConstraint) → Parted vs images n m r q → (v : ℕ) (s : Bool) → is_among vs v ≡ false → coefficient q v s ≡ 0
coefficients_gone vs images n m r q p v s there = by s
  where
    nothing : net (put images m.terms) v ≡ pos 0
    nothing = sym (net_of_part vs images n m r q p v) ∙ net_kept_quiet vs images n.terms v p.among there

    by : (s : Bool) → coefficient q v s ≡ 0
    by false = p.image.plain v ∙ ap at_least_zero nothing
    by true = p.image.negated v ∙ ap (λ (z : ℤ). at_least_zero (neg_ℤ z)) nothing

in_part : (b : Bool) (c d : ℕ) → d ≡ cond b c 0 → b ≡ true → d ≡ c
in_part true c d e h = e
in_part false c d e h = absurd (false≢true h)

out_of_part : (b : Bool) (c d : ℕ) → d ≡ cond b c 0 → b ≡ false → d ≡ 0
out_of_part true c d e h = absurd (false≢true (sym h))
out_of_part false c d e h = e

-- at each variable as much is lost
loss_at : (vs : List ℕ) (images : Images) (n m r q : NormalConstraint) → Parted vs images n m r q → (v : ℕ) → excess_at n r v ≡ excess_at m q v
loss_at vs images n m r q p v = by (is_among vs v) refl
  where
    by : (b : Bool) → is_among vs v ≡ b → excess_at n r v ≡ excess_at m q v
    by true here =
        let mine : (s : Bool) → coefficient m v s ≡ coefficient n v s = λ s. in_part (is_among vs v) (coefficient n v s) (coefficient m v s) (p.part.coefficients v s) here in
        omega (arith, mine false, mine true, coefficients_kept vs images n m r q p v false here, coefficients_kept vs images n m r q p v true here)
    by false there =
        let gone : (s : Bool) → coefficient m v s ≡ 0 = λ s. out_of_part (is_among vs v) (coefficient n v s) (coefficient m v s) (p.part.coefficients v s) there in
        omega (arith, gone false, gone true, coefficients_stay vs images n m r q p v false there, coefficients_stay vs images n m r q p v true there)

no_loss : (c d : ℕ) → c ≡ 0 → c - d ≡ 0
no_loss c d h = omega (arith, h)

same_loss : (vs : List ℕ) (images : Images) (n m r q : NormalConstraint) → Parted vs images n m r q → excess n r ≡ excess m q
same_loss vs images n m r q p =
    let bound = variable_bound n.terms in
    let each = add_up bound (excess_at n r) (λ _. 0) (excess_at m q) (λ _. 0) (λ v. omega (arith, loss_at vs images n m r q p v)) in
    let above = none_above bound (variable_bound m.terms) (excess_at m q) (part_bound n m vs p.rises p.part)
    (λ v high. omega (arith, no_loss (coefficient m v false) (coefficient q v false) (absent_above m.terms v false high), no_loss (coefficient m v true) (coefficient q v true) (absent_above m.terms v true high))) in
    omega (arith, each, above)

-- what is negated of the image: what is of the part's, and what is left over
negated_at : (vs : List ℕ) (images : Images) (n m r q : NormalConstraint) → Parted vs images n m r q → (v : ℕ)
    → told (λ _ negated. negated) r.terms v ≡ told (λ _ negated. negated) q.terms v + told (left_negated vs) n.terms v
negated_at vs images n m r q p v = by (is_among vs v) refl
  where
    by : (b : Bool) → is_among vs v ≡ b → told (λ _ negated. negated) r.terms v
        ≡ told (λ _ negated. negated) q.terms v + (cond (not (is_among vs v) && false) (coefficient n v false) 0 + cond (not (is_among vs v) && true) (coefficient n v true) 0)
    by true here =
        let none : (s : Bool) → cond (not (is_among vs v) && s) (coefficient n v s) 0 ≡ 0 = λ s. ap (λ (b : Bool). cond (not b && s) (coefficient n v s) 0) here in
        omega (arith, coefficients_kept vs images n m r q p v true here, none false, none true)
    by false there =
        let all : (s : Bool) → cond (not (is_among vs v) && s) (coefficient n v s) 0 ≡ cond s (coefficient n v s) 0 = λ s. ap (λ (b : Bool). cond (not b && s) (coefficient n v s) 0) there in
        omega (arith, coefficients_stay vs images n m r q p v true there, coefficients_gone vs images n m r q p v true there, all false, all true)

negated_parts : (vs : List ℕ) (images : Images) (n m r q : NormalConstraint) → Parted vs images n m r q → negated_total r ≡ negated_total q + sum_over (left_negated vs) n.terms
negated_parts vs images n m r q p =
    let negated : Literals = λ _ negated. negated in
    let bound = variable_bound r.terms + (variable_bound q.terms + variable_bound n.terms) in
    let each = add_up bound (told negated r.terms) (λ _. 0) (told negated q.terms) (told (left_negated vs) n.terms) (λ v. omega (arith, negated_at vs images n m r q p v)) in
    omega (
      arith,
      each,
      all_zero bound (λ _. 0) (λ _. refl),
      pivot negated r.terms bound (omega arith),
      pivot negated q.terms bound (omega arith),
      pivot (left_negated vs) n.terms bound (omega arith),
    )

same_degree : (vs : List ℕ) (images : Images) (n m r q : NormalConstraint) → Parted vs images n m r q → r.degree ≡ q.degree
same_degree vs images n m r q p =
    let terms = part_kept n m vs p.rises p.part in
    let sums : negated_sum (put images (kept vs n.terms)) ≡ negated_sum (put images m.terms) = ap (λ (ts : List NormalTerm). negated_sum (put images ts)) (sym terms) in
    let constants : constant_under images (map signed_term (kept vs n.terms)) ≡ constant_under images (map signed_term m.terms) = ap (λ (ts : List NormalTerm). constant_under images (map signed_term ts)) (sym terms) in
    let right : ((pos n.degree -ℤ constant_under images (map signed_term n.terms)) -ℤ negated_sum (put images n.terms)) +ℤ pos (negated_total r)
    ≡ ((pos m.degree -ℤ constant_under images (map signed_term m.terms)) -ℤ negated_sum (put images m.terms)) +ℤ pos (negated_total q) =
    omega (arith, ints, sums, constants, negated_kept vs images n.terms p.among, constant_kept vs images n.terms p.among, negated_parts vs images n m r q p, p.part.degree) in
    p.whole.degree ∙ ap at_least_zero right ∙ sym p.image.degree

shows_both : (vs : List ℕ) (images : Images) (n m r q : NormalConstraint) → Parted vs images n m r q → Shows m q ↔ Shows n r
shows_both vs images n m r q p = (to, from)
  where
    degree : r.degree ≡ q.degree
    degree = same_degree vs images n m r q p

    loss : excess n r ≡ excess m q
    loss = same_loss vs images n m r q p

    to : Shows m q → Shows n r
    to (inl h) = inl (degree ∙ h)
    to (inr h) = inr (omega (arith, degree, loss, h, p.part.degree))

    from : Shows n r → Shows m q
    from (inl h) = inl (sym degree ∙ h)
    from (inr h) = inr (omega (arith, degree, loss, h, p.part.degree))

-- a constraint shows what it becomes exactly where a part does that has the variables which the substitution names
pub part_shows : (n m q : NormalConstraint) (vs : List ℕ) (images : Images) → Rises 0 n.terms → AreAmong vs images → IsPart n vs m → IsUnder m images q → Shows m q ↔ ShowsImage n images
part_shows n m q vs images rises among part image = (λ h. (form (substituted n images), form_is (substituted n images), (both (form (substituted n images)) (form_is (substituted n images))).0 h), λ h. (both h.0 h.1).1 h.2)
  where
    both : (r : NormalConstraint) → IsUnder n images r → Shows m q ↔ Shows n r
    both r whole = shows_both vs images n m r q (record { rises = rises; among = among; part = part; whole = whole; image = image })
