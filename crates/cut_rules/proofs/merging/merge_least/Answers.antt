-- The least variable is that of the next term of one side, or of both.
use Rattle.std.proofs.Common.{◌≡◌, ◌∙◌, ◌<◌, ◌≤◌, ◌+ℤ◌, ◌∷◌, ℕ, List, min, length, get_or, drop, sym, ap, ℤ, to_z, of_z, unsigned_abs, FitsSigned, arith}
use mir.Syntax.{w128}
use Rattle.std.proofs.lemmas.Int.{ints}
use Rattle.linear.specs.Largest.{most_names}
use Rattle.normal_form.specs.declared.term.NormalTerm.{NormalTerm}
use Rattle.normal_form.specs.Normal.{IsNormal, NormalConstraint, largest_sum}
use Rattle.normal_form.specs.Balance.{rise_of}
use Rattle.cut_rules.specs.Steps.{first_variable}
use Rattle.cut_rules.proofs.MergeSteps.{both_have, coefficient_at, first_is, inside, left_alone, mirrored, next_is}
use Rattle.cut_rules.proofs.merging.merge_least.Goals as goal

left_inside : (v w : ℕ) (l : List NormalTerm) (j : ℕ) → v ≡ first_variable (drop j l) → min v w < most_names → v ≤ w → j < length l
left_inside v w l j is some low = inside l j (omega (arith, is, some, low))

right_inside : (v w : ℕ) (r : List NormalTerm) (k : ℕ) → w ≡ first_variable (drop k r) → min v w < most_names → w ≤ v → k < length r
right_inside v w r k is some low = inside r k (omega (arith, is, some, low))

pub returns-then-at-clause-merged : goal.returns-then-at-clause-merged
returns-then-at-clause-merged c =
    let l : List NormalTerm = c.args.left.now.terms in
    let j = c.args.at.left.place in
    let at : j < length l = left_inside c.args.at.left.variable c.args.at.right.variable l j c.requires.left.first c.requires.some (omega (arith, c.if-at.true)) in
    let first = first_is l j c.term.result at c.term.ensures.value in
    let next : drop j l ≡ c.term.result ∷ drop c.front_behind.result.place l = next_is l j c.term.result at c.term.ensures.value ∙ ap (λ (k : ℕ). c.term.result ∷ drop k l) (sym c.front_behind.ensures.place) in
    left_alone (min c.args.at.left.variable c.args.at.right.variable) (drop j l) (drop c.front_behind.result.place l) (drop c.args.at.right.place c.args.right.now.terms) c.args.terms.now c.push.new.self c.term.result next
    (omega (arith, first, c.requires.left.first, c.if-at.true)) (omega (arith, c.requires.right.first, c.if-at.true)) c.requires.left_rises c.requires.right_rises c.requires.bound c.in_ok-push.ensures.ok

pub returns-then-at-2-clause-merged : goal.returns-then-at-2-clause-merged
returns-then-at-2-clause-merged c =
    let l : List NormalTerm = c.args.left.now.terms in
    let r : List NormalTerm = c.args.right.now.terms in
    let k = c.args.at.right.place in
    let v = min c.args.at.left.variable c.args.at.right.variable in
    let at : k < length r = right_inside c.args.at.left.variable c.args.at.right.variable r k c.requires.right.first c.requires.some (omega (arith, c.if-at-2.true)) in
    let first = first_is r k c.term-then-at-2.result at c.term-then-at-2.ensures.value in
    let next : drop k r ≡ c.term-then-at-2.result ∷ drop c.front_behind-then-at-2.result.place r = next_is r k c.term-then-at-2.result at c.term-then-at-2.ensures.value ∙ ap (λ (i : ℕ). c.term-then-at-2.result ∷ drop i r) (sym c.front_behind-then-at-2.ensures.place) in
    mirrored v (drop c.args.at.left.place l) (drop c.args.at.left.place l) (drop k r) (drop c.front_behind-then-at-2.result.place r) c.args.terms.now c.push-then-at-2.new.self
    (left_alone v (drop k r) (drop c.front_behind-then-at-2.result.place r) (drop c.args.at.left.place l) c.args.terms.now c.push-then-at-2.new.self c.term-then-at-2.result next
    (omega (arith, first, c.requires.right.first, c.if-at-2.true)) (omega (arith, c.requires.left.first, c.if-at-2.true)) c.requires.right_rises c.requires.left_rises c.requires.bound c.in_ok-push-2.ensures.ok)

-- no coefficient is too large to be added
left_fits : (v w : ℕ) (n : NormalConstraint) (j : ℕ) (t : NormalTerm) → IsNormal n → v ≡ first_variable (drop j n.terms) → min v w < most_names → v ≤ w → t ≡ get_or n.terms j t → t.coef ≤ largest_sum
left_fits v w n j t normal is some low there = omega (arith, coefficient_at n.terms j t (left_inside v w n.terms j is some low) there, normal.fits.sum)

right_fits : (v w : ℕ) (n : NormalConstraint) (k : ℕ) (t : NormalTerm) → IsNormal n → w ≡ first_variable (drop k n.terms) → min v w < most_names → w ≤ v → t ≡ get_or n.terms k t → t.coef ≤ largest_sum
right_fits v w n k t normal is some low there = omega (arith, coefficient_at n.terms k t (right_inside v w n.terms k is some low) there, normal.fits.sum)

pub rise-requires : goal.rise-requires
rise-requires c = left_fits c.args.at.left.variable c.args.at.right.variable c.args.left.now c.args.at.left.place c.term-from_left.result c.requires.left_normal c.requires.left.first c.requires.some (omega (arith, c.if-at-2.false)) c.term-from_left.ensures.value

pub rise-requires-2 : goal.rise-requires-2
rise-requires-2 c = right_fits c.args.at.left.variable c.args.at.right.variable c.args.right.now c.args.at.right.place c.term-2.result c.requires.right_normal c.requires.right.first c.requires.some (omega (arith, c.if-at.false)) c.term-2.ensures.value

small : (l r : ℤ) → unsigned_abs l ≤ largest_sum → unsigned_abs r ≤ largest_sum → FitsSigned w128 (to_z w128 (of_z w128 l) +ℤ to_z w128 (of_z w128 r))
small l r h k = omega (arith, ints, h, k)

-- the net coefficient as the code has it
net_is : (l r : ℤ) → unsigned_abs l ≤ largest_sum → unsigned_abs r ≤ largest_sum → to_z w128 (of_z w128 (to_z w128 (of_z w128 l) +ℤ to_z w128 (of_z w128 r))) ≡ l +ℤ r
net_is l r h k = omega (arith, ints, h, k)

pub overflow_add-net : goal.overflow_add-net
overflow_add-net c =
    let left : unsigned_abs c.rise.result ≤ largest_sum = omega (arith, c.rise.ensures.size, left_fits c.args.at.left.variable c.args.at.right.variable c.args.left.now c.args.at.left.place c.term-from_left.result c.requires.left_normal c.requires.left.first c.requires.some (omega (arith, c.if-at-2.false)) c.term-from_left.ensures.value) in
    let right : unsigned_abs c.rise-2.result ≤ largest_sum = omega (arith, c.rise-2.ensures.size, right_fits c.args.at.left.variable c.args.at.right.variable c.args.right.now c.args.at.right.place c.term-2.result c.requires.right_normal c.requires.right.first c.requires.some (omega (arith, c.if-at.false)) c.term-2.ensures.value) in
    small c.rise.result c.rise-2.result left right

pub returns-clause-merged : goal.returns-clause-merged
returns-clause-merged c =
    let l : List NormalTerm = c.args.left.now.terms in
    let r : List NormalTerm = c.args.right.now.terms in
    let j = c.args.at.left.place in
    let k = c.args.at.right.place in
    let t = c.term-from_left.result in
    let u = c.term-2.result in
    let same : c.args.at.left.variable ≡ c.args.at.right.variable = omega (arith, c.if-at.false, c.if-at-2.false) in
    let at : j < length l = left_inside c.args.at.left.variable c.args.at.right.variable l j c.requires.left.first c.requires.some (omega (arith, same)) in
    let here : k < length r = right_inside c.args.at.left.variable c.args.at.right.variable r k c.requires.right.first c.requires.some (omega (arith, same)) in
    let left : unsigned_abs c.rise.result ≤ largest_sum = omega (arith, c.rise.ensures.size, left_fits c.args.at.left.variable c.args.at.right.variable c.args.left.now c.args.at.left.place c.term-from_left.result c.requires.left_normal c.requires.left.first c.requires.some (omega (arith, c.if-at-2.false)) c.term-from_left.ensures.value) in
    let right : unsigned_abs c.rise-2.result ≤ largest_sum = omega (arith, c.rise-2.ensures.size, right_fits c.args.at.left.variable c.args.at.right.variable c.args.right.now c.args.at.right.place c.term-2.result c.requires.right_normal c.requires.right.first c.requires.some (omega (arith, c.if-at.false)) c.term-2.ensures.value) in
    let sum = net_is c.rise.result c.rise-2.result left right ∙ ap (λ (z : ℤ). z +ℤ c.rise-2.result) c.rise.ensures.value ∙ ap (λ (z : ℤ). rise_of t +ℤ z) c.rise-2.ensures.value in
    both_have (min c.args.at.left.variable c.args.at.right.variable) (drop j l) (drop c.front_behind-2.result.place l) (drop k r) (drop c.front_behind-3.result.place r) c.args.terms.now c.push_net.new.self t u _
    (next_is l j t at c.term-from_left.ensures.value ∙ ap (λ (i : ℕ). t ∷ drop i l) (sym c.front_behind-2.ensures.place))
    (next_is r k u here c.term-2.ensures.value ∙ ap (λ (i : ℕ). u ∷ drop i r) (sym c.front_behind-3.ensures.place))
    (omega (arith, first_is l j t at c.term-from_left.ensures.value, c.requires.left.first, same)) (omega (arith, first_is r k u here c.term-2.ensures.value, c.requires.right.first, same)) sum
    c.in_ok-push_net.ensures.gives c.requires.left_rises c.requires.right_rises c.in_ok-push_net.ensures.bound c.in_ok-push_net.ensures.rises
