-- The first term's coefficient begins the run, and each further one is added within the limit of the sizes.
use Rattle.std.proofs.Common.{rules, ◌≡◌, ℕ, Bool, false, ◌+◌, ◌<◌, ◌≤◌, pos, ◌+ℤ◌, unsigned_abs, length, take, get_or, cond, ap, sym, ◌∙◌, arith, ℤ, List, FitsSigned, to_z, of_z}
use mir.Syntax.{w128}
use Rattle.std.proofs.lemmas.Int.{ints, to_z-of_z, fits_signed_from_abs}
use Rattle.std.proofs.lemmas.List.{get_or_default}
use Rattle.linear.specs.declared.term.Term.{Term}
use Rattle.normal_form.specs.Normal.{largest_sum}
use Rattle.normal_form.specs.NormalOf.{size_sum, slope}
use Rattle.normal_form.specs.Balance.{slopes}
use Rattle.normal_form.proofs.Runs.{size_at, size_take, size_more, slopes_more, run_more, run_size, slope_size}
use Rattle.normal_form.proofs.merging.run_from.Goals as goal

-- the term that the code reads past the end
abbrev none : Term
none = record { coef = pos 0; var = record { 0 = 0 }; negated = false }

-- the run of one term
first_net : (set : ℕ → Bool) (ts : List Term) (i : ℕ) (d : Term) (z : ℤ) → i < length ts → z ≡ slope (get_or ts i none) → slopes set (take (i + 1) ts) ≡ slopes set (take i ts) +ℤ cond (set ((get_or ts i d).var.0)) z (pos 0)
first_net set ts i d z h e =
    let same : slope (get_or ts i d) ≡ z = ap slope (get_or_default ts i d none h) ∙ sym e in
    slopes_more set ts i d h ∙ ap (λ (x : ℤ). slopes set (take i ts) +ℤ cond (set ((get_or ts i d).var.0)) x (pos 0)) same

first_size : (ts : List Term) (i : ℕ) (z : ℤ) → i < length ts → z ≡ slope (get_or ts i none) → unsigned_abs z ≤ size_sum (take (i + 1) ts)
first_size ts i z h e = omega (arith, ints, size_more ts i none h, slope_size (get_or ts i none).negated (get_or ts i none).coef, e)

-- one more term of the same variable
next_net : (set : ℕ → Bool) (ts : List Term) (i j : ℕ) (d : Term) (net sum : ℤ) → i < length ts → j < length ts → (get_or ts j none).var.0 ≡ (get_or ts i none).var.0 → slopes set (take j ts) ≡ slopes set (take i ts) +ℤ cond (set ((get_or ts i d).var.0)) net (pos 0) → sum ≡ net +ℤ slope (get_or ts j none) → slopes set (take (j + 1) ts) ≡ slopes set (take i ts) +ℤ cond (set ((get_or ts i d).var.0)) sum (pos 0)
next_net set ts i j d net sum h k v e s =
    let var : (get_or ts j none).var.0 ≡ (get_or ts i d).var.0 = v ∙ ap (λ (t : Term). t.var.0) (get_or_default ts i none d h) in
    run_more (set ((get_or ts i d).var.0)) (slopes set (take j ts)) (slopes set (take i ts)) (slopes set (take (j + 1) ts)) net (slope (get_or ts j none)) sum e (slopes_more set ts j none k ∙ ap (λ (x : ℕ). slopes set (take j ts) +ℤ cond (set x) (slope (get_or ts j none)) (pos 0)) var) s

next_size : (ts : List Term) (j : ℕ) (net sum : ℤ) → j < length ts → unsigned_abs net ≤ size_sum (take j ts) → sum ≡ net +ℤ slope (get_or ts j none) → unsigned_abs sum ≤ size_sum (take (j + 1) ts)
next_size ts j net sum h e s = run_size (get_or ts j none) net sum (size_sum (take j ts)) (size_sum (take (j + 1) ts)) e (size_more ts j none h) s

-- within the limit a sum fits
sum_fits : (ts : List Term) (j : ℕ) (sum : ℤ) → unsigned_abs sum ≤ size_sum (take (j + 1) ts) → size_sum ts ≤ largest_sum → FitsSigned w128 sum
sum_fits ts j sum h k = fits_signed_from_abs w128 sum (omega (arith, h, k, size_take (j + 1) ts))

pub slope-net-requires : goal.slope-net-requires
slope-net-requires c = omega (arith, size_at c.args.sorted.now c.args.start none c.requires.place, c.requires.sizes)

first_is : (c : goal.After-slope-net) → to_z w128 (of_z w128 c.slope-net.result) ≡ slope (get_or c.args.sorted.now c.args.start none)
first_is c = to_z-of_z w128 c.slope-net.result (search rules) ∙ c.slope-net.ensures

pub loop-end-init : goal.loop-end-init
loop-end-init c = record {
  after = omega arith;
  within = omega (arith, c.requires.place);
  net = λ set d. first_net set c.args.sorted.now c.args.start d _ c.requires.place (first_is c);
  size = first_size c.args.sorted.now c.args.start _ c.requires.place (first_is c);
}

pub slope-net-requires-in-loop-end : goal.slope-net-requires-in-loop-end
slope-net-requires-in-loop-end c = omega (arith, size_at c.args.sorted.now c.loop-end.end none c.loop-end-test.true, c.requires.sizes)

added_is : (c : goal.After-slope-net-in-loop-end) → to_z w128 c.loop-end.net-bits +ℤ to_z w128 (of_z w128 c.slope-net-in-loop-end.result) ≡ to_z w128 c.loop-end.net-bits +ℤ slope (get_or c.args.sorted.now c.loop-end.end none)
added_is c =
    let back : to_z w128 (of_z w128 c.slope-net-in-loop-end.result) ≡ c.slope-net-in-loop-end.result = to_z-of_z w128 c.slope-net-in-loop-end.result (search rules) in
    omega (arith, ints, back, c.slope-net-in-loop-end.ensures)

pub overflow_add-net : goal.overflow_add-net
overflow_add-net c = sum_fits c.args.sorted.now c.loop-end.end _ (next_size c.args.sorted.now c.loop-end.end (to_z w128 c.loop-end.net-bits) _ c.loop-end-test.true c.loop-end.invariant.size (added_is c)) c.requires.sizes

next_is : (c : goal.After-slope-net-in-loop-end) → to_z w128 (of_z w128 (to_z w128 c.loop-end.net-bits +ℤ to_z w128 (of_z w128 c.slope-net-in-loop-end.result))) ≡ to_z w128 c.loop-end.net-bits +ℤ slope (get_or c.args.sorted.now c.loop-end.end none)
next_is c = to_z-of_z w128 _ (overflow_add-net c) ∙ added_is c

pub loop-end-preserved : goal.loop-end-preserved
loop-end-preserved c = record {
  after = omega (arith, c.loop-end.invariant.after);
  within = omega (arith, c.loop-end-test.true);
  net = λ set d. next_net set c.args.sorted.now c.args.start c.loop-end.end d (to_z w128 c.loop-end.net-bits) _ c.requires.place c.loop-end-test.true c.if-sorted-end.true (c.loop-end.invariant.net set d) (next_is c);
  size = next_size c.args.sorted.now c.loop-end.end (to_z w128 c.loop-end.net-bits) _ c.loop-end-test.true c.loop-end.invariant.size (next_is c);
}
