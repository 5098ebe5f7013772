-- The opposite terms have the same coefficients and variables, so these are above 0 and rise.
use Rattle.std.proofs.Common.{◌≡◌, ℕ, ◌≤◌, ◌<◌, take, get_or, length, List, ap, sym, subst, arith}
use Rattle.normal_form.specs.declared.term.NormalTerm.{NormalTerm}
use Rattle.normal_form.specs.Normal.{variable_bound, Rises}
use Rattle.normal_form.specs.Balance.{flipped}
use Rattle.normal_form.proofs.Sums.{rises_at, bound_take}
use Rattle.normal_form.proofs.Negations.{flipped_bound}
use Rattle.normal_form.proofs.opposites.flip.Goals as goal

below : (ts made : List NormalTerm) (i : ℕ) (t : NormalTerm) → Rises 0 ts → i < length ts → made ≡ flipped (take i ts) → t ≡ get_or ts i t → variable_bound made ≤ t.var.0
below ts made i t r h e is = omega (arith, ap variable_bound e, flipped_bound (take i ts), bound_take 0 ts i t r h, ap (λ (u : NormalTerm). u.var.0) is)

pub push-requires-clause-coefficient : goal.push-requires-clause-coefficient
push-requires-clause-coefficient c =
    let inside = subst (λ n. c.loop-place.place < n) c.len-place-end.ensures c.loop-place-test.true in
    subst (λ (t : NormalTerm). 0 < t.coef) (sym c.get-term.ensures) (rises_at 0 c.args.terms.now c.loop-place.place c.get-term.result c.requires inside)

pub push-requires-clause-variable : goal.push-requires-clause-variable
push-requires-clause-variable c =
    let inside = subst (λ n. c.loop-place.place < n) c.len-place-end.ensures c.loop-place-test.true in
    below c.args.terms.now c.loop-place.opposite c.loop-place.place c.get-term.result c.requires inside c.loop-place.invariant c.get-term.ensures
