use Rattle.std.proofs.Common.{◌≡◌, Bool, true, false, refl}
use Rattle.std.proofs.Math.Bool.{beq}
use Rattle.std.proofs.lemmas.Bool.{false≢true}
use Rattle.presolve.specs.Forms.{constraint_of}
use Rattle.presolve.proofs.Symmetry.{alike_terms}
use Rattle.presolve.proofs.form.Form.has_alike.Goals as goal

signs_same : (a b : Bool) → beq a b ≡ true → a ≡ b
signs_same true true e = refl
signs_same false false e = refl
signs_same true false e = absurd (false≢true e)
signs_same false true e = absurd (false≢true e)

pub returns-then-one-other : goal.returns-then-one-other
returns-then-one-other c e =
    alike_terms (c.args.x.0) (c.args.y.0) (constraint_of c.args.self.now) c.in-Some-Some.one c.in-Some-Some.other c.requires c.in-Some-Some.ensures c.in-Some-Some.ensures' c.if-one-other.true
    (signs_same c.in-Some-Some.one.negated c.in-Some-Some.other.negated e)
