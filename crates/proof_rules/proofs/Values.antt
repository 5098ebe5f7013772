-- The value of an expression holds wherever the constraints that it cites do, and its variables rise.
use Rattle.std.proofs.Common.{◌≡◌, ℤ, Some, unsigned_abs}
use Rattle.linear.specs.Valuation.{Valuation}
use Rattle.normal_form.specs.Normal.{NormalConstraint, Holds, Rises}
use Rattle.cut_rules.proofs.Sum.{sum_keeps}
use Rattle.cut_rules.proofs.Meaning.{multiple_law, quotient_law, saturation_law, weakening_law, axiom_law}
use Rattle.proof_rules.specs.Expression.{Given, Expression, cited, axiom_of, sum, multiple, quotient, saturated, weakened, HasValue}

pub value_holds : (given : Given) (a : Valuation) → ((id : ℤ) (n : NormalConstraint) → given id ≡ Some n → Holds a n)
    → (e : Expression) (n : NormalConstraint) → HasValue given e n → Holds a n
value_holds given a h (cited id) n v = h id n v
value_holds given a h (axiom_of l) n v = axiom_law l n v a
value_holds given a h (sum e f) n v = sum_keeps v.0 v.1 n v.4 a (value_holds given a h e v.0 v.2) (value_holds given a h f v.1 v.3)
value_holds given a h (multiple k e) n v = multiple_law (unsigned_abs k) v.0 n v.3 a (value_holds given a h e v.0 v.2)
value_holds given a h (quotient k e) n v = quotient_law (unsigned_abs k) v.0 n v.3 a (value_holds given a h e v.0 v.2)
value_holds given a h (saturated e) n v = saturation_law v.0 n v.2 a (value_holds given a h e v.0 v.1)
value_holds given a h (weakened x e) n v = weakening_law (x.0) v.0 n v.2 a (value_holds given a h e v.0 v.1)

pub value_rises : (given : Given) → ((id : ℤ) (n : NormalConstraint) → given id ≡ Some n → Rises 0 n.terms)
    → (e : Expression) (n : NormalConstraint) → HasValue given e n → Rises 0 n.terms
value_rises given h (cited id) n v = h id n v
value_rises given h (axiom_of l) n v = v.rises
value_rises given h (sum e f) n v = v.4.rises
value_rises given h (multiple k e) n v = v.3.rises
value_rises given h (quotient k e) n v = v.3.rises
value_rises given h (saturated e) n v = v.2.rises
value_rises given h (weakened x e) n v = v.2.rises
