-- What a substitution must show of an objective: that it does not raise it.
use Rattle.std.specs.Prelude.{◌≡◌, ℕ, false, ℤ, pos, List, ◌++◌, map, slice_index_or}
use Rattle.linear.specs.declared.term.Term.{Term}
use Rattle.linear.specs.declared.constraint.Relation.TheVariants.{AtLeast}
use Rattle.linear.specs.declared.constraint.Signed.{Signed}
use Rattle.normal_form.specs.Normal.{NormalConstraint}
use Rattle.normal_form.specs.NormalOf.{IsNormalOf, net, sign_changed}
use Rattle.substitution.specs.Images.{Images}
use Rattle.substitution.specs.Under.{terms_under, constant_under}

-- objective - (objective under the substitution) >= 0; what is constant stands on the right side
abbrev pub not_raised : List Term → Images → Signed
not_raised objective images = record {
  terms = objective ++ map sign_changed (terms_under images objective);
  relation = AtLeast;
  right = constant_under images objective;
}

-- `goal` is the normal form of: objective - (objective under the substitution) >= 0
abbrev pub IsObjectiveGoal : List Term → Images → NormalConstraint → Type 0
IsObjectiveGoal objective images goal = IsNormalOf (not_raised objective images) goal

-- the table has the net coefficient of each variable, which is 0 past its end
abbrev pub AreNetsOf : List Term → List ℤ → Type 0
AreNetsOf objective nets = (v : ℕ) → slice_index_or nets v (pos 0) ≡ net objective v

-- one term for each variable that is given an image, with its net coefficient
abbrev pub net_terms : List ℤ → Images → List Term
net_terms nets = map (λ p. record { coef = slice_index_or nets (p.0.0) (pos 0); var = p.0; negated = false })
