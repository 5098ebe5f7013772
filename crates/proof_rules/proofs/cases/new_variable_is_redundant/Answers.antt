use Rattle.std.proofs.Common.{[], ◌∷◌, refl, arith}
use Rattle.normal_form.specs.Cases.{plain, negated, normal}
use Rattle.normal_form.proofs.NormalForm.{is_form}
use Rattle.propagate.specs.Cases.{unit}
use Rattle.substitution.specs.Cases.{single}
use Rattle.substitution.specs.Under.{substituted}
use Rattle.substitution.specs.declared.image.Image.TheVariants.{One}
use Rattle.proof_rules.proofs.ShownHolds.{zero_shown}
use Rattle.proof_rules.proofs.cases.new_variable_is_redundant.Goals as goal

pub returns : goal.returns
returns c = (
  normal (negated 1 1 ∷ []) 0,
  is_form (substituted (normal (negated 1 1 ∷ plain 1 2 ∷ []) 1) (single 2 One)) (normal (negated 1 1 ∷ []) 0) (omega arith, omega arith, tt) (λ set. refl) refl,
  zero_shown (unit 1 ∷ []) (normal (negated 1 1 ∷ []) 0) (omega arith, omega arith, tt) refl,
)
