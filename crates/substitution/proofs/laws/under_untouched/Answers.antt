-- It is a form under the substitution, and there is one.
use Rattle.std.proofs.Common.{subst}
use Rattle.normal_form.proofs.NormalForm.{one_form}
use Rattle.substitution.specs.Covering.{Covers}
use Rattle.substitution.specs.Under.{substituted}
use Rattle.substitution.proofs.Covered.{covers_itself}
use Rattle.substitution.proofs.Untouched.{under_untouched}
use Rattle.substitution.proofs.laws.under_untouched.Goals as goal

pub returns-clause-itself : goal.returns-clause-itself
returns-clause-itself c = under_untouched

pub returns-clause-covered : goal.returns-clause-covered
returns-clause-covered c n r images rises apart under =
    subst (Covers n) (one_form (substituted n images) n r (under_untouched n images rises apart) under) (covers_itself n)
