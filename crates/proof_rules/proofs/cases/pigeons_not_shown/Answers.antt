use Rattle.std.proofs.Common.{[], refl}
use Rattle.normal_form.specs.Cases.{normal}
use Rattle.propagate.specs.Cases.{pigeons}
use Rattle.proof_rules.specs.Shown.{absurdity}
use Rattle.proof_rules.proofs.ShownBySearch.{not_shown}
use Rattle.proof_rules.proofs.cases.pigeons_not_shown.Goals as goal

pub returns : goal.returns
returns c = not_shown 1 pigeons absurdity (normal [] 0) [] (record { rises = tt; terms = refl; degree = refl }) refl refl
