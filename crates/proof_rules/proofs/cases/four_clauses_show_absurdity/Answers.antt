use Rattle.std.proofs.Common.{[], refl}
use Rattle.normal_form.specs.Cases.{normal}
use Rattle.propagate.specs.Cases.{four_clauses}
use Rattle.proof_rules.specs.Shown.{absurdity}
use Rattle.proof_rules.proofs.ShownBySearch.{shown_by_search}
use Rattle.proof_rules.proofs.cases.four_clauses_show_absurdity.Goals as goal

pub returns : goal.returns
returns c = shown_by_search 4 four_clauses absurdity (normal [] 0) (record { rises = tt; terms = refl; degree = refl }) refl
