use Rattle.std.proofs.Common.{true, false, ◌∷◌, List, Bool, Option, Some, sym, ap, ◌∙◌}
use Rattle.std.proofs.lemmas.Bool.{false≢true}
use Rattle.proof_steps.specs.declared.conclusion.Conclusion.{Conclusion}
use Rattle.proof_steps.specs.declared.conclusion.Conclusion.TheVariants as conclusions
use Rattle.pb_main.proofs.cases.told_by_what_was_accepted.Goals as goal

denies : Conclusion → Bool
denies conclusions.Unsat = true
denies _ = false

first_of : Option (List Bool) → Bool
first_of (Some (value ∷ values)) = value
first_of _ = false

pub returns-clause-not_denied : goal.returns-clause-not_denied
unfolding denies
returns-clause-not_denied c opb proof limit accepted nothing checked = false≢true (ap denies (sym nothing ∙ checked.conclusion))

pub returns-clause-denied : goal.returns-clause-denied
unfolding denies
returns-clause-denied c opb proof limit accepted s unsat checked = false≢true (sym (ap denies (sym unsat ∙ checked.bounds)))

pub returns-clause-other_best : goal.returns-clause-other_best
unfolding first_of
returns-clause-other_best c opb proof limit accepted s best values checked = false≢true (sym (ap first_of (sym best ∙ checked.best ∙ ap Some values)))
