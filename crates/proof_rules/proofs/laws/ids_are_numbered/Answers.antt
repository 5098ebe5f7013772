use Rattle.proof_rules.proofs.Numbering.{numbered_start, numbered_step}
use Rattle.proof_rules.proofs.laws.ids_are_numbered.Goals as goal

pub returns-clause-start : goal.returns-clause-start
returns-clause-start c p s within start = numbered_start p s within start

pub returns-clause-step : goal.returns-clause-step
returns-clause-step c p s t step h legal = numbered_step p s step t h legal
