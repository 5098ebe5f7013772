use Rattle.proof_rules.proofs.NotLegal.{step_never}
use Rattle.proof_rules.proofs.laws.faulty_is_not_legal.Goals as goal

pub returns : goal.returns
returns _ p s t step f h legal = step_never p s step f t h legal
