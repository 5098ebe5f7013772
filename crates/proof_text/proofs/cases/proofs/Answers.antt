use Rattle.proof_text.proofs.ProofsComputed.{improving_spelt, growing_spelt, nested_spelt}
use Rattle.proof_text.proofs.cases.proofs.Goals as goal

pub returns-clause-improving : goal.returns-clause-improving
returns-clause-improving c = improving_spelt

pub returns-clause-growing : goal.returns-clause-growing
returns-clause-growing c = growing_spelt

pub returns-clause-nested : goal.returns-clause-nested
returns-clause-nested c = nested_spelt
