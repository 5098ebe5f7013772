-- The law, proved of the rules' equations alone.
use Rattle.cut_rules.proofs.Sum.{one_sum}
use Rattle.cut_rules.proofs.Meaning.{one_multiple, one_quotient, one_saturation, one_weakening, one_axiom}
use Rattle.cut_rules.proofs.laws.one_result.Goals as goal

pub returns-clause-sum : goal.returns-clause-sum
returns-clause-sum c = one_sum

pub returns-clause-multiple : goal.returns-clause-multiple
returns-clause-multiple c = one_multiple

pub returns-clause-quotient : goal.returns-clause-quotient
returns-clause-quotient c = one_quotient

pub returns-clause-saturation : goal.returns-clause-saturation
returns-clause-saturation c = one_saturation

pub returns-clause-weakening : goal.returns-clause-weakening
returns-clause-weakening c = one_weakening

pub returns-clause-axiom : goal.returns-clause-axiom
returns-clause-axiom c = one_axiom
