-- The same chain, forced by the same constraints.
use Rattle.std.proofs.Common.{[]}
use Rattle.propagate.proofs.Chains.{chain_of_more, conflict_of_more}
use Rattle.propagate.proofs.laws.more_constraints.Goals as goal

pub returns-clause-chain : goal.returns-clause-chain
returns-clause-chain c = chain_of_more

pub returns-clause-conflict : goal.returns-clause-conflict
returns-clause-conflict _ fewer more h given r = conflict_of_more fewer more h given r

pub returns-clause-refuted : goal.returns-clause-refuted
returns-clause-refuted _ fewer more h r = conflict_of_more fewer more h [] r
