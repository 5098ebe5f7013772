-- Each constraint that has an id is one of all.
use Rattle.propagate.proofs.TraceMeaning.{chain_traced, conflict_traced, end_traced}
use Rattle.propagate.proofs.laws.trace_meaning.Goals as goal

pub returns-clause-chain : goal.returns-clause-chain
returns-clause-chain c content given t h = chain_traced content given t.forced h.chain

pub returns-clause-conflict : goal.returns-clause-conflict
returns-clause-conflict c = conflict_traced

pub returns-clause-no_conflict : goal.returns-clause-no_conflict
returns-clause-no_conflict c content given t h is = (end_traced content given t h is).no_conflict

pub returns-clause-closure : goal.returns-clause-closure
returns-clause-closure c content given t h is = (end_traced content given t h is).closure
