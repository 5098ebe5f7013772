use Rattle.std.proofs.Common.{◌++◌, refl}
use Rattle.proof_write.specs.Whole.{last_lines}
use Rattle.proof_log.proofs.Growing.{legal_steps, proves, proved_true, leads_of, no_more_bites, spells}
use Rattle.proof_log.proofs.laws.log_is_legal_proof.Goals as goal

pub returns-clause-legal : goal.returns-clause-legal
returns-clause-legal _ l proof = (proof.steps, proof.entitled.0, legal_steps l proof, proof.written.lines)

pub returns-clause-outside : goal.returns-clause-outside
returns-clause-outside _ l proof = proof.entitled.1.0

pub returns-clause-spelled : goal.returns-clause-spelled
returns-clause-spelled _ l proof writable = spells l (l.text ++ last_lines l.problem.names l.conclusion) proof writable refl

pub returns-clause-spells_proof : goal.returns-clause-spells_proof
returns-clause-spells_proof _ = proves

pub returns-clause-true_of_problem : goal.returns-clause-true_of_problem
returns-clause-true_of_problem _ = proved_true

pub returns-clause-leads : goal.returns-clause-leads
returns-clause-leads _ p s t steps count h = leads_of p s t steps count h

pub returns-clause-count : goal.returns-clause-count
returns-clause-count _ p s t steps count h = no_more_bites p s t steps count h
