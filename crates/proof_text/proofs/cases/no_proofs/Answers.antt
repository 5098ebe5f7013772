use Rattle.proof_text.proofs.ProofsComputed.{no_end, text_behind, step_behind, block_open}
use Rattle.proof_text.proofs.cases.no_proofs.Goals as goal

pub returns-clause-no_end : goal.returns-clause-no_end
returns-clause-no_end c = no_end

pub returns-clause-text_behind : goal.returns-clause-text_behind
returns-clause-text_behind c = text_behind

pub returns-clause-step_behind : goal.returns-clause-step_behind
returns-clause-step_behind c = step_behind

pub returns-clause-block_open : goal.returns-clause-block_open
returns-clause-block_open c = block_open
