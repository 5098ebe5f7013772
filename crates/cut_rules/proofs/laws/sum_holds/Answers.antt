-- The law, proved of the rules' equations alone.
use Rattle.cut_rules.proofs.Sum.{sum_keeps}
use Rattle.cut_rules.proofs.laws.sum_holds.Goals as goal

pub returns : goal.returns
returns c = sum_keeps
