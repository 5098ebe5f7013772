-- The law, proved of the rules' equations alone.
use Rattle.cut_rules.proofs.Meaning.{multiple_law}
use Rattle.cut_rules.proofs.laws.multiple_holds.Goals as goal

pub returns : goal.returns
returns c = multiple_law
