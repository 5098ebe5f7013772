-- The law, proved of the rules' equations alone.
use Rattle.cut_rules.proofs.Meaning.{weakening_law}
use Rattle.cut_rules.proofs.laws.weakening_holds.Goals as goal

pub returns : goal.returns
returns c = weakening_law
