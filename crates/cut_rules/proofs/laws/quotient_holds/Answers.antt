-- The law, proved of the rules' equations alone.
use Rattle.cut_rules.proofs.Meaning.{quotient_law}
use Rattle.cut_rules.proofs.laws.quotient_holds.Goals as goal

pub returns : goal.returns
returns c = quotient_law
