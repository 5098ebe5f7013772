-- The law, proved of the rules' equations alone.
use Rattle.cut_rules.proofs.Meaning.{saturation_law}
use Rattle.cut_rules.proofs.laws.saturation_holds.Goals as goal

pub returns : goal.returns
returns c = saturation_law
