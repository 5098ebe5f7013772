-- The law, proved of the rules' equations alone.
use Rattle.cut_rules.proofs.Meaning.{axiom_law}
use Rattle.cut_rules.proofs.laws.axiom_holds.Goals as goal

pub returns : goal.returns
returns c = axiom_law
