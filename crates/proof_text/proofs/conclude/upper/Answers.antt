use Rattle.std.proofs.Common.{◌≡◌, true, codes, rules}
use Rattle.std.specs.Str.{bytes_eq}
use Rattle.proof_text.proofs.ConclusionsRead.{inf_upper}
use Rattle.proof_text.proofs.conclude.upper.Goals as goal

pub returns-then-eq-clause-value : goal.returns-then-eq-clause-value
returns-then-eq-clause-value c = let h : bytes_eq c.args.token.text.now (codes "INF") ≡ true = search rules in (inf_upper c.args.token.text.now h).0

pub returns-then-eq-clause-small : goal.returns-then-eq-clause-small
returns-then-eq-clause-small c = let h : bytes_eq c.args.token.text.now (codes "INF") ≡ true = search rules in (inf_upper c.args.token.text.now h).1
