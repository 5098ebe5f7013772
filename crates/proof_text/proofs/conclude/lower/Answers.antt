use Rattle.std.proofs.Common.{◌≡◌, true, codes, rules}
use Rattle.std.specs.Str.{bytes_eq}
use Rattle.proof_text.proofs.ConclusionsRead.{inf_lower, minus_lower}
use Rattle.proof_text.proofs.conclude.lower.Goals as goal

pub returns-then-eq-clause-value : goal.returns-then-eq-clause-value
returns-then-eq-clause-value c = let h : bytes_eq c.args.token.text.now (codes "INF") ≡ true = search rules in (inf_lower c.args.token.text.now h).0

pub returns-then-eq-clause-small : goal.returns-then-eq-clause-small
returns-then-eq-clause-small c = let h : bytes_eq c.args.token.text.now (codes "INF") ≡ true = search rules in (inf_lower c.args.token.text.now h).1

pub returns-then-eq-2-clause-value : goal.returns-then-eq-2-clause-value
returns-then-eq-2-clause-value c = let h : bytes_eq c.args.token.text.now (codes "-INF") ≡ true = search rules in (minus_lower c.args.token.text.now h).0

pub returns-then-eq-2-clause-small : goal.returns-then-eq-2-clause-small
returns-then-eq-2-clause-small c = let h : bytes_eq c.args.token.text.now (codes "-INF") ≡ true = search rules in (minus_lower c.args.token.text.now h).1
