use Rattle.std.proofs.Common.{◌≡◌, true, codes, rules}
use Rattle.std.specs.Str.{bytes_eq}
use Rattle.proof_text.proofs.SubstitutionsRead.{zero_read, one_read, literal_image}
use Rattle.proof_text.proofs.witness.image.Goals as goal

pub returns-in-Literal-clause-read : goal.returns-in-Literal-clause-read
returns-in-Literal-clause-read c =
    let e = c.in_ok-lit.ensures in
    literal_image c.args.table.now c.lit.new.table c.args.token.text.now c.in_ok-lit.field-0 e.literal e.met e.value

pub returns-then-eq-clause-read : goal.returns-then-eq-clause-read
returns-then-eq-clause-read c =
    let zero : bytes_eq c.args.token.text.now (codes "0") ≡ true = search rules in
    zero_read c.args.table.now c.args.token.text.now zero

pub returns-then-eq-2-clause-read : goal.returns-then-eq-2-clause-read
returns-then-eq-2-clause-read c =
    let one : bytes_eq c.args.token.text.now (codes "1") ≡ true = search rules in
    one_read c.args.table.now c.args.token.text.now one
