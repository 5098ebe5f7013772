use Rattle.std.proofs.Common.{sym, subst}
use Rattle.pb_text.specs.Scan.{IsFirst}
use Rattle.pb_text.proofs.ScannedWords.{integer_first, literal_first}
use Rattle.pb_text.proofs.scan.quick_token.Goals as goal

pub returns-then-first-le57 : goal.returns-then-first-le57
returns-then-first-le57 c =
    let word = c.in_ok-integer_word.field-0 in
    subst (IsFirst c.args.text.now) (sym c.integer_token.ensures) (integer_first word.size word.number c.args.text.now c.in_ok-integer_word.ensures)

pub returns : goal.returns
returns c = literal_first c.in_ok-found.found.size c.in_ok-found.found.said c.args.text.now c.in_ok-found.ensures
