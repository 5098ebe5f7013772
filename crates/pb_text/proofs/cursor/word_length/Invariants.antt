use Rattle.std.proofs.Common.{◌≡◌, ◌+◌, ◌++◌, false, length, take, drop}
use Rattle.pb_text.specs.Lexeme.{Position, cut}
use Rattle.pb_text.specs.Cutting.{behind}
use Rattle.pb_text.proofs.cursor.word_length.Given as goal

abbrev pub invariant-loop-tail : goal.invariant-loop-tail
invariant-loop-tail l = record {
  within : l.size + length l.rest ≡ length l.text;
  rest : l.rest ≡ drop l.size l.text;
  word :
      (p : Position) → p.comment ≡ false →
      cut p l.text ≡ record {
        word = take l.size l.text ++ (cut (behind l.size p) l.rest).word;
        tokens = (cut (behind l.size p) l.rest).tokens;
      };
}

abbrev pub decreases-loop-tail : goal.decreases-loop-tail
decreases-loop-tail l = length l.rest
