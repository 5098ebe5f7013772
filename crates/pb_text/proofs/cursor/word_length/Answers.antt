use Rattle.std.proofs.Common.{◌≡◌, ◌∙◌, ap, arith, List, ℕ, drop, length-drop, true}
use Rattle.std.proofs.lemmas.List.{drop-drop}
use Rattle.pb_text.specs.Cutting.{begins_word}
use Rattle.pb_text.proofs.Cutting.{word_grows, word_ends, word_not_empty}
use Rattle.pb_text.proofs.cursor.word_length.Goals as goal

pub loop-tail-preserved : goal.loop-tail-preserved
loop-tail-preserved c =
    let now = c.loop-tail.invariant in
    let tail : c.in-Some.tail.now ≡ drop 1 c.loop-tail.rest.now = c.in-Some.ensures.1 in
    let some : begins_word c.loop-tail.rest.now ≡ true = c.in-Some.ensures.0 in
    record {
      within = rw tail (omega (arith, now.within, length-drop 1 c.loop-tail.rest.now, word_not_empty c.loop-tail.rest.now some));
      rest = tail ∙ ap (λ (xs : List ℕ). drop 1 xs) now.rest ∙ drop-drop 1 c.loop-tail.size c.args.text.now;
      word = λ p plain. rw tail (word_grows p c.loop-tail.size c.args.text.now c.loop-tail.rest.now plain now.rest some (now.word p plain));
    }

pub returns-clause-word : goal.returns-clause-word
returns-clause-word c p plain =
    word_ends p c.loop-tail.size c.args.text.now c.loop-tail.rest.now plain c.loop-tail.invariant.rest c.in_default.ensures (c.loop-tail.invariant.word p plain)
