use Rattle.std.proofs.Common.{◌≡◌, ◌<◌, ◌∙◌, ap, arith, false, length, take, refl}
use Rattle.std.proofs.lemmas.List.{length-take-le}
use Rattle.pb_text.specs.Lexeme.{Position, Cut, symbol_length}
use Rattle.pb_text.proofs.Cutting.{symbol_first, word_first, empty_word}
use Rattle.pb_text.proofs.cursor.token_length.Goals as goal

pub returns-then-size-gt0-clause-token : goal.returns-then-size-gt0-clause-token
returns-then-size-gt0-clause-token c p plain some =
    let within = c.word_length-size.ensures.within in
    let l : 0 < length (take c.word_length-size.result c.args.text.now) = rw length-take-le some in
    word_first p _ c.args.text.now _ l (c.word_length-size.ensures.word p plain)

pub returns-else-size-gt0-clause-end : goal.returns-else-size-gt0-clause-end
returns-else-size-gt0-clause-end c none =
    let p : Position = record { start = 0; line = 1; comment = false } in
    let s : symbol_length c.args.text.now ≡ 0 = omega (arith, none, c.symbol_length.ensures.symbol) in
    let w : c.word_length-size.result ≡ 0 = omega (arith, c.if-size-gt0.false) in
    empty_word p c.args.text.now refl c.requires s
    (ap (λ (d : Cut). d.word) (c.word_length-size.ensures.word p refl) ∙ rw w refl)

pub returns-else-size-gt0-clause-token : goal.returns-else-size-gt0-clause-token
returns-else-size-gt0-clause-token c p plain some =
    rw c.symbol_length.ensures.symbol
    (symbol_first p c.args.text.now plain c.requires (rw c.symbol_length.ensures.symbol at some))
