use Rattle.std.proofs.Common.{◌≡◌, [], ◌∷◌, ℕ, List, false, sym, ap, ◌∙◌}
use Rattle.pb_text.specs.Cutting.{begins_white}
use Rattle.pb_text.specs.Lexeme.{lexemes_from}
use Rattle.pb_text.specs.Taken.{is_next}
use Rattle.pb_text.proofs.BytesRead.{not_that}
use Rattle.pb_text.proofs.LoneBytes.{asked, behind_lone, none_first, other_first}
use Rattle.pb_text.proofs.scan.is_lone_byte.Goals as goal

pub returns-then-first-byte-clause-next : goal.returns-then-first-byte-clause-next
returns-then-first-byte-clause-next c p plain =
    asked p c.in-Some.first.now c.args.byte c.args.text.now c.in-Some.rest.now c.ends_word.result
    c.in-Some.ensures.cases.0 c.if-first-byte.true plain c.requires.plain c.ends_word.ensures

pub returns-then-first-byte-clause-rest : goal.returns-then-first-byte-clause-rest
returns-then-first-byte-clause-rest c p plain ends =
    behind_lone p c.in-Some.first.now c.args.byte c.args.text.now c.in-Some.rest.now
    c.in-Some.ensures.cases.0 c.if-first-byte.true plain c.requires.plain (c.ends_word.ensures.0 ends)

pub returns-else-first-byte-clause-next : goal.returns-else-first-byte-clause-next
returns-else-first-byte-clause-next c p plain =
    let at = c.in-Some.ensures.cases.0 in
    let white : begins_white (c.in-Some.first.now ∷ c.in-Some.rest.now) ≡ false = sym (ap begins_white at) ∙ c.requires.white in
    not_that c.in-Some.first.now c.args.byte c.if-first-byte.false
    ∙ sym (ap (λ (xs : List ℕ). is_next (c.args.byte ∷ []) (lexemes_from p xs)) at ∙ other_first p c.in-Some.first.now c.args.byte c.in-Some.rest.now plain white c.if-first-byte.false)

pub returns-in-None-clause-next : goal.returns-in-None-clause-next
returns-in-None-clause-next c p plain = sym (none_first p (c.args.byte ∷ []) c.args.text.now c.in-None.ensures.cases)
