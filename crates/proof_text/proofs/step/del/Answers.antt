use Rattle.std.proofs.Common.{◌≡◌, true, codes, sym, ap, subst, ◌∙◌, rules}
use Rattle.std.specs.Str.{bytes_eq}
use Rattle.pb_text.specs.TokensOf.{texts_of}
use Rattle.proof_text.specs.Words.{AreSmall}
use Rattle.proof_text.specs.Forms.{are_integers, integers_of}
use Rattle.proof_text.proofs.StepsRead.{del_read}
use Rattle.proof_text.proofs.step.del.Goals as goal

pub returns-then-eq-clause-read : goal.returns-then-eq-clause-read
returns-then-eq-clause-read c =
    let e = c.in_ok-ids.ensures in
    let here : bytes_eq c.in-Some.token.text.now (codes "id") ≡ true = search rules in
    del_read c.args.table.now (texts_of c.args.words) (texts_of c.next.new.self) c.in-Some.token.text.now c.in_ok-ids.ids (ap texts_of c.in-Some.ensures.tokens) here
    (ap are_integers (sym c.new.ensures) ∙ e.integers) (e.values ∙ ap integers_of c.new.ensures) (subst AreSmall c.new.ensures e.small)
