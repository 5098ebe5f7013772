use Rattle.std.proofs.Common.{◌≡◌, ℤ, true, [], Some, codes, sym, subst, ◌∙◌, FitsSigned, rules}
use Rattle.std.proofs.lemmas.Int.{to_z-of_z}
use mir.Syntax.{w128}
use Rattle.proof_text.specs.Words.{is_first, AreSmall}
use Rattle.proof_text.specs.Frame.{count_of}
use Rattle.proof_text.proofs.PolItems.{passed}
use Rattle.proof_text.proofs.CountLine.{counted_by_two, no_count, none_left}
use Rattle.proof_text.proofs.frame.count.Goals as goal

pub returns-then-is_empty : goal.returns-then-is_empty
returns-then-is_empty c =
    let ws = c.args.words in
    let n = c.in-Ok.number in
    let e = c.in-Ok.ensures in
    let first : is_first (codes "f") ws ≡ true = sym c.takes.ensures.first ∙ c.if-not-takes.false in
    let rest = passed (codes "f") ws c.takes.new.self first c.takes.ensures.left in
    let fits : FitsSigned w128 n = search rules in
    let empty : c.take.new.self ≡ [] = none_left c.take.new.self (sym c.is_empty.ensures ∙ c.if-is_empty.true) in
    subst (λ (x : ℤ). (count_of ws ≡ Some x) × AreSmall ws) (sym (to_z-of_z w128 n fits))
    (counted_by_two c.in_ok-token.token.text.now ws c.takes.new.self c.take.new.self n first rest c.in_ok-token.ensures empty e.integer e.value e.small)

pub returns-in-Err : goal.returns-in-Err
returns-in-Err c =
    let ws = c.args.words in
    let first : is_first (codes "f") ws ≡ true = sym c.takes.ensures.first ∙ c.if-not-takes.false in
    let rest = passed (codes "f") ws c.takes.new.self first c.takes.ensures.left in
    no_count c.in-Err.field-0 c.in_ok-token.token.text.now ws c.takes.new.self c.take.new.self first rest c.in_ok-token.ensures c.in-Err.ensures.denies c.in-Err.ensures.memory
