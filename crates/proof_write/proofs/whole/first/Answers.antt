use Rattle.std.proofs.Common.{◌≡◌, ◌++◌, ◌∙◌, ap, codes, pos, rules, to_z, of_z, FitsSigned}
use mir.Syntax.{w128}
use Rattle.std.proofs.lemmas.Int.{to_z-of_z}
use Rattle.std.proofs.lemmas.Result.{on_ok_weaker}
use Rattle.proof_write.specs.Writing.{spaced, number_words}
use Rattle.proof_write.proofs.WordsAppended.{four_behind}
use Rattle.proof_write.proofs.whole.first.Goals as goal

pub returns-clause-ok : goal.returns-clause-ok
returns-clause-ok c =
    let a = c.args.out.now.items in
    let d = c.number.new.out.items in
    let fits : FitsSigned w128 c.from.result = search rules in
    let number_is : to_z w128 (of_z w128 c.from.result) ≡ pos c.args.count = to_z-of_z w128 c.from.result fits ∙ search rules in
    let e = c.begin-3.new.out.items in
    on_ok_weaker c.begin-3.result
    (λ (last : e ≡ d ++ codes "\n").
    four_behind a c.begin.new.out.items c.begin-2.new.out.items d e (codes "pseudo-Boolean proof version 2.0\n") (codes "f") (spaced (number_words (pos c.args.count))) (codes "\n")
    c.in_ok-begin.ensures.ok c.in_ok-begin-2.ensures.ok (c.in_ok-number.ensures.ok ∙ ap (λ z. c.begin-2.new.out.items ++ spaced (number_words z)) number_is) last)
    c.begin-3.ensures.ok
