use Rattle.std.proofs.Common.{◌≡◌, ◌++◌, codes}
use Rattle.std.proofs.lemmas.Result.{on_ok_weaker}
use Rattle.proof_write.specs.Writing.{spaced, conclusion_words}
use Rattle.proof_write.proofs.WordsAppended.{four_texts}
use Rattle.proof_write.proofs.write.end_lines.Goals as goal

pub returns-clause-ok : goal.returns-clause-ok
returns-clause-ok c =
    let a = c.args.out.now.items in
    let d = c.conclusion_words.new.out.items in
    let e = c.begin-3.new.out.items in
    on_ok_weaker c.begin-3.result
    (λ (last : e ≡ d ++ codes "\nend pseudo-Boolean proof\n").
    four_texts a c.begin.new.out.items c.begin-2.new.out.items d e (codes "output NONE\n") (codes "conclusion") (spaced (conclusion_words c.args.names.now c.args.conclusion.now)) (codes "\nend pseudo-Boolean proof\n")
    c.in_ok-begin.ensures.ok c.in_ok-begin-2.ensures.ok c.in_ok-conclusion_words.ensures.ok last)
    c.begin-3.ensures.ok
