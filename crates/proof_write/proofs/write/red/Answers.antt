use Rattle.std.proofs.Common.{◌≡◌, ◌++◌, codes, ap, ◌∙◌}
use Rattle.std.specs.List.{flat_map}
use Rattle.std.proofs.lemmas.Result.{on_ok_weaker}
use Rattle.proof_write.specs.Writing.{spaced, pair_words, constraint_words}
use Rattle.proof_write.proofs.WordsAppended.{three_parts}
use Rattle.proof_write.proofs.write.red.Goals as goal

pub returns-clause-ok : goal.returns-clause-ok
returns-clause-ok c =
    let a = c.args.out.now.items in
    let b = c.begin.new.out.items in
    let d = c.constraint.new.out.items in
    let e = c.pairs.new.out.items in
    let names = c.args.names.now in
    let vs = constraint_words names c.args.written.now in
    let ws = flat_map (pair_words names) c.args.witness.now in
    on_ok_weaker c.pairs.result
    (λ (last : e ≡ d ++ spaced (flat_map (pair_words names) c.as_slice.result.now)).
    three_parts a b d e (codes "red") vs ws c.in_ok-begin.ensures.ok c.in_ok-constraint.ensures.ok (last ∙ ap (λ xs. d ++ spaced (flat_map (pair_words names) xs)) c.as_slice.ensures.images))
    c.pairs.ensures.ok
