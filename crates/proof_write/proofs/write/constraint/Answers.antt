use Rattle.std.proofs.Common.{◌≡◌, [], ◌∷◌, ◌++◌, codes, ap, ◌∙◌, FitsSigned, rules}
use Rattle.std.specs.List.{flat_map}
use Rattle.std.proofs.lemmas.Int.{to_z-of_z}
use Rattle.std.proofs.lemmas.Result.{on_ok_weaker}
use mir.Syntax.{w128}
use Rattle.proof_write.specs.Writing.{spaced, term_words, number_words}
use Rattle.proof_write.proofs.WordsAppended.{four_parts}
use Rattle.proof_write.proofs.write.constraint.Goals as goal

pub returns-clause-ok : goal.returns-clause-ok
returns-clause-ok c =
    let a = c.args.out.now.items in
    let x = c.args.constraint.now in
    let t = c.terms.new.out.items in
    let g = c.word.new.out.items in
    let n = c.number.new.out.items in
    let e = c.word-2.new.out.items in
    let fits : FitsSigned w128 x.right = search rules in
    let ts = flat_map (term_words c.args.names.now) x.terms in
    let first : t ≡ a ++ spaced ts = c.in_ok-terms.ensures.ok ∙ ap (λ xs. a ++ spaced (flat_map (term_words c.args.names.now) xs)) c.as_slice.ensures in
    let third : n ≡ g ++ spaced (number_words x.right) = c.in_ok-number.ensures.ok ∙ ap (λ v. g ++ spaced (number_words v)) (to_z-of_z w128 x.right fits) in
    on_ok_weaker c.word-2.result
    (λ (last : e ≡ n ++ spaced (codes ";" ∷ [])). four_parts a t g n e ts (codes ">=" ∷ []) (number_words x.right) (codes ";" ∷ []) first c.in_ok-word.ensures.ok third last)
    c.word-2.ensures.ok
