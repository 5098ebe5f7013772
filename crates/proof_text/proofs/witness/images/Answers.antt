use Rattle.std.proofs.Common.{◌≡◌, ◌∷◌, [], ◌++◌, map, refl, sym, ap, ◌∙◌, subst, arith}
use Rattle.std.proofs.lemmas.Grind.{common_steps}
use Rattle.std.proofs.lemmas.Result.{err_from_is_err_and}
use Rattle.proof_text.specs.Forms.{are_images, images_of, lefts}
use Rattle.proof_text.specs.PartsRead.{Takes}
use Rattle.proof_text.specs.PartsDenied.{Denies}
use Rattle.proof_text.proofs.PartsInTurn.{one_more, denied_left, all_read}
use Rattle.std.proofs.lemmas.List.{append-nil}
use Rattle.proof_text.proofs.NamesOnLeft.{more_lefts}
use Rattle.proof_text.proofs.witness.images.Goals as goal

pub returns-in_err-pair-clause-denies : goal.returns-in_err-pair-clause-denies
returns-in_err-pair-clause-denies c =
    let l = c.loop-token in
    let f = c.in_err-pair.field-0.0 in
    let p = err_from_is_err_and c.from_residual.result c.from_residual.ensures.1 in
    rw (p.1, p.2)
    (denied_left are_images images_of c.args.table.now c.args.words.now.front l.images.items l.table l.words.front f l.invariant.0
    (subst (λ ws. Denies f (are_images ws) ws) (sym c.in-Some.ensures.word) c.in_err-pair.ensures.denies))

pub loop-token-preserved : goal.loop-token-preserved
loop-token-preserved c =
    let l = c.loop-token in
    let x = c.in_ok-pair.pair in
    let t = c.in-Some.token.text in
    let more : c.push.new.self.items ≡ l.images.items ++ x ∷ [] = grind (arith, common_steps) in
    let named : c.push-in-Some.new.self.items ≡ l.names.items ++ t ∷ [] = grind (arith, common_steps) in
    let whole = c.args.words.now.front in
    let rest = c.pair.new.words.front in (
      one_more are_images images_of c.args.table.now whole l.images.items c.push.new.self.items x l.table c.pair.new.table l.words.front rest l.invariant.0
          (subst (λ ws. Takes are_images images_of l.table ws x c.pair.new.table rest) (sym c.in-Some.ensures.word) c.in_ok-pair.ensures.takes)
          more,
      more_lefts (λ s. s.now) l.names.items c.push-in-Some.new.self.items t (lefts l.words.front) (lefts rest) (lefts whole) named l.invariant.1
          (ap lefts c.in-Some.ensures.word ∙ c.in_ok-pair.ensures.left),
      c.in_ok-pair.ensures.behind ∙ c.in-Some.ensures.behind ∙ l.invariant.2,
    )

pub returns-clause-read : goal.returns-clause-read
returns-clause-read c =
    let l = c.loop-token in
    all_read are_images images_of c.args.table.now c.args.words.now.front l.images.items l.table l.words.front l.invariant.0 c.in_default.ensures.word.0 (λ n. refl)

pub returns-clause-names : goal.returns-clause-names
returns-clause-names c =
    let l = c.loop-token in
    sym (append-nil (map (λ s. s.now) l.names.items)) ∙ ap (λ ws. map (λ s. s.now) l.names.items ++ lefts ws) (sym c.in_default.ensures.word.0) ∙ l.invariant.1
