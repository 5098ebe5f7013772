use Rattle.std.proofs.Common.{rules, ◌≡◌, ◌∷◌, [], ◌++◌, is_some, sym, subst, ◌∙◌, arith, FitsSigned, to_z, of_z}
use Rattle.std.proofs.lemmas.Int.{to_z-of_z}
use mir.Syntax.{w128}
use Rattle.std.proofs.lemmas.Grind.{common_steps}
use Rattle.std.proofs.lemmas.Result.{err_from_is_err_and}
use Rattle.proof_text.specs.Forms.{behind_terms, terms_of, closing_of}
use Rattle.proof_text.specs.Next.{IsFirst, IsNumber}
use Rattle.proof_text.specs.PartsRead.{Takes}
use Rattle.proof_text.specs.PartsDenied.{Denies}
use Rattle.proof_text.proofs.PartsInTurn.{one_more}
use Rattle.proof_text.proofs.ConstraintsRead.{denied_terms}
use Rattle.proof_text.proofs.NextWord.{same_number}
use Rattle.proof_text.proofs.constraint.terms.Goals as goal

pub returns-in_err-coef-clause-denies : goal.returns-in_err-coef-clause-denies
returns-in_err-coef-clause-denies c =
    let l = c.loop-terms in
    let f = c.in_err-coef.field-0.0 in
    let p = err_from_is_err_and c.from_residual.result c.from_residual.ensures.1 in
    rw (p.1, p.2)
    (denied_terms f c.args.table.now l.table c.args.words.now.front l.words.front l.terms.items l.invariant.0
    (c.in_err-coef.ensures.denies (is_some (closing_of (behind_terms l.words.front)))))

pub returns-in_err-term-clause-denies : goal.returns-in_err-term-clause-denies
returns-in_err-term-clause-denies c =
    let l = c.loop-terms in
    let f = c.in_err-term.field-0.0 in
    let p = err_from_is_err_and c.from_residual-in_err-term.result c.from_residual-in_err-term.ensures.1 in
    let n = c.in-Some.coef in
    let fits : FitsSigned w128 n = search rules in
    let first : IsFirst (IsNumber n) l.words.front c.next_number.new.words.front = rw c.in-Some.is at c.in_ok-coef.ensures.next in
    rw (p.1, p.2)
    (denied_terms f c.args.table.now l.table c.args.words.now.front l.words.front l.terms.items l.invariant.0
    (subst (λ ws. Denies f (is_some (closing_of (behind_terms ws))) ws) (sym first.first) (c.in_err-term.ensures.denies first.word (same_number n (to_z w128 (of_z w128 n)) first.word (to_z-of_z w128 n fits) first.passed))))

pub loop-terms-preserved : goal.loop-terms-preserved
loop-terms-preserved c =
    let l = c.loop-terms in
    let x = c.in_ok-term.term in
    let more : c.push.new.self.items ≡ l.terms.items ++ x ∷ [] = grind (arith, common_steps) in
    let n = c.in-Some.coef in
    let fits : FitsSigned w128 n = search rules in
    let first : IsFirst (IsNumber n) l.words.front c.next_number.new.words.front = rw c.in-Some.is at c.in_ok-coef.ensures.next in
    let rest = c.term.new.words.front in (
      one_more behind_terms terms_of c.args.table.now c.args.words.now.front l.terms.items c.push.new.self.items x l.table c.term.new.table l.words.front rest l.invariant.0
          (subst (λ ws. Takes behind_terms terms_of l.table ws x c.term.new.table rest) (sym first.first) (c.in_ok-term.ensures.takes first.word (same_number n (to_z w128 (of_z w128 n)) first.word (to_z-of_z w128 n fits) first.passed)))
          more,
      c.in_ok-term.ensures.behind ∙ c.in_ok-coef.ensures.behind ∙ l.invariant.1,
    )
