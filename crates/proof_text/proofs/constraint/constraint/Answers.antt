use Rattle.std.proofs.Common.{ℤ, is_some, sym, subst, FitsSigned, rules}
use Rattle.std.proofs.lemmas.Int.{to_z-of_z}
use Rattle.std.proofs.lemmas.Result.{err_from_is_err_and}
use mir.Syntax.{w128}
use Rattle.linear.specs.declared.constraint.Relation.TheVariants as relations
use Rattle.proof_text.specs.Forms.{closing_of, behind_terms}
use Rattle.proof_text.specs.PartsRead.{IsConstraintRead}
use Rattle.proof_text.proofs.ConstraintsRead.{denied_front, denied_rest, constraint_read, closing_meets_none}
use Rattle.proof_text.proofs.constraint.constraint.Goals as goal

pub returns-in_err-right-clause-denies : goal.returns-in_err-right-clause-denies
returns-in_err-right-clause-denies c =
    let f = c.in_err-right.field-0.0 in
    let whole = c.args.words.front in
    let left = c.terms.new.words.front in
    let p = err_from_is_err_and c.from_residual-in_err-right.result c.from_residual-in_err-right.ensures.1 in
    rw (p.1, p.2)
    (denied_front f (is_some c.args.words.behind) (is_some (closing_of (behind_terms whole))) whole
    (denied_rest f c.args.table.now c.terms.new.table whole left c.in_ok-terms.terms c.in_ok-terms.ensures.read c.in_ok-terms.ensures.end c.in_err-right.ensures.denies))

pub returns-clause-read : goal.returns-clause-read
returns-clause-read c =
    let n = c.in_ok-right.right in
    let fits : FitsSigned w128 n = search rules in
    let left = c.terms.new.words.front in
    let k = c.terms.new.table in
    let ts = c.in_ok-terms.terms in
    subst (λ (x : ℤ). IsConstraintRead c.args.table.now c.args.words.front (record { terms = ts; relation = relations.AtLeast; right = x }) k) (sym (to_z-of_z w128 n fits))
    (constraint_read c.args.table.now k c.args.words.front left ts n c.in_ok-terms.ensures.read c.in_ok-terms.ensures.end c.in_ok-right.ensures.closing c.in_ok-right.ensures.small
    (closing_meets_none k left n c.in_ok-right.ensures.closing))
