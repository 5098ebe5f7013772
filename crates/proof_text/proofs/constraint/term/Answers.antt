use Rattle.std.proofs.Common.{ℤ, ◌∷◌, sym, subst, FitsSigned, rules}
use Rattle.std.proofs.lemmas.Int.{to_z-of_z}
use Rattle.std.proofs.lemmas.Result.{err_from_is_err_and}
use mir.Syntax.{w128}
use Rattle.proof_text.specs.Forms.{behind_terms, terms_of}
use Rattle.proof_text.specs.PartsRead.{Takes}
use Rattle.proof_text.proofs.ConstraintsRead.{denied_term, next_term}
use Rattle.proof_text.proofs.constraint.term.Goals as goal

pub returns-in_err-lit-clause-denies : goal.returns-in_err-lit-clause-denies
returns-in_err-lit-clause-denies c a e =
    let f = c.in_err-lit.field-0.0 in
    let p = err_from_is_err_and c.from_residual.result c.from_residual.ensures.1 in
    rw (p.1, p.2) (denied_term f a c.args.words.now.front e.integer c.in_err-lit.ensures.denies)

pub returns-clause-takes : goal.returns-clause-takes
returns-clause-takes c a e =
    let k = c.args.table.now in
    let new = c.next_lit.new.table in
    let left = c.args.words.now.front in
    let rest = c.next_lit.new.words.front in
    let n = c.args.coef in
    let l = c.in_ok-lit.lit in
    let f = c.in_ok-lit.ensures.next in
    let fits : FitsSigned w128 n = search rules in
    subst (λ (x : ℤ). Takes behind_terms terms_of k (a ∷ left) (record { coef = x; var = l.var; negated = l.negated }) new rest) (sym (to_z-of_z w128 n fits))
    (next_term k new a f.word left rest n l f.first e.integer e.value e.small f.passed.literal f.passed.known f.passed.value)
