use Rattle.std.proofs.Common.{◌≡◌, ◌∙◌, ◌<◌, All, false, get_or, length, ap, subst, sym}
use Rattle.linear.specs.declared.constraint.Signed.{Signed}
use Rattle.linear.specs.declared.term.Lit.{Lit}
use Rattle.linear.specs.Opb.{Opb}
use Rattle.substitution.specs.Images.{Images}
use Rattle.proof_steps.specs.declared.step.Step.{Step}
use Rattle.proof_steps.specs.declared.step.Step.TheVariants.{Red}
use Rattle.proof_text.specs.Writable.{IsConstraintWritable, IsPairWritable, IsStepWritable}
use Rattle.proof_log.specs.Log.{Logbook}
use Rattle.search.specs.Presolving.{Tries, fixing, is_true, made_true}
use Rattle.search.proofs.Trying.{tries_more}
use Rattle.search.proofs.Written.{fixing_writable}
use Rattle.search.proofs.presolving.fix.Goals as goal

-- the step of a literal of the file can be written
pub attempt-requires-clause-writable : goal.attempt-requires-clause-writable
attempt-requires-clause-writable g c =
    let ls = c.args.literals.now in
    let i = c.loop-literal.literal-index in
    let d : Lit = record { var = record { 0 = 0 }; negated = false } in
    let l : Logbook = c.loop-literal.log in
    let x : Lit = get_or ls i d in
    let count = length l.problem.names in
    let named : x.var.0 < count = subst (λ (p : Opb). x.var.0 < length p.names) (sym c.loop-literal.invariant.0) (c.requires i d c.loop-literal-test.true) in
    let written : IsStepWritable count (fixing x) = fixing_writable count x named in
    let constraint : c.in_ok-is_true.field-0 ≡ is_true x = c.in_ok-is_true.ensures {u = tt} in
    let witness : c.in_ok-made_true.field-0 ≡ made_true x = c.in_ok-made_true.ensures {u = tt} in
    (subst (IsConstraintWritable count) (sym constraint) written.0, subst (All (IsPairWritable count)) (sym witness) written.1)

pub loop-literal-preserved : goal.loop-literal-preserved
loop-literal-preserved g c =
    let ls = c.args.literals.now in
    let i = c.loop-literal.literal-index in
    let d : Lit = record { var = record { 0 = 0 }; negated = false } in
    let x : Lit = get_or ls i d in
    let a = c.in_ok-is_true.field-0 in
    let b = c.in_ok-made_true.field-0 in
    let constraint : a ≡ is_true x = c.in_ok-is_true.ensures {u = tt} in
    let witness : b ≡ made_true x = c.in_ok-made_true.ensures {u = tt} in
    let step : Red a b ≡ fixing x = ap (λ (s : Signed). Red s b) constraint ∙ ap (λ (m : Images). Red (is_true x) m) witness in
    let tried = subst (λ (s : Step). Tries s c.loop-literal.log c.attempt.new.log) step c.in_ok-attempt.ensures.tried in
    (c.in_ok-attempt.ensures.problem ∙ c.loop-literal.invariant.0, tries_more fixing ls i d c.args.log.now c.loop-literal.log c.attempt.new.log c.loop-literal-test.true c.loop-literal.invariant.1 tried)
