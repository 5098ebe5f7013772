use Rattle.std.proofs.Common.{arith, refl, sym, subst, ◌∙◌, List}
use Rattle.std.proofs.lemmas.Bool.{false≢true}
use Rattle.linear.specs.declared.term.Lit.{Lit}
use Rattle.propagate.specs.Walk.{CanForce}
use Rattle.propagate.specs.Passes.{literal_of}
use Rattle.propagate.proofs.Occurrences.{TermForces, forced_at, nothing_forced}
use Rattle.analysis.specs.Biting.{literals_up_to}
use Rattle.analysis.proofs.Forcing.{none_more}
use Rattle.analysis.proofs.biting.forces.Goals as goal

pub returns-then-is_forced : goal.returns-then-is_forced
returns-then-is_forced c =
    let assigned : List Lit = literals_up_to c.args.level c.args.trail.now.entries in
    let t = c.term-term.result in
    let can : CanForce assigned c.args.slack t.coef (literal_of t) = subst (CanForce assigned c.args.slack t.coef) c.literal.ensures (c.is_forced.ensures.0 c.if-is_forced.true) in (
      λ _. (literal_of t, forced_at assigned c.args.constraint.now c.args.slack c.loop-place.place t c.len-place-end.ensures.normal.rises (omega arith) c.term-term.ensures.value c.requires can),
      λ _. refl,
    )

pub loop-place-preserved : goal.loop-place-preserved
loop-place-preserved c =
    let assigned : List Lit = literals_up_to c.args.level c.args.trail.now.entries in
    let t = c.term-term.result in
    none_more (TermForces assigned c.args.slack) c.args.constraint.now.terms c.loop-place.place t (omega arith) c.term-term.ensures.value c.loop-place.invariant
    (λ can. false≢true (sym c.if-is_forced.false ∙ c.is_forced.ensures.1 (subst (CanForce assigned c.args.slack t.coef) (sym c.literal.ensures) can)))

pub returns : goal.returns
returns c = (
  λ e. absurd (false≢true e),
  λ f. absurd (nothing_forced (literals_up_to c.args.level c.args.trail.now.entries) c.args.constraint.now c.args.slack c.len-place-end.ensures.normal.rises c.requires (λ k d h. c.loop-place.invariant k d (omega arith)) f.0 f.1),
)
