-- A conflict with no decision open shows every bound; and what is best where nothing was improved tells whether something is logged.
use Rattle.std.proofs.Common.{ℤ, FitsSigned, rules, true, false, None, refl, sym, subst, ◌∙◌}
use Rattle.std.proofs.lemmas.Int.{to_z-of_z}
use mir.Syntax.{w128}
use Rattle.proof_steps.specs.declared.conclusion.Conclusion.TheVariants.{Bounds}
use Rattle.proof_steps.specs.declared.conclusion.Lower.TheVariants as lowers
use Rattle.proof_steps.specs.declared.conclusion.Upper.TheVariants as uppers
use Rattle.proof_log.specs.Log.{IsEntitled, Logbook}
use Rattle.search.proofs.Ending.{unsatisfiable}
use Rattle.search.proofs.Entitling.{none_logged, optimum_entitled, some_logged}
use Rattle.search.proofs.endings.end_exhausted.Goals as goal

pub conclude-requires : goal.conclude-requires
conclude-requires g c =
    let l : Logbook = c.args.log.now in
    let best : ℤ = c.in-Some.best in
    let fits : FitsSigned w128 best = search rules in
    subst (λ z. IsEntitled l.problem l.state (Bounds (lowers.At z) (uppers.At z) None)) (sym (to_z-of_z w128 best fits))
    (optimum_entitled l best c.reveal.ensures.proof c.reveal.ensures.within (sym c.least_value.ensures.value ∙ c.in-Some.is) c.requires)

pub end_solved-requires-clause-logged : goal.end_solved-requires-clause-logged
end_solved-requires-clause-logged g c =
    let l : Logbook = c.args.log.now in some_logged l.problem l.state.logged c.in_ok-best.field-0 false (sym c.is_some.ensures ∙ c.if-is_some.true) refl c.in_ok-best.ensures.best

pub conclude-requires-2 : goal.conclude-requires-2
conclude-requires-2 g c =
    let l : Logbook = c.args.log.now in
    unsatisfiable l.problem l.state c.reveal.ensures.proof.entitled.1.0
    (none_logged l.problem l.state.logged c.in_ok-best.field-0 true (sym c.is_some.ensures ∙ c.if-is_some.false) refl c.in_ok-best.ensures.best) c.requires
