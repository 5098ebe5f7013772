-- What is concluded changes neither why the search may stop nor what is logged; and bounds are concluded only where there is an objective.
use Rattle.std.proofs.Common.{◌≡◌, ℤ, FitsSigned, to_z, of_z, rules, Bool, true, Option, None, Some, [], MatchOption, is_some, not, refl, sym, ap, subst, ◌∙◌}
use Rattle.std.proofs.lemmas.Int.{to_z-of_z}
use mir.Syntax.{w128}
use Rattle.proof_rules.specs.Justified.{IsBest}
use Rattle.proof_steps.specs.declared.conclusion.Conclusion.TheVariants as conclusions
use Rattle.proof_steps.specs.declared.conclusion.Lower.TheVariants as lowers
use Rattle.proof_steps.specs.declared.conclusion.Upper.TheVariants as uppers
use Rattle.proof_log.specs.Log.{IsEntitled, Logbook, with_conclusion}
use Rattle.search.specs.Solving.{BearsOut, IsBestSoFar, IsOpen, IsSolvedByAny}
use Rattle.search.specs.declared.found.Found.TheVariants as founds
use Rattle.search.proofs.Entitling.{asked, nothing_entitled, so_far_entitled, some_logged}
use Rattle.search.proofs.endings.end_stopped.Goals as goal

none_of : {A : Type 0} (o : Option A) (b : Bool) → is_some o ≡ not b → b ≡ true → o ≡ None
none_of None b test is = refl
none_of (Some x) b test is = absurd (cc)

pub returns-in_default-clause-found : goal.returns-in_default-clause-found
returns-in_default-clause-found g c = c.end_solved.ensures.found c.args.limit

pub returns-then-is_none-clause-found : goal.returns-then-is_none-clause-found
returns-then-is_none-clause-found g c =
    let old : Logbook = c.args.log.now in
    let none = none_of c.in_ok-best.field-0 c.is_none.result c.is_none.ensures c.if-is_none.true in
    let empty : old.state.logged ≡ [] = subst (λ o. IsBest old.problem old.state.logged o) none c.in_ok-best.ensures.best in
    subst (λ (l : Logbook). IsOpen c.args.limit l) (sym c.in_ok-conclude.ensures.kept) (c.requires, empty, refl)

pub returns-clause-found : goal.returns-clause-found
returns-clause-found g c =
    let old : Logbook = c.args.log.now in
    let fits : FitsSigned w128 c.in-Some.best = search rules in
    let best : ℤ = to_z w128 (of_z w128 c.in-Some.best) in
    let new : Logbook = with_conclusion (conclusions.Bounds lowers.MinusInf (uppers.At best) None) old in
    let objective = asked old c.in-Some.best c.reveal.ensures.proof (sym c.least_value.ensures.value ∙ c.in-Some.is) in
    let so_far : IsBestSoFar c.args.limit new = (c.requires, (best, sym c.least_value.ensures.value ∙ c.in-Some.is ∙ ap Some (sym (to_z-of_z w128 c.in-Some.best fits)), refl)) in
    subst (λ (l : Logbook). BearsOut c.args.limit l founds.Sat) (sym c.in_ok-conclude-2.ensures.kept)
    (subst (λ o. MatchOption o (IsSolvedByAny new) (λ _. IsBestSoFar c.args.limit new)) (sym objective.1) so_far)

pub conclude-requires : goal.conclude-requires
conclude-requires g c = nothing_entitled c.args.log.now c.reveal.ensures.proof

pub end_solved-requires-clause-logged : goal.end_solved-requires-clause-logged
end_solved-requires-clause-logged g c =
    let l : Logbook = c.args.log.now in some_logged l.problem l.state.logged c.in_ok-best.field-0 c.is_none.result c.is_none.ensures c.if-is_none.false c.in_ok-best.ensures.best

pub conclude-requires-2 : goal.conclude-requires-2
conclude-requires-2 g c =
    let l : Logbook = c.args.log.now in
    let best : ℤ = c.in-Some.best in
    let fits : FitsSigned w128 best = search rules in
    subst (λ z. IsEntitled l.problem l.state (conclusions.Bounds lowers.MinusInf (uppers.At z) None)) (sym (to_z-of_z w128 best fits))
    (so_far_entitled l best c.reveal.ensures.proof (sym c.least_value.ensures.value ∙ c.in-Some.is))
