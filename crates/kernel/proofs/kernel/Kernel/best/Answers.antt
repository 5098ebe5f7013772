use Rattle.std.proofs.Common.{List, Bool, Option, Some, refl, sym, subst}
use Rattle.std.proofs.lemmas.Bool.{false≢true}
use Rattle.proof_rules.specs.Justified.{IsBest}
use Rattle.kernel.specs.Held.{Held, state_with, with_extra}
use Rattle.solutions.proofs.Best.{best_stays, best_changes}
use Rattle.kernel.proofs.kernel.Kernel.best.Goals as goal

pub returns-then-is_better-clause-best : goal.returns-then-is_better-clause-best
returns-then-is_better-clause-best g c =
    let k = c.self.inside in
    let last : List Bool = c.in-Some.last in
    let best = best_changes k.source.now k.log.logged last c.in_ok-logged.logged c.in_ok-logged.ensures.best (c.if-is_better.ensures.0 refl) in
    subst (λ (x : Held). IsBest x.problem (with_extra c.args.extra x.state).logged (Some last)) c.self.view_is
    (subst (λ e. IsBest k.source.now (with_extra e (state_with k.database k.log k.block)).logged (Some last)) (sym c.in-Some.is) best)

pub returns-clause-best : goal.returns-clause-best
returns-clause-best g c =
    let k = c.self.inside in
    let last : List Bool = c.in-Some.last in
    let logged : Option (List Bool) = c.in_ok-logged.logged in
    let best = best_stays k.source.now k.log.logged last logged c.in_ok-logged.ensures.best (λ a. false≢true (c.if-is_better.ensures.1 a)) in
    subst (λ (x : Held). IsBest x.problem (with_extra c.args.extra x.state).logged logged) c.self.view_is
    (subst (λ e. IsBest k.source.now (with_extra e (state_with k.database k.log k.block)).logged logged) (sym c.in-Some.is) best)
