use Rattle.std.proofs.Common.{◌≡◌, List, Option, Bool, Some, inl, inr, length, refl, sym, ap, subst, ◌∙◌}
use Rattle.std.proofs.lemmas.Bool.{false≢true}
use Rattle.std.proofs.lemmas.Result.{err_from_is_err_and}
use Rattle.linear.specs.declared.term.Term.{Term}
use Rattle.linear.specs.Opb.{Opb}
use Rattle.substitution.proofs.Difference.{objective_read}
use Rattle.proof_steps.specs.declared.conclusion.Conclusion.TheVariants as conclusions
use Rattle.proof_rules.specs.declared.fault.StepFault.TheVariants as faults
use Rattle.proof_rules.specs.Claim.{ClaimsUpper}
use Rattle.proof_rules.specs.Fault.{OrMemory, IsBoundsFault, IsUnjustified, IsHintFault, IsLowerFault}
use Rattle.proof_rules.specs.Justified.{EntitlesLower, EntitlesUpper, IsBest}
use Rattle.proof_rules.specs.State.{State}
use Rattle.proof_rules.proofs.ConclusionJudged.{bounds_fault}
use Rattle.proof_rules.proofs.PolFaults.{or_memory}
use Rattle.kernel.specs.Held.{Held, with_extra}
use Rattle.kernel.proofs.Concluded.{behind, upper_claimed, upper_entitled}
use Rattle.kernel.proofs.kernel.Kernel.judge_bounds.Goals as goal

pub returns-in_err-extra-clause-fault : goal.returns-in_err-extra-clause-fault
returns-in_err-extra-clause-fault g c =
    let k : Held = c.args.self.now in
    let objective : List Term = c.in-Some.objective.now in
    let is : k.problem.objective ≡ Some objective = sym (c.in-Some.ensures ∙ ap (λ (x : Held). x.problem.objective) c.self.view_is) in
    let f = c.in_err-extra.field-0.0 in
    let p = err_from_is_err_and c.from_residual.result c.from_residual.ensures.1 in
    rw (p.1, p.2)
    (or_memory f (IsHintFault k.problem k.state c.args.hint.now f) (IsUnjustified k.problem k.state (conclusions.Bounds c.args.lower c.args.upper c.args.hint.now) f)
    (λ h. bounds_fault k.problem k.state objective c.args.lower c.args.upper c.args.hint.now f is (inl h))
    c.in_err-extra.ensures.fault)

pub judge_lower-requires : goal.judge_lower-requires
judge_lower-requires g c =
    let p : Opb = c.self.inside.source.now in
    objective_read (length p.names) p.objective c.in-Some.objective.now c.in-Some.objective.now c.in-Some.ensures refl c.self.invariant.kept.within.objective

pub returns-in_err-judge_lower-clause-fault : goal.returns-in_err-judge_lower-clause-fault
returns-in_err-judge_lower-clause-fault g c =
    let k : Held = c.args.self.now in
    let objective : List Term = c.in-Some.objective.now in
    let is : k.problem.objective ≡ Some objective = sym (c.in-Some.ensures ∙ ap (λ (x : Held). x.problem.objective) c.self.view_is) in
    let extra : Option (List Bool) = c.in_ok-extra.extra in
    let t : State = with_extra extra k.state in
    let f = c.in_err-judge_lower.field-0.0 in
    let fault : OrMemory f (IsLowerFault t objective c.args.lower f) =
    subst (λ (x : Held). OrMemory f (IsLowerFault (with_extra extra x.state) objective c.args.lower f)) c.in_ok-extra.ensures.same c.in_err-judge_lower.ensures.fault in
    let p = err_from_is_err_and c.from_residual-in_err-judge_lower.result c.from_residual-in_err-judge_lower.ensures.1 in
    rw (p.1, p.2)
    (or_memory f (IsLowerFault t objective c.args.lower f) (IsUnjustified k.problem k.state (conclusions.Bounds c.args.lower c.args.upper c.args.hint.now) f)
    (λ h. bounds_fault k.problem k.state objective c.args.lower c.args.upper c.args.hint.now f is
    (inr (behind k.problem k.state t c.args.hint.now (λ u. IsBoundsFault k.problem u objective c.args.lower c.args.upper f) c.in_ok-extra.ensures.takes (inl h))))
    fault)

pub returns-then-not-is_reached-clause-fault : goal.returns-then-not-is_reached-clause-fault
returns-then-not-is_reached-clause-fault g c =
    let k : Held = c.args.self.now in
    let objective : List Term = c.in-Some.objective.now in
    let problem = ap (λ (x : Held). x.problem) c.self.view_is in
    let is : k.problem.objective ≡ Some objective = sym (c.in-Some.ensures ∙ ap (λ (q : Opb). q.objective) problem) in
    let extra : Option (List Bool) = c.in_ok-extra.extra in
    let t : State = with_extra extra k.state in
    let same = c.in_ok-judge_lower.ensures.same ∙ c.in_ok-extra.ensures.same in
    let low : EntitlesLower t objective c.args.lower = subst (λ (x : Held). EntitlesLower (with_extra extra x.state) objective c.args.lower) c.in_ok-extra.ensures.same c.in_ok-judge_lower.ensures.ok in
    let best : IsBest k.problem t.logged c.in_ok-best.best = subst (λ (x : Held). IsBest x.problem (with_extra extra x.state).logged c.in_ok-best.best) same c.in_ok-best.ensures.best in
    let never : EntitlesUpper k.problem t c.args.upper → ⊥ =
    λ up. false≢true (c.if-not-is_reached.ensures.1 (subst (λ q. ClaimsUpper q c.args.upper c.in_ok-best.best) (sym problem) (upper_claimed k.problem t c.args.upper c.in_ok-best.best best up))) in
    (objective, is, inr (behind k.problem k.state t c.args.hint.now (λ u. IsBoundsFault k.problem u objective c.args.lower c.args.upper faults.UpperNotLogged) c.in_ok-extra.ensures.takes (inr (low, never))))

pub returns-clause-justified : goal.returns-clause-justified
returns-clause-justified g c =
    let k : Held = c.args.self.now in
    let objective : List Term = c.in-Some.objective.now in
    let problem = ap (λ (x : Held). x.problem) c.self.view_is in
    let is : k.problem.objective ≡ Some objective = sym (c.in-Some.ensures ∙ ap (λ (q : Opb). q.objective) problem) in
    let extra : Option (List Bool) = c.in_ok-extra.extra in
    let t : State = with_extra extra k.state in
    let same = c.in_ok-judge_lower.ensures.same ∙ c.in_ok-extra.ensures.same in
    let low : EntitlesLower t objective c.args.lower = subst (λ (x : Held). EntitlesLower (with_extra extra x.state) objective c.args.lower) c.in_ok-extra.ensures.same c.in_ok-judge_lower.ensures.ok in
    let best : IsBest k.problem t.logged c.in_ok-best.best = subst (λ (x : Held). IsBest x.problem (with_extra extra x.state).logged c.in_ok-best.best) same c.in_ok-best.ensures.best in
    let claims : ClaimsUpper k.problem c.args.upper c.in_ok-best.best = subst (λ q. ClaimsUpper q c.args.upper c.in_ok-best.best) problem (c.if-not-is_reached.ensures.0 refl) in
    (t, c.in_ok-extra.ensures.takes, (objective, is, low, upper_entitled k.problem t c.args.upper c.in_ok-best.best best claims), best)
