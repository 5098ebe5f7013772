use Rattle.std.proofs.Common.{◌≡◌, [], refl, ap, subst, sym, ◌∙◌}
use Rattle.std.proofs.lemmas.Bool.{false≢true}
use Rattle.proof_rules.specs.Fault.{IsUnsatFault}
use Rattle.proof_rules.specs.Justified.{IsExhausted}
use Rattle.proof_rules.specs.Shown.{IsShown, absurdity}
use Rattle.proof_rules.specs.State.{constraints}
use Rattle.proof_rules.specs.declared.fault.StepFault.TheVariants as faults
use Rattle.kernel.specs.Held.{Held}
use Rattle.kernel.proofs.Concluded.{none_more}
use Rattle.kernel.proofs.kernel.Kernel.judge_exhausted.Goals as goal

pub returns-then-not-branch-clause-fault : goal.returns-then-not-branch-clause-fault
returns-then-not-branch-clause-fault g c =
    let k : Held = c.args.self.now in
    let empty : k.state.logged ≡ [] = sym (ap (λ (x : Held). x.state.logged) c.self.view_is) ∙ c.if-not-is_empty.ensures.0 refl in
    let never : IsShown (constraints k.state) absurdity → ⊥ =
    λ shown. false≢true (sym c.if-not-branch.true ∙ c.in_ok-shows.ensures.shown.1 (subst (IsShown (constraints k.state)) (sym c.absurd-absurd.ensures) shown)) in
    subst (λ s. IsUnsatFault s faults.LowerNotShown) (sym (none_more c.args.extra.now k.state (sym c.is_some.ensures ∙ c.if-is_some.false))) (empty, never)

pub returns-clause-ok : goal.returns-clause-ok
returns-clause-ok g c =
    let k : Held = c.args.self.now in
    let empty : k.state.logged ≡ [] = sym (ap (λ (x : Held). x.state.logged) c.self.view_is) ∙ c.if-not-is_empty.ensures.0 refl in
    let shown : IsShown (constraints k.state) absurdity = subst (IsShown (constraints k.state)) c.absurd-absurd.ensures (c.in_ok-shows.ensures.shown.0 c.if-not-branch.false) in
    subst IsExhausted (sym (none_more c.args.extra.now k.state (sym c.is_some.ensures ∙ c.if-is_some.false))) (record { unlogged = empty; shown = shown })
