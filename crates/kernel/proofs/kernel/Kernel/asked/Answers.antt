use Rattle.std.proofs.Common.{IfSome, sym, ap, subst, ◌∙◌}
use Rattle.proof_rules.specs.State.{Block}
use Rattle.kernel.specs.Held.{Held}
use Rattle.kernel.specs.Place.{IsAskedIn, IsNameWithin}
use Rattle.kernel.proofs.OpenBlocks.{goal_open, no_goal}
use Rattle.kernel.proofs.kernel.Kernel.asked.Goals as goal

pub returns-in-Goal-clause-fault : goal.returns-in-Goal-clause-fault
returns-in-Goal-clause-fault g c =
    let k : Block = c.in-Some.block in
    let some = sym (ap (λ (x : Held). x.state.block) c.self.view_is) ∙ c.in-Some.is in
    (k, some, goal_open k c.place.result c.in-Goal.field-0 c.place.ensures c.in-Goal.is)

pub returns-in-Some-2 : goal.returns-in-Some-2
returns-in-Some-2 g c =
    let h : Held = c.args.self.now in
    let k : Block = c.in-Some.block in
    let some = sym (ap (λ (x : Held). x.state.block) c.self.view_is) ∙ c.in-Some.is in
    let none = no_goal k c.place.result c.place.ensures c.in_default-place.not-Goal in
    record {
      asked = (k, (some, none), subst (IsAskedIn h.problem h.state k c.args.name) c.in-Some-2.is c.in_ok-goal.ensures.asked);
      within = subst (λ o. IfSome o (λ _. IsNameWithin h.state.next c.args.name)) c.in-Some-2.is c.in_ok-goal.ensures.within;
      fault = tt;
    }

pub returns-in-None : goal.returns-in-None
returns-in-None g c =
    let h : Held = c.args.self.now in
    let k : Block = c.in-Some.block in
    let some = sym (ap (λ (x : Held). x.state.block) c.self.view_is) ∙ c.in-Some.is in
    let none = no_goal k c.place.result c.place.ensures c.in_default-place.not-Goal in
    record {
      asked = tt;
      within = tt;
      fault = (k, some, (none, subst (IsAskedIn h.problem h.state k c.args.name) c.in-None.is c.in_ok-goal.ensures.asked));
    }
