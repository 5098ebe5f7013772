-- What is chosen is free in the table of what stands, so it is one more, and a conflict takes it.
use Rattle.std.proofs.Common.{List, IfOk, MatchOption, refl, sym, subst, ◌∙◌}
use Rattle.linear.specs.declared.term.Lit.{Lit}
use Rattle.propagate.specs.Chain.{LeadsToConflict}
use Rattle.propagate.specs.Content.{IsEnd}
use Rattle.propagate.specs.Reach.{IsReach, reach_told}
use Rattle.propagate.specs.declared.reach.Reach.TheVariants as reaches
use Rattle.proof_rules.specs.State.{constraints}
use Rattle.search.specs.Conflicts.{LeadsAtLast}
use Rattle.search.specs.Descents.{IfConflict, IsSettled}
use Rattle.proof_log.specs.Log.{Logbook}
use Rattle.search.specs.Decisions.{AreDecisions}
use Rattle.search.proofs.Choices.{values_leave_free}
use Rattle.search.proofs.Extending.{extended, led}
use Rattle.search.proofs.Settling.{settled}
use Rattle.search.proofs.Taking.{chosen}
use Rattle.search.proofs.descent.descend.Goals as goal

pub decide-requires-clause-consistent : goal.decide-requires-clause-consistent
decide-requires-clause-consistent g c =
    (chosen c.decisions.log.state.live c.decisions.decisions.items c.decisions.standing.literals c.values-in-decisions.result.now c.in-Some-choose.first c.args.count
    c.decisions.invariant.3 c.values-in-decisions.ensures.exact c.in-Some-choose.ensures.free c.in-Some-choose.ensures.inside (c.values-in-decisions.ensures.count ∙ c.decisions.invariant.2) c.decisions.invariant.1.consistent).consistent

pub decide-requires-clause-free : goal.decide-requires-clause-free
decide-requires-clause-free g c =
    values_leave_free c.decisions.standing.literals c.values-in-decisions.result.now c.values-in-decisions.ensures.exact (c.in-Some-choose.first.var.0) c.in-Some-choose.ensures.free

-- what the decisions extend to is a conflict
pub end_in_conflict-requires-clause-conflict : goal.end_in_conflict-requires-clause-conflict
end_in_conflict-requires-clause-conflict g c =
    let live = constraints c.args.log.now.state in
    let given : List Lit = c.args.decisions.now.items in
    let reach : IsReach live given (reach_told c.stand.new.standing.literals c.in_ok-extent.extent) =
    subst (λ (xs : List Lit). IsReach live xs (reach_told c.stand.new.standing.literals c.in_ok-extent.extent)) c.as_slice.ensures.value c.in_ok-extent.ensures.reach in
    subst (λ (x : Logbook). LeadsToConflict (constraints x.state) given) (sym c.stand.ensures.same)
    (led live given c.requires.decisions.consistent (subst (λ r. IsReach live given r) (c.is_closed.ensures.conflict c.if-not-is_closed.true c.stand.new.standing.literals) reach))

pub returns-then-not-is_closed-clause-conflict : goal.returns-then-not-is_closed-clause-conflict
returns-then-not-is_closed-clause-conflict g c =
    subst (λ (x : Logbook). IfOk c.end_in_conflict.result (λ end. IfConflict end (LeadsAtLast (constraints x.state) c.end_in_conflict.new.decisions.items))) c.stand.ensures.same
    c.end_in_conflict.ensures.conflict

-- what the decisions extend to is all that stands
pub decisions-init : goal.decisions-init
decisions-init g c =
    let live = c.args.log.now.state.live in
    let given : List Lit = c.args.decisions.now.items in
    let standing : List Lit = c.stand.new.standing.literals in
    let reach : IsReach (constraints c.args.log.now.state) given (reaches.Closed standing) =
    subst (λ extent. IsReach (constraints c.args.log.now.state) given (reach_told standing extent)) (c.is_closed.ensures.closed c.if-not-is_closed.false)
    (subst (λ (xs : List Lit). IsReach (constraints c.args.log.now.state) xs (reach_told standing c.in_ok-extent.extent)) c.as_slice.ensures.value c.in_ok-extent.ensures.reach) in (
      refl,
      subst (λ (x : Logbook). AreDecisions x given) (sym c.stand.ensures.same) c.requires.decisions,
      c.stand.ensures.count ∙ c.in_ok-fit.ensures,
      subst (λ (x : Logbook). IsEnd x.state.live given standing) (sym c.stand.ensures.same) (extended live given standing reach),
    )

pub returns-in-Some-end-clause-conflict : goal.returns-in-Some-end-clause-conflict
returns-in-Some-end-clause-conflict g c =
    let old : Logbook = c.decisions.log in
    let new : List Lit = c.decide.new.decisions.items in
    let same = c.decisions.invariant.0 ∙ c.stand.ensures.same in
    let conflict : LeadsAtLast (constraints old.state) new =
    subst (λ o. MatchOption o (IsEnd old.state.live new c.decide.new.standing.literals) (λ id. LeadsAtLast (constraints old.state) new)) c.in-Some-end.is c.in_ok-end.ensures.end in
    subst (λ (x : Logbook). LeadsAtLast (constraints x.state) new) same conflict

-- where none is free, all variables have a value
pub returns-in_default-choose-clause-settled : goal.returns-in_default-choose-clause-settled
returns-in_default-choose-clause-settled g c =
    let l : Logbook = c.args.log.now in
    let decisions : List Lit = c.decisions.decisions.items in
    let standing : List Lit = c.decisions.standing.literals in
    let end : IsEnd l.state.live decisions standing =
    subst (λ (x : Logbook). IsEnd x.state.live decisions standing) (c.decisions.invariant.0 ∙ c.stand.ensures.same) c.decisions.invariant.3 in
    let decided_here : AreDecisions l decisions = subst (λ (x : Logbook). AreDecisions x decisions) (c.decisions.invariant.0 ∙ c.stand.ensures.same) c.decisions.invariant.1 in
    subst (IsSettled l) (sym c.in_ok-to_literals.ensures)
    (settled l decisions standing c.values-in-decisions.result.now c.args.count c.reveal.ensures.named decided_here end c.values-in-decisions.ensures.exact (c.values-in-decisions.ensures.count ∙ c.decisions.invariant.2) c.requires.count
    (c.in_default-choose.ensures.none refl))
