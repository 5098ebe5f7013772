-- What the given literals force stands on the trail, and can be left out.
use Rattle.std.proofs.Common.{◌∙◌, ℕ, IfOk, List, Option, subst}
use Rattle.std.proofs.lemmas.Result.{IfOk-weaker}
use Rattle.linear.specs.declared.term.Lit.{Lit}
use Rattle.normal_form.specs.Normal.{NormalConstraint}
use Rattle.propagate.specs.Content.{AreDecided, AreTaken}
use Rattle.ledger.specs.Ledgers.{shown}
use Rattle.watch.specs.declared.assumed.Assumed.TheVariants as outcomes
use Rattle.watch.specs.Keeping.{IsAssumed}
use Rattle.watch.specs.Named.{AreNamed, content_at}
use Rattle.watch.specs.Steps.{Underlies}
use Rattle.watch.proofs.KeptLevels.{kept_wider}
use Rattle.watch.proofs.continuing.traces_of_each.Goals as goal

pub returns-in_err-widen-clause-kept : goal.returns-in_err-widen-clause-kept
returns-in_err-widen-clause-kept c =
    let e = c.widen.ensures in
    kept_wider c.args.ledger.now c.widen.new.self c.args.levels.now c.args.queue.now.0 c.args.queue.now.1 e.slots e.assigned e.propagated e.reasons c.requires.kept

pub follow-requires : goal.follow-requires
follow-requires c =
    let e = c.widen.ensures in
    record {
      kept = kept_wider c.args.ledger.now c.widen.new.self c.args.levels.now c.args.queue.now.0 c.args.queue.now.1 e.slots e.assigned e.propagated e.reasons c.requires.kept;
    }

pub returns-then-not-is_whole-clause-taken : goal.returns-then-not-is_whole-clause-taken
returns-then-not-is_whole-clause-taken c =
    IfOk-weaker c.decide_anew.result (λ v. (more : List Lit) → AreTaken c.args.first more v.items) (λ v. AreTaken c.args.first c.args.more.now v.items) (λ v h. h c.args.more.now) c.decide_anew.ensures.taken

pub returns-clause-decided : goal.returns-clause-decided
returns-clause-decided c =
    let before = c.args.before.now in
    let ids = c.args.ids.now in
    let f = c.in_ok-assumed.ensures in
    let s = c.follow.new.ledger in
    let same = f.slots ∙ c.widen.ensures.slots in
    let whole : IsAssumed (shown c.widen.new.self.slots) before s.assigned outcomes.Whole = subst (IsAssumed (shown c.widen.new.self.slots) before s.assigned) (c.is_whole.ensures.0 c.if-not-is_whole.false) f.end in
    let under : Underlies before s = record { all = whole.0; others = f.given } in
    subst (λ (os : List (Option NormalConstraint)). IfOk c.decide_all.result (λ v. (places : List (ℕ × ℕ)) → AreNamed places ids os → AreDecided (content_at os places) before v.items)) same
    (IfOk-weaker c.decide_all.result (λ v. (places : List (ℕ × ℕ)) (first : List Lit) → AreNamed places ids s.slots → Underlies first s → AreDecided (content_at s.slots places) first v.items)
    (λ v. (places : List (ℕ × ℕ)) → AreNamed places ids s.slots → AreDecided (content_at s.slots places) before v.items) (λ v h places named. h places before named under) c.decide_all.ensures.decided)
