-- What stays is given and stands on the trail, and the rest has room.
use Rattle.std.proofs.Common.{◌≡◌, ◌∙◌, ℕ, List, ap, arith, length, sym, take}
use Rattle.std.proofs.lemmas.List.{length-take-le}
use Rattle.std.proofs.lemmas.Result.{on_ok_weaker}
use Rattle.linear.specs.declared.term.Lit.{Lit}
use Rattle.watch.proofs.KeptLevels.{kept_given, kept_wider}
use Rattle.watch.proofs.WideEnough.{wide_enough}
use Rattle.watch.proofs.following.part.Goals as goal

pub returns-clause-variables : goal.returns-clause-variables
returns-clause-variables c =
    let b = c.backtrack_to_level.new in
    let agreed = c.agreement-agreed in
    let first = ap (λ (p : List Lit × List ℕ × List ℕ). p.0) c.backtrack_to_level.ensures.levels ∙ agreed.ensures.same in
    on_ok_weaker c.widen.result
    (λ enough. wide_enough b.ledger b.levels b.queue.0 b.queue.1 agreed.result c.literal_count.result c.widen.new.self.variables c.args.given.now agreed.ensures.short first c.reveal.ensures.variables c.literal_count.ensures.each c.widen.ensures.more enough c.backtrack_to_level.ensures.kept)
    c.widen.ensures.ok

pub returns-clause-short : goal.returns-clause-short
returns-clause-short c =
    let agreed = c.agreement-agreed in
    let levels = ap (λ (p : List Lit × List ℕ × List ℕ). length p.0) c.backtrack_to_level.ensures.levels in
    omega (arith, levels, length-take-le agreed.result c.args.levels.now.0 agreed.ensures.few, agreed.ensures.short)

pub returns-clause-first : goal.returns-clause-first
returns-clause-first c =
    let agreed = c.agreement-agreed in
    let first = ap (λ (p : List Lit × List ℕ × List ℕ). p.0) c.backtrack_to_level.ensures.levels in
    let count : length c.backtrack_to_level.new.levels.0 ≡ agreed.result = ap (length {A = Lit}) first ∙ length-take-le agreed.result c.args.levels.now.0 agreed.ensures.few in
    first ∙ agreed.ensures.same ∙ ap (λ (n : ℕ). take n c.args.given.now) (sym count)

pub returns-clause-given : goal.returns-clause-given
returns-clause-given c =
    let b = c.backtrack_to_level.new in
    let e = c.widen.ensures in
    let agreed = c.agreement-agreed in
    let first = ap (λ (p : List Lit × List ℕ × List ℕ). p.0) c.backtrack_to_level.ensures.levels ∙ agreed.ensures.same in
    rw (e.assigned, e.reasons) (kept_given b.ledger b.levels b.queue.0 b.queue.1 agreed.result c.args.given.now c.reveal.ensures.reasons.as_many first c.backtrack_to_level.ensures.kept)

pub returns-clause-kept : goal.returns-clause-kept
returns-clause-kept c =
    let b = c.backtrack_to_level.new in
    let e = c.widen.ensures in
    kept_wider b.ledger c.widen.new.self b.levels b.queue.0 b.queue.1 e.slots e.assigned e.propagated e.reasons c.backtrack_to_level.ensures.kept
