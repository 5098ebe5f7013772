-- A free literal is forced, and not free any more.
use Rattle.std.proofs.Common.{◌≡◌, false, sym, subst, ◌∙◌}
use Rattle.std.proofs.lemmas.Bool.{false≢true}
use Rattle.linear.specs.declared.term.Lit.{Lit}
use Rattle.linear.specs.Literal.{opposite}
use Rattle.propagate.specs.Literals.{lists}
use Rattle.propagate.specs.Passes.{literal_of}
use Rattle.propagate.specs.Trails.{IsFree}
use Rattle.trail.specs.Trails.{on_trail}
use Rattle.ledger.proofs.ForcedLiterals.{forced_none, forced_one, free_no_more, pushed_on}
use Rattle.ledger.proofs.forcing.force_term.Goals as goal

pub returns-then-not-leaves_free-clause-forced : goal.returns-then-not-leaves_free-clause-forced
returns-then-not-leaves_free-clause-forced c = forced_none c.args.constraint.now c.args.place (on_trail c.args.trail.now) c.args.reasons.now.items

pub returns-then-not-leaves_free-clause-done : goal.returns-then-not-leaves_free-clause-done
returns-then-not-leaves_free-clause-done c free =
    let here = subst (IsFree (on_trail c.args.trail.now)) (sym c.literal-literal.ensures) free in
    false≢true (sym c.if-not-leaves_free.true ∙ c.leaves_free.ensures.1 here)

pub returns-clause-forced : goal.returns-clause-forced
returns-clause-forced c =
    let t = c.args.trail.now in
    let free = subst (λ (l : Lit). (lists (on_trail t) l ≡ false) × (lists (on_trail t) (opposite l) ≡ false)) c.literal-literal.ensures (c.leaves_free.ensures.0 c.if-not-leaves_free.false) in
    forced_one c.args.constraint.now c.args.place (on_trail t) (on_trail c.push.new.self) c.args.reasons.now.items c.push_reserved.new.self.items (literal_of c.args.term) (c.requires.forces (c.requires.above, free.0, free.1))
    (pushed_on t c.push.new.self (literal_of c.args.term) c.literal-literal.result c.push.ensures.value c.literal-literal.ensures) c.push_reserved.ensures.items

pub returns-clause-done : goal.returns-clause-done
returns-clause-done c =
    let t = c.args.trail.now in
    free_no_more (on_trail t) (on_trail c.push.new.self) (literal_of c.args.term) (pushed_on t c.push.new.self (literal_of c.args.term) c.literal-literal.result c.push.ensures.value c.literal-literal.ensures)
