-- What was there is quiet again, and what came since waits.
use Rattle.std.proofs.Common.{List, Option, [], ◌∷◌, ap, length, refl, subst, sym, arith}
use Rattle.linear.specs.declared.term.Lit.{Lit}
use Rattle.normal_form.specs.Normal.{NormalConstraint}
use Rattle.ledger.specs.Ledgers.{shown}
use Rattle.watch.specs.Looking.{AreLookedAt}
use Rattle.watch.specs.Rests.{IsRest}
use Rattle.watch.proofs.Resting.{rest_back}
use Rattle.watch.proofs.Settling.{looked_late}
use Rattle.watch.proofs.rest.backtrack_to_rest.Goals as goal

pub returns-clause-looked_at : goal.returns-clause-looked_at
returns-clause-looked_at c =
    let old = c.args.ledger.now in
    let rest = c.args.rest in
    let t = c.backtrack.ensures in
    let waiting = c.queue_from.new.queue.0 in
    subst (λ (xs : List Lit). AreLookedAt (shown old.slots) xs waiting) (sym t.propagated)
    (looked_late old.slots old.propagated (rest.height ∷ []) (rest.count ∷ []) 0 rest.height waiting refl
    (λ k since low. c.queue_from.ensures.queued k since (omega (arith, low, ap (length {A = Option NormalConstraint}) t.slots))) c.requires.rest)

pub returns-clause-rest : goal.returns-clause-rest
returns-clause-rest c =
    let old = c.args.ledger.now in
    let rest = c.args.rest in
    subst (λ (xs : List Lit). IsRest (shown old.slots) xs rest) (sym c.backtrack.ensures.propagated) (rest_back (shown old.slots) old.propagated rest rest.height (omega arith) c.requires.rest)
