-- What stands below the literal is left out of its trace.
use Rattle.std.proofs.Common.{◌++◌, [], ◌∷◌}
use Rattle.ledger.specs.Ledgers.{shown}
use Rattle.watch.proofs.NamedChains.{falsified_place_below, last_named, places_below}
use Rattle.watch.proofs.ToldTail.{found_of_last}
use Rattle.watch.proofs.Underlying.{free_consistent, underlies_one}
use Rattle.watch.proofs.continuing.decide_one.Goals as goal

pub trace_of-requires-clause-steps : goal.trace_of-requires-clause-steps
trace_of-requires-clause-steps c =
    let s = c.args.ledger.now in
    places_below s.slots c.args.ids.now (s.assigned ++ c.args.literal ∷ []) c.in_ok-chain.chain c.requires.ids c.in_ok-chain.ensures.value

pub trace_of-requires-clause-falsified : goal.trace_of-requires-clause-falsified
trace_of-requires-clause-falsified c =
    let s = c.args.ledger.now in
    falsified_place_below s.slots c.args.ids.now (s.assigned ++ c.args.literal ∷ []) c.in_ok-chain.chain c.requires.ids c.in_ok-chain.ensures.value

pub returns-clause-traced : goal.returns-clause-traced
returns-clause-traced c places before named u =
    let s = c.args.ledger.now in
    let l = c.args.literal in
    let chain = c.in_ok-chain.chain in (
      free_consistent s before l c.reveal.ensures.consistent c.requires.opposite_unset u,
      last_named s.slots places c.args.ids.now before l chain c.in_ok-trace_of.field-0 named
          (found_of_last (shown s.slots) before s.assigned s.reasons l chain c.reveal.ensures.reasons u.others u.all c.reveal.ensures.consistent c.in_ok-chain.ensures.value)
          c.in_ok-trace_of.ensures,
    )

pub returns-clause-given : goal.returns-clause-given
returns-clause-given c before u =
    underlies_one c.args.ledger.now c.chain_on.new.ledger before c.args.literal c.reveal.ensures.reasons.as_many c.reveal-2.ensures.reasons.as_many c.in_ok-chain.ensures.decided u
