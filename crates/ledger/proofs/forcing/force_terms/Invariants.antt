-- The terms so far are passed.
use Rattle.std.proofs.Common.{◌≡◌, ◌+◌, length, vec_capacity}
use Rattle.ledger.specs.Forcing.{IsForcedOn}
use Rattle.ledger.specs.Ledgers.{open_sum}
use Rattle.ledger.specs.Orders.{ArePassed}
use Rattle.trail.specs.Trails.{on_trail}
use Rattle.ledger.proofs.forcing.force_terms.Given as goal

abbrev pub invariant-loop-index : goal.invariant-loop-index
invariant-loop-index l = record {
  propagated : l.trail.0 ≡ l.initial.trail.0;
  count : l.trail.1 ≡ l.initial.trail.1;
  capacity : vec_capacity l.reasons ≡ vec_capacity l.initial.reasons;
  as_many : length l.reasons.items ≡ length (on_trail l.trail);
  slack : open_sum (on_trail l.trail) l.constraint ≡ l.constraint.degree + l.slack;
  forced : IsForcedOn l.constraint l.place (on_trail l.initial.trail) l.initial.reasons.items (on_trail l.trail) l.reasons.items;
  passed : ArePassed l.constraint.terms l.order (on_trail l.trail) l.index;
}
