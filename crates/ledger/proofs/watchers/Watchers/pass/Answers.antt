-- One entry more is handled, or taken off.
use Rattle.std.proofs.Common.{◌≡◌, ◌<◌, ℕ, inl, inr, Option, Some, List, [], ◌∷◌, ◌++◌, length, get_or, set, ap, ◌∙◌}
use Rattle.ledger.specs.declared.finding.Move.{Move}
use Rattle.ledger.specs.declared.pair.Pair.{Pair}
use Rattle.linear.specs.declared.term.Lit.{Lit}
use Rattle.linear.specs.Literal.{code}
use Rattle.ledger.specs.Watched.{Watching, exchanged}
use Rattle.ledger.proofs.FallingRows.{dropped, dropped_by, entry_is, moved_on, number_inside, place_is, stays, variable_below}
use Rattle.ledger.proofs.watchers.Watchers.pass.Goals as goal

pub returns-in-Satisfied-clause-passed : goal.returns-in-Satisfied-clause-passed
returns-in-Satisfied-clause-passed c =
    let found = c.in-Satisfied.ensures in
    let place : ℕ = get_or c.row.result.now c.args.index 0 in
    let is = place_is c.args.self.now.rows c.self.inside.rows c.row.result.now c.args.fallen c.code.result c.args.index c.row.ensures c.code.ensures (ap (λ (w : Watching). w.rows) c.self.view_is) c.requires.index in
    stays c.args.slots.now c.args.trail.now.0 c.args.trail.now.1 c.args.fallen c.args.self.now c.args.queue.now.0 c.args.queue.now.0 c.args.index place found.0 found.1 c.requires.falling c.requires.index is (λ k h. h) found.2 (inl found.3)

pub returns-in-Falsified-clause-passed : goal.returns-in-Falsified-clause-passed
returns-in-Falsified-clause-passed c = (c.requires.falling.watched, c.in-Falsified.ensures)

pub returns-in-Last-clause-passed : goal.returns-in-Last-clause-passed
returns-in-Last-clause-passed c =
    let found = c.in-Last.ensures in
    let place : ℕ = get_or c.row.result.now c.args.index 0 in
    let is = place_is c.args.self.now.rows c.self.inside.rows c.row.result.now c.args.fallen c.code.result c.args.index c.row.ensures c.code.ensures (ap (λ (w : Watching). w.rows) c.self.view_is) c.requires.index in
    stays c.args.slots.now c.args.trail.now.0 c.args.trail.now.1 c.args.fallen c.args.self.now c.args.queue.now.0 c.add.new.self.0 c.args.index place found.0 found.1 c.requires.falling c.requires.index is c.add.ensures.kept found.2
    (inr (found.3, c.add.ensures.there))

pub returns-in-Elsewhere-clause-passed : goal.returns-in-Elsewhere-clause-passed
returns-in-Elsewhere-clause-passed c =
    let place : ℕ = get_or c.row.result.now c.args.index 0 in
    let is = place_is c.args.self.now.rows c.self.inside.rows c.row.result.now c.args.fallen c.code.result c.args.index c.row.ensures c.code.ensures (ap (λ (w : Watching). w.rows) c.self.view_is) c.requires.index in
    let number : code c.args.fallen < length c.args.self.now.rows = number_inside c.args.fallen c.args.trail.now.1 c.args.self.now.rows c.requires.variable c.requires.falling.watched.size in
    dropped c.args.slots.now c.args.trail.now.0 c.args.trail.now.1 c.args.fallen c.args.self.now c.drop_entry.new.self c.args.queue.now.0 c.args.index place c.requires.falling number c.requires.index is c.in-Elsewhere.ensures
    (dropped_by c.args.self.now c.drop_entry.new.self c.args.fallen c.args.index place c.drop_entry.ensures.rows c.drop_entry.ensures.pairs c.drop_entry.ensures.literals
    (entry_is c.args.self.now.rows c.self.inside.rows c.row.result.now c.args.fallen c.code.result c.args.index c.row.ensures c.code.ensures (ap (λ (w : Watching). w.rows) c.self.view_is)))

pub put-requires : goal.put-requires
put-requires c =
    let found = c.in-Moved.ensures in
    let within = c.requires.within (get_or c.row.result.now c.args.index 0) found.0 found.2.0 in
    number_inside c.in-Moved.to.pair.first c.args.trail.now.1 c.args.self.now.rows (variable_below found.0 c.in-Moved.to.pair.first c.args.trail.now.1 found.3.of_it.first within) c.requires.falling.watched.size

pub returns-in_ok-put-in-Moved-clause-passed : goal.returns-in_ok-put-in-Moved-clause-passed
returns-in_ok-put-in-Moved-clause-passed c =
    let found = c.in-Moved.ensures in
    let to : Move = c.in-Moved.to in
    let place : ℕ = get_or c.row.result.now c.args.index 0 in
    let within = c.requires.within place found.0 found.2.0 in
    let is = place_is c.args.self.now.rows c.self.inside.rows c.row.result.now c.args.fallen c.code.result c.args.index c.row.ensures c.code.ensures (ap (λ (w : Watching). w.rows) c.self.view_is) c.requires.index in
    let number : code c.args.fallen < length c.args.self.now.rows = number_inside c.args.fallen c.args.trail.now.1 c.args.self.now.rows c.requires.variable c.requires.falling.watched.size in
    let mid : Watching = c.rewatch.new.self in
    let rows : mid.rows ≡ set c.args.self.now.rows (code to.pair.first) (get_or c.args.self.now.rows (code to.pair.first) [] ++ place ∷ []) = c.rewatch.ensures.rows ∙ c.in_ok-put-in-Moved.ensures.ok in
    let pairs : mid.pairs ≡ set c.args.self.now.pairs place (Some to.pair) = c.rewatch.ensures.pairs ∙ ap (λ (xs : List (Option Pair)). set xs place (Some to.pair)) c.put.ensures.pairs in
    let literals : mid.literals ≡ set c.args.self.now.literals place (exchanged (get_or c.args.self.now.literals place []) to.index c.args.fallen to.pair) = c.rewatch.ensures.literals ∙ ap (λ (xs : List (List Lit)). set xs place (exchanged (get_or xs place []) to.index c.args.fallen to.pair)) c.put.ensures.literals in
    moved_on c.args.slots.now c.args.trail.now.0 c.args.trail.now.1 c.args.fallen c.args.self.now mid c.drop_entry-in-Moved.new.self c.args.queue.now.0 c.args.index place found.0 found.1 to c.requires.falling within found.2 found.3 found.4
    (record { rows = rows; pairs = pairs; literals = literals }) number c.requires.index is c.drop_entry-in-Moved.ensures.rows c.drop_entry-in-Moved.ensures.pairs c.drop_entry-in-Moved.ensures.literals
