-- Another open literal watches the clause of the place, or it is falsified.
use Rattle.std.proofs.Common.{◌≡◌, ◌⊎◌, inl, inr, true, false, List, ℕ, get_or, ap, sym, subst, ◌∙◌, arith}
use Rattle.std.proofs.lemmas.Bool.{false≢true}
use Rattle.std.proofs.lemmas.List.{get_or_default}
use Rattle.linear.specs.declared.term.Lit.{Lit}
use Rattle.linear.specs.Literal.{opposite}
use Rattle.normal_form.specs.Normal.{NormalConstraint}
use Rattle.propagate.specs.Literals.{lists}
use Rattle.ledger.specs.Falls.{IsMoveIn}
use Rattle.trail.specs.Trails.{on_trail}
use Rattle.ledger.specs.Watched.{AreRestFalse, IsOpen, Watching}
use Rattle.ledger.specs.declared.finding.Move.{Move}
use Rattle.ledger.specs.declared.pair.Pair.{Pair}
use Rattle.ledger.proofs.ChosenLiterals.{others_longer}
use Rattle.ledger.proofs.FalsifiedClauses.{falsified_others, others_of}
use Rattle.ledger.proofs.ListedClauses.{open_of_list, others_of_rest, watched_here}
use Rattle.ledger.proofs.WatchMoves.{moved, same_beside}
use Rattle.ledger.proofs.watchers.Watchers.look.Goals as goal

pub open_beside-requires-clause-within : goal.open_beside-requires-clause-within
open_beside-requires-clause-within c =
    let t = c.args.trail.now in
    let ls : List Lit = c.row-literals.result.now in
    let q : Pair = record { first = c.args.fallen; second = c.in-Some.other } in
    let i = watched_here c.args._slots.now t.0 t.1 c.args.self.now c.self.inside.literals c.args.place c.args.fallen c.in-Some.other ls c.requires.watched c.requires.within (ap (λ (w : Watching). w.pairs) c.self.view_is) (ap (λ (w : Watching). w.literals) c.self.view_is) c.row-literals.ensures c.in-Some.ensures.none in
    let n : NormalConstraint = i.clause in
    i.within

pub assigns-requires : goal.assigns-requires
assigns-requires c =
    let t = c.args.trail.now in
    let ls : List Lit = c.row-literals.result.now in
    let q : Pair = record { first = c.args.fallen; second = c.in-Some.other } in
    let i = watched_here c.args._slots.now t.0 t.1 c.args.self.now c.self.inside.literals c.args.place c.args.fallen c.in-Some.other ls c.requires.watched c.requires.within (ap (λ (w : Watching). w.pairs) c.self.view_is) (ap (λ (w : Watching). w.literals) c.self.view_is) c.row-literals.ensures c.in-Some.ensures.none in
    let n : NormalConstraint = i.clause in
    let d : Lit = record { var = record { 0 = 0 }; negated = false } in
    grind (arith, i.within c.in-Some-open_beside.index d c.in-Some-open_beside.ensures.value.below, c.opposite-then-fell.ensures)

-- where the chosen literal falls later, all others fall
all_fall : (xs ls : List Lit) (p : Pair) (index : ℕ) (d : Lit) → ((e : Lit) → IsOpen xs (get_or ls index e)) ⊎ AreRestFalse xs ls p → lists xs (opposite (get_or ls index d)) ≡ true → AreRestFalse xs ls p
all_fall xs ls p index d (inl o) falls = absurd (false≢true (sym (o d) ∙ falls))
all_fall xs ls p index d (inr out) falls = out

pub returns-then-assigns : goal.returns-then-assigns
returns-then-assigns c =
    let t = c.args.trail.now in
    let ls : List Lit = c.row-literals.result.now in
    let q : Pair = record { first = c.args.fallen; second = c.in-Some.other } in
    let i = watched_here c.args._slots.now t.0 t.1 c.args.self.now c.self.inside.literals c.args.place c.args.fallen c.in-Some.other ls c.requires.watched c.requires.within (ap (λ (w : Watching). w.pairs) c.self.view_is) (ap (λ (w : Watching). w.literals) c.self.view_is) c.row-literals.ensures c.in-Some.ensures.none in
    let n : NormalConstraint = i.clause in
    let d : Lit = record { var = record { 0 = 0 }; negated = false } in
    let chosen : lists (on_trail t) (opposite (get_or ls c.in-Some-open_beside.index d)) ≡ true = ap (lists (on_trail t)) (sym c.opposite-then-fell.ensures) ∙ sym c.assigns.ensures ∙ c.if-assigns.true in
    let fell : lists (on_trail t) (opposite c.in-Some.other) ≡ true = ap (lists (on_trail t)) (sym c.opposite.ensures) ∙ sym c.assigns-fell.ensures ∙ c.if-fell.true in
    let rest : AreRestFalse (on_trail t) ls q = all_fall (on_trail t) ls q c.in-Some-open_beside.index d c.in-Some-open_beside.ensures.last chosen in
    (n, i.at.0, falsified_others (on_trail t) n c.args.fallen c.in-Some.other i.of_it.asks (others_of_rest (on_trail t) n ls i.pair c.args.fallen c.in-Some.other i.listed i.first_two i.beside rest) c.requires.falls fell)

pub returns-else-fell : goal.returns-else-fell
returns-else-fell c =
    let t = c.args.trail.now in
    let ls : List Lit = c.row-literals.result.now in
    let q : Pair = record { first = c.args.fallen; second = c.in-Some.other } in
    let i = watched_here c.args._slots.now t.0 t.1 c.args.self.now c.self.inside.literals c.args.place c.args.fallen c.in-Some.other ls c.requires.watched c.requires.within (ap (λ (w : Watching). w.pairs) c.self.view_is) (ap (λ (w : Watching). w.literals) c.self.view_is) c.row-literals.ensures c.in-Some.ensures.none in
    let n : NormalConstraint = i.clause in
    let d : Lit = record { var = record { 0 = 0 }; negated = false } in
    let index : ℕ = c.in-Some-open_beside.index in
    let unset = c.in-Some-open_beside.ensures.value in
    let m : Move = record { index = index; pair = record { first = get_or ls index d; second = c.in-Some.other } } in
    let move : IsMoveIn ls i.pair c.args.fallen m = record { pair = i.first_two; rest = unset.rest; below = unset.below; there = λ e. get_or_default ls index e d unset.below; beside = i.beside } in (
      n,
      i.pair,
      i.at,
      moved t.0 n i.pair c.args.fallen c.in-Some.other (get_or ls index d) i.of_it i.tell i.beside c.requires.unset (sym c.has_propagated.ensures ∙ c.if-has_propagated.false) (open_of_list t.0 n ls q index d i.listed unset),
      subst (λ (xs : List Lit). IsMoveIn xs i.pair c.args.fallen m) i.same move,
    )

pub returns-in-None : goal.returns-in-None
returns-in-None c =
    let t = c.args.trail.now in
    let ls : List Lit = c.row-literals.result.now in
    let q : Pair = record { first = c.args.fallen; second = c.in-Some.other } in
    let i = watched_here c.args._slots.now t.0 t.1 c.args.self.now c.self.inside.literals c.args.place c.args.fallen c.in-Some.other ls c.requires.watched c.requires.within (ap (λ (w : Watching). w.pairs) c.self.view_is) (ap (λ (w : Watching). w.literals) c.self.view_is) c.row-literals.ensures c.in-Some.ensures.none in
    let n : NormalConstraint = i.clause in
    let fell : lists (on_trail t) (opposite c.in-Some.other) ≡ true = ap (lists (on_trail t)) (sym c.opposite.ensures) ∙ sym c.assigns-fell.ensures ∙ c.if-fell-2.true in
    let out = others_longer t.0 t.2 n q (others_of_rest t.0 n ls i.pair c.args.fallen c.in-Some.other i.listed i.first_two i.beside c.in-None.ensures.value) in
    (n, i.at.0, falsified_others (on_trail t) n c.args.fallen c.in-Some.other i.of_it.asks out c.requires.falls fell)

pub returns-in-None-2 : goal.returns-in-None-2
returns-in-None-2 c =
    let t = c.args.trail.now in
    let ls : List Lit = c.row-literals.result.now in
    let q : Pair = record { first = c.args.fallen; second = c.in-Some.other } in
    let i = watched_here c.args._slots.now t.0 t.1 c.args.self.now c.self.inside.literals c.args.place c.args.fallen c.in-Some.other ls c.requires.watched c.requires.within (ap (λ (w : Watching). w.pairs) c.self.view_is) (ap (λ (w : Watching). w.literals) c.self.view_is) c.row-literals.ensures c.in-Some.ensures.none in
    let n : NormalConstraint = i.clause in
    let unset : IsOpen (on_trail t) c.in-Some.other = ap (lists (on_trail t)) (sym c.opposite.ensures) ∙ sym c.assigns-fell.ensures ∙ c.if-fell-2.false in
    let out = others_of_rest t.0 n ls i.pair c.args.fallen c.in-Some.other i.listed i.first_two i.beside c.in-None.ensures.value in
    (n, i.pair, i.at, others_of t.0 n i.pair c.args.fallen c.in-Some.other i.beside out, λ l b. subst (IsOpen (on_trail t)) (same_beside n i.pair c.args.fallen c.in-Some.other l i.of_it i.beside b) unset)
