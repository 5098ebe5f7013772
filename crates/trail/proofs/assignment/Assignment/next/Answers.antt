-- The first literal behind those that were propagated.
use Rattle.std.proofs.Common.{◌≡◌, ◌<◌, ◌≤◌, ℕ, List, [], length, get_or, take, drop, ap, sym, subst, ◌∙◌, true, false, arith}
use Rattle.linear.specs.declared.term.Lit.{Lit}
use Rattle.propagate.specs.Literals.{lists}
use Rattle.propagate.specs.Trails.{IsFree}
use Rattle.trail.proofs.AssignedLiterals.{before_end}
use Rattle.propagate.proofs.Positions.{listed_at}
use Rattle.trail.proofs.assignment.Assignment.next.Goals as goal

abbrev Whole : Type 0
Whole = List Lit × ℕ × List Lit

abbrev any : Lit
any = record { var = record { 0 = 0 }; negated = false }

inside : (xs seen : List Lit) (p : ℕ) (pending : List Lit) → seen ≡ xs → p ≤ length xs → drop p xs ≡ pending → (pending ≡ [] → ⊥) → p < length seen
inside xs seen p pending same h e some = omega (arith, before_end xs p h (λ none. some (sym e ∙ none)), ap (length {A = Lit}) same)

free : (xs seen : List Lit) (p : ℕ) (before : List Lit) → seen ≡ xs → take p xs ≡ before → p < length seen → ((k : ℕ) (d : Lit) → k < length xs → IsFree (take k xs) (get_or xs k d)) → IsFree before (get_or seen p any)
free xs seen p before same e low fresh =
    subst (λ (ys : List Lit). IsFree ys (get_or seen p any)) e (subst (λ (ys : List Lit). IsFree (take p xs) (get_or ys p any)) (sym same) (fresh p any (omega (arith, low, ap (length {A = Lit}) same))))

pub returns-clause-unset : goal.returns-clause-unset
returns-clause-unset c =
    let a = c.self.inside in
    let pending = ap (λ (w : Whole). w.2) c.self.view_is in
    let low = inside a.trail.0 c.assigned.result.now a.propagated c.args.self.now.2 c.assigned.ensures.assigned c.self.invariant pending c.requires in
    (free a.trail.0 c.assigned.result.now a.propagated c.args.self.now.0 c.assigned.ensures.assigned (ap (λ (w : Whole). w.0) c.self.view_is) low c.assigned.ensures.fresh).0

pub returns-clause-opposite_unset : goal.returns-clause-opposite_unset
returns-clause-opposite_unset c =
    let a = c.self.inside in
    let pending = ap (λ (w : Whole). w.2) c.self.view_is in
    let low = inside a.trail.0 c.assigned.result.now a.propagated c.args.self.now.2 c.assigned.ensures.assigned c.self.invariant pending c.requires in
    (free a.trail.0 c.assigned.result.now a.propagated c.args.self.now.0 c.assigned.ensures.assigned (ap (λ (w : Whole). w.0) c.self.view_is) low c.assigned.ensures.fresh).1

pub returns-clause-variable : goal.returns-clause-variable
returns-clause-variable c =
    let a = c.self.inside in
    let x : Lit = get_or c.assigned.result.now a.propagated any in
    let pending = ap (λ (w : Whole). w.2) c.self.view_is in
    let low = inside a.trail.0 c.assigned.result.now a.propagated c.args.self.now.2 c.assigned.ensures.assigned c.self.invariant pending c.requires in
    let there : lists c.assigned.result.now x ≡ true = listed_at c.assigned.result.now a.propagated any low in
    omega (arith, c.assigned.ensures.variables x (subst (λ (ys : List Lit). lists ys x ≡ true) c.assigned.ensures.assigned there), ap (λ (w : Whole). w.1) c.self.view_is)
