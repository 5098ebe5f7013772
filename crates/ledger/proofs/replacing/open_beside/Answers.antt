-- The literal that was found, or else the one that was kept, is open.
use Rattle.std.proofs.Common.{ℕ, List, sym, subst, ◌∙◌}
use Rattle.std.specs.Prelude.{IfSome}
use Rattle.linear.specs.declared.term.Lit.{Lit}
use Rattle.trail.specs.Trails.{on_trail}
use Rattle.ledger.specs.Watched.{IsOpenAt}
use Rattle.ledger.proofs.Sought.{chosen_open, open_under_fewer}
use Rattle.ledger.proofs.replacing.open_beside.Goals as goal
use Rattle.ledger.proofs.replacing.open_beside.Goals.{then-is_none, else-is_none}

pub returns-in-Some-clause-value : goal.returns-in-Some-clause-value
returns-in-Some-clause-value c =
    let t = c.args.trail.now in
    let ls : List Lit = c.args.literals.now in
    let p = c.args.others in
    let chosen = sym c.or-chosen.ensures ∙ c.in-Some.is in
    let shorter : (k : ℕ) → IsOpenAt (on_trail t) ls p k → IsOpenAt t.0 ls p k = open_under_fewer t.0 t.2 ls p in
    elim c.if-is_none.branch [
      | then-is_none w ↦
          chosen_open c.if-is_none.found c.if-is_none.falling c.in-Some.index (IsOpenAt (on_trail t) ls p) (IsOpenAt t.0 ls p) chosen
          (subst (λ o. IfSome o (IsOpenAt (on_trail t) ls p)) (sym w.found-is) w.open_in-found-then-is_none.ensures.open)
          (subst (λ o. IfSome o (IsOpenAt t.0 ls p)) (sym w.falling-is) (w.open_in-found-then-is_none.ensures.falling (c.open_in-found.ensures.falling tt)))
          shorter
      | else-is_none w ↦
          chosen_open c.if-is_none.found c.if-is_none.falling c.in-Some.index (IsOpenAt (on_trail t) ls p) (IsOpenAt t.0 ls p) chosen
          (subst (λ o. IfSome o (IsOpenAt (on_trail t) ls p)) (sym w.found-is) c.open_in-found.ensures.open)
          (subst (λ o. IfSome o (IsOpenAt t.0 ls p)) (sym w.falling-is) (c.open_in-found.ensures.falling tt))
          shorter
    ]
