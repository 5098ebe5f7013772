-- The opposite is there, or the literal is given and all settles.
use Rattle.std.proofs.Common.{◌∙◌, [], ◌∷◌, List, Option, IfOk, ap, subst, sym}
use Rattle.linear.specs.declared.term.Lit.{Lit}
use Rattle.normal_form.specs.Normal.{NormalConstraint}
use Rattle.propagate.specs.Literals.{lists}
use Rattle.ledger.specs.Ledgers.{shown}
use Rattle.watch.specs.Keeping.{IsAssumed}
use Rattle.propagate.proofs.Assignments.{among_head, among_right}
use Rattle.watch.proofs.following.assume.Goals as goal

pub returns-then-assigns-clause-end : goal.returns-then-assigns-clause-end
returns-then-assigns-clause-end c =
    let l = c.args.literal in (
      l,
      among_right c.args.levels.now.0 (l ∷ []) (l.var.0) l.negated (among_head l []),
      ap (λ (m : Lit). lists c.args.ledger.now.assigned m) (sym c.opposite.ensures) ∙ sym c.assigns.ensures ∙ c.if-assigns.true,
    )

pub returns-in_err-open_level-clause-kept : goal.returns-in_err-open_level-clause-kept
returns-in_err-open_level-clause-kept c = c.open_level.ensures.kept

pub propagate_kept-requires-clause-looked_at : goal.propagate_kept-requires-clause-looked_at
propagate_kept-requires-clause-looked_at c = c.open_level.ensures.kept.looked_at

pub returns-clause-kept : goal.returns-clause-kept
returns-clause-kept c = c.propagate_kept.ensures.kept c.open_level.new.levels c.open_level.ensures.kept

pub returns-clause-end : goal.returns-clause-end
returns-clause-end c =
    let new = c.propagate_kept.new.ledger in
    let levels = c.open_level.new.levels in
    let end = c.propagate_kept.ensures.end levels c.open_level.ensures.kept in
    subst (λ (xs : List Lit). IfOk c.propagate_kept.result (IsAssumed (shown c.args.ledger.now.slots) xs new.assigned)) c.in_ok-open_level.ensures.levels
    (subst (λ (os : List (Option NormalConstraint)). IfOk c.propagate_kept.result (IsAssumed (shown os) levels.0 new.assigned)) c.open_level.ensures.slots end)
