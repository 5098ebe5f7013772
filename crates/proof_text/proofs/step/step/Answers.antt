use Rattle.std.proofs.Common.{sym, subst, ap, ◌∙◌}
use Rattle.pb_text.specs.TokensOf.{texts_of}
use Rattle.proof_text.specs.Words.{Halves, AreSmall}
use Rattle.proof_text.specs.Steps.{goal_of}
use Rattle.proof_text.specs.Forms.{are_items, items_of, are_literals, literals_of}
use Rattle.proof_text.specs.PartsRead.{IsRead, IsConstraintRead}
use Rattle.proof_text.proofs.StepsRead.{pol_read, rup_read, sol_read, soli_read, goal_read}
use Rattle.proof_text.proofs.step.step.Goals as goal

pub returns-in_ok-items-in-Pol-clause-read : goal.returns-in_ok-items-in-Pol-clause-read
returns-in_ok-items-in-Pol-clause-read c =
    let k = c.args.table.now in
    let new = c.items.new.table in
    let xs = c.in_ok-items-in-Pol.field-0 in
    rw c.in-Pol.is (pol_read k new (texts_of c.args.words) xs (subst (λ ws. IsRead are_items items_of k ws xs new) c.new.ensures c.in_ok-items-in-Pol.ensures.read))

pub returns-in_ok-constraint-in-Rup-clause-read : goal.returns-in_ok-constraint-in-Rup-clause-read
returns-in_ok-constraint-in-Rup-clause-read c =
    let k = c.args.table.now in
    let new = c.constraint.new.table in
    let e = c.in_ok-constraint-in-Rup.ensures in
    let x = c.in_ok-constraint-in-Rup.constraint in
    rw c.in-Rup.is
    (rup_read k new (texts_of c.args.words) (texts_of c.in_ok-constraint-in-Rup._hints) x (subst (λ (h : Halves). IsConstraintRead k h.front x new) c.new-in-Rup.ensures e.read)
    (sym (ap (λ (h : Halves). h.behind) c.new-in-Rup.ensures) ∙ e.behind))

pub returns-in_ok-lits-in-Sol-clause-read : goal.returns-in_ok-lits-in-Sol-clause-read
returns-in_ok-lits-in-Sol-clause-read c =
    let k = c.args.table.now in
    let new = c.lits.new.table in
    let xs = c.in_ok-lits-in-Sol.field-0 in
    rw c.in-Sol.is (sol_read k new (texts_of c.args.words) xs (subst (λ ws. IsRead are_literals literals_of k ws xs new) c.new-in-Sol.ensures c.in_ok-lits-in-Sol.ensures.read))

pub returns-in_ok-lits-in-Soli-clause-read : goal.returns-in_ok-lits-in-Soli-clause-read
returns-in_ok-lits-in-Soli-clause-read c =
    let k = c.args.table.now in
    let new = c.lits-in-Soli.new.table in
    let xs = c.in_ok-lits-in-Soli.field-0 in
    rw c.in-Soli.is (soli_read k new (texts_of c.args.words) xs (subst (λ ws. IsRead are_literals literals_of k ws xs new) c.new-in-Soli.ensures c.in_ok-lits-in-Soli.ensures.read))

pub returns-in_ok-goal-in-Goal-clause-read : goal.returns-in_ok-goal-in-Goal-clause-read
returns-in_ok-goal-in-Goal-clause-read c =
    let e = c.in_ok-goal-in-Goal.ensures in
    rw c.in-Goal.is
    (goal_read c.args.table.now (texts_of c.args.words) c.in_ok-goal-in-Goal.field-0 (ap goal_of (sym c.new-in-Goal.ensures) ∙ e.goal) (subst AreSmall c.new-in-Goal.ensures e.small))
