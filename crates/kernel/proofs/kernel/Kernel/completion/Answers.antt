use Rattle.std.proofs.Common.{◌≡◌, Bool, List, Option, Some, map, length, MatchOption, ap, subst, ◌∙◌}
use Rattle.linear.specs.declared.term.Lit.{Lit}
use Rattle.propagate.specs.Literals.{IsConsistent}
use Rattle.propagate.specs.Reach.{IsReach}
use Rattle.proof_rules.specs.declared.fault.StepFault.TheVariants as faults
use Rattle.proof_rules.specs.Fault.{IsSolFault}
use Rattle.proof_rules.specs.Solution.{Completes}
use Rattle.proof_rules.specs.State.{State, constraints}
use Rattle.kernel.specs.Held.{Held, state_with}
use Rattle.solutions.specs.Table.{GivesAll, HasGap, LeavesOut}
use Rattle.solutions.proofs.Tables.{table_read}
use Rattle.kernel.proofs.Completed.{not_closed, said_whole, reached_whole, conflicts, leaves_partial}
use Rattle.kernel.proofs.kernel.Kernel.completion.Goals as goal

pub returns-in-Some-clause-completes : goal.returns-in-Some-clause-completes
returns-in-Some-clause-completes g c =
    let k = c.self.inside in
    let s : State = state_with k.database k.log k.block in
    let assigned : List Lit = c.args.assigned.now in
    let count : c.len-count.result ≡ length k.source.now.names = c.len-count.ensures.len ∙ ap length c.names.ensures.names in
    let consistent : IsConsistent assigned = c.in_ok-is_consistent.ensures.0 c.if-not-branch.false in
    let table : List (Option Bool) = c.in_ok-table.table.items in
    let read = table_read c.len-count.result assigned table c.in_ok-solution.field-0 c.in_ok-table.ensures.length c.in_ok-table.ensures.table
    (subst (λ xs. MatchOption c.in_ok-solution.field-0 (HasGap xs) (λ h. map (λ b. Some b) h ≡ xs)) c.as_slice-2.ensures.value c.in_ok-solution.ensures) in
    let gives : GivesAll c.len-count.result assigned c.in-Some.solution =
    subst (λ o. MatchOption o (LeavesOut c.len-count.result assigned) (GivesAll c.len-count.result assigned)) c.in-Some.is read in
    subst (λ (x : Held). Completes (constraints x.state) (length x.problem.names) assigned c.in-Some.solution) c.self.view_is
    (said_whole (constraints s) (length k.source.now.names) assigned c.in-Some.solution consistent (subst (λ n. GivesAll n assigned c.in-Some.solution) count gives))

pub returns-in_default-2-clause-fault : goal.returns-in_default-2-clause-fault
returns-in_default-2-clause-fault g c =
    let k = c.self.inside in
    let s : State = state_with k.database k.log k.block in
    let assigned : List Lit = c.args.assigned.now in
    let count : c.len-count.result ≡ length k.source.now.names = c.len-count.ensures.len ∙ ap length c.names.ensures.names in
    let consistent : IsConsistent assigned = c.in_ok-is_consistent.ensures.0 c.if-not-branch.false in
    let table : List (Option Bool) = c.in_ok-table.table.items in
    let read = table_read c.len-count.result assigned table c.in_ok-solution.field-0 c.in_ok-table.ensures.length c.in_ok-table.ensures.table
    (subst (λ xs. MatchOption c.in_ok-solution.field-0 (HasGap xs) (λ h. map (λ b. Some b) h ≡ xs)) c.as_slice-2.ensures.value c.in_ok-solution.ensures) in
    let out : LeavesOut c.len-count.result assigned = subst (λ o. MatchOption o (LeavesOut c.len-count.result assigned) (GivesAll c.len-count.result assigned)) c.in_default.is read in
    let impossible = not_closed (constraints s) assigned c.in_ok-reached.field-0 c.in_default-2.not-Closed c.in_ok-reached.ensures.answer in
    subst (λ (x : Held). IsSolFault x.problem x.state assigned faults.SolutionConflict) c.self.view_is
    (conflicts k.source.now s assigned consistent (subst (λ n. LeavesOut n assigned) count out) impossible)

pub returns-in-Some-2-clause-completes : goal.returns-in-Some-2-clause-completes
returns-in-Some-2-clause-completes g c =
    let k = c.self.inside in
    let s : State = state_with k.database k.log k.block in
    let assigned : List Lit = c.args.assigned.now in
    let count : c.len-count.result ≡ length k.source.now.names = c.len-count.ensures.len ∙ ap length c.names.ensures.names in
    let consistent : IsConsistent assigned = c.in_ok-is_consistent.ensures.0 c.if-not-branch.false in
    let table : List (Option Bool) = c.in_ok-table.table.items in
    let read = table_read c.len-count.result assigned table c.in_ok-solution.field-0 c.in_ok-table.ensures.length c.in_ok-table.ensures.table
    (subst (λ xs. MatchOption c.in_ok-solution.field-0 (HasGap xs) (λ h. map (λ b. Some b) h ≡ xs)) c.as_slice-2.ensures.value c.in_ok-solution.ensures) in
    let out : LeavesOut c.len-count.result assigned = subst (λ o. MatchOption o (LeavesOut c.len-count.result assigned) (GivesAll c.len-count.result assigned)) c.in_default.is read in
    let reach = subst (IsReach (constraints s) assigned) c.in-Closed.is c.in_ok-reached.ensures.answer in
    let closed : List Lit = c.in-Closed.reached in
    let gives : GivesAll c.len-count.result c.as_slice-3.result.now c.in-Some-2.solution =
    subst (λ o. MatchOption o (LeavesOut c.len-count.result c.as_slice-3.result.now) (GivesAll c.len-count.result c.as_slice-3.result.now)) c.in-Some-2.is c.in_ok-solution-2.ensures in
    subst (λ (x : Held). Completes (constraints x.state) (length x.problem.names) assigned c.in-Some-2.solution) c.self.view_is
    (reached_whole (constraints s) (length k.source.now.names) assigned closed c.in-Some-2.solution consistent (subst (λ n. LeavesOut n assigned) count out) reach
    (subst (λ n. GivesAll n closed c.in-Some-2.solution) count (subst (λ l. GivesAll c.len-count.result l c.in-Some-2.solution) c.as_slice-3.ensures gives)))

pub returns-clause-fault : goal.returns-clause-fault
returns-clause-fault g c =
    let k = c.self.inside in
    let s : State = state_with k.database k.log k.block in
    let assigned : List Lit = c.args.assigned.now in
    let count : c.len-count.result ≡ length k.source.now.names = c.len-count.ensures.len ∙ ap length c.names.ensures.names in
    let consistent : IsConsistent assigned = c.in_ok-is_consistent.ensures.0 c.if-not-branch.false in
    let reach = subst (IsReach (constraints s) assigned) c.in-Closed.is c.in_ok-reached.ensures.answer in
    let closed : List Lit = c.in-Closed.reached in
    let out : LeavesOut c.len-count.result c.as_slice-3.result.now =
    subst (λ o. MatchOption o (LeavesOut c.len-count.result c.as_slice-3.result.now) (GivesAll c.len-count.result c.as_slice-3.result.now)) c.in-None.is c.in_ok-solution-2.ensures in
    subst (λ (x : Held). IsSolFault x.problem x.state assigned faults.SolutionPartial) c.self.view_is
    (leaves_partial k.source.now s assigned closed consistent reach (subst (λ n. LeavesOut n closed) count (subst (LeavesOut c.len-count.result) c.as_slice-3.ensures out)))
