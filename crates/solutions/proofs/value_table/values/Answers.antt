use Rattle.std.proofs.Common.{◌≡◌, List, Bool, Option, Some, map, MatchOption, subst}
use Rattle.std.proofs.lemmas.Result.{IfOk-weaker}
use Rattle.linear.specs.declared.term.Lit.{Lit}
use Rattle.solutions.specs.Table.{HasGap, GivesAll, LeavesOut}
use Rattle.solutions.proofs.Tables.{table_read}
use Rattle.solutions.proofs.value_table.values.Goals as goal

pub returns : goal.returns
returns c =
    let assigned : List Lit = c.args.assigned.now in
    let table : List (Option Bool) = c.in_ok-table.table.items in
    IfOk-weaker c.all_values.result (λ found. MatchOption found (HasGap c.as_slice.result.now) (λ g. map (λ b. Some b) g ≡ c.as_slice.result.now))
    (λ found. MatchOption found (LeavesOut c.args.count assigned) (GivesAll c.args.count assigned))
    (λ found h. table_read c.args.count assigned table found c.in_ok-table.ensures.length c.in_ok-table.ensures.table (subst (λ xs. MatchOption found (HasGap xs) (λ g. map (λ b. Some b) g ≡ xs)) c.as_slice.ensures.value h))
    c.all_values.ensures
