use Rattle.std.proofs.Common.{◌<◌, ◌≤◌, arith, length, sym, subst}
use Rattle.std.proofs.lemmas.List.{take_all}
use Rattle.std.proofs.lemmas.List.Elements.{All-get_or}
use Rattle.linear.specs.Limits.{IsConstraintWithin}
use Rattle.linear.specs.declared.constraint.Signed.{Signed}
use Rattle.presolve.specs.Standing.{IsAbsent, StandsNowhere}
use Rattle.presolve.specs.Uses.{Notes}
use Rattle.presolve.proofs.Noting.{constraint_small, file_more, read_constraint}
use Rattle.presolve.proofs.uses.note_file.Goals as goal

pub note_forms-requires : goal.note_forms-requires
note_forms-requires c =
    let p = c.args.problem.now in
    let i = c.loop-place.place in
    let item = c.copy_to.new.constraint in
    let within = c.constraints-constraints.ensures.within in
    let h : i < length p.constraints = subst (λ xs. i < length xs) c.constraints-constraints.ensures.constraints (omega (arith, c.loop-place-test.true, c.len-place-end.ensures)) in
    let is = read_constraint p.constraints c.constraints-constraints.result.now item i c.constraints-constraints.ensures.constraints c.in_ok-copy_to.ensures in
    record { small = constraint_small (length p.names) item (subst (IsConstraintWithin (length p.names)) (sym is) (All-get_or (IsConstraintWithin (length p.names)) p.constraints i item h within.constraints)) }

pub loop-place-preserved : goal.loop-place-preserved
loop-place-preserved c =
    let p = c.args.problem.now in
    let i = c.loop-place.place in
    let item = c.copy_to.new.constraint in
    let old = c.loop-place.table in
    let new = c.note_forms.new.table in
    let h : i < length p.constraints = subst (λ xs. i < length xs) c.constraints-constraints.ensures.constraints (omega (arith, c.loop-place-test.true, c.len-place-end.ensures)) in
    let is = read_constraint p.constraints c.constraints-constraints.result.now item i c.constraints-constraints.ensures.constraints c.in_ok-copy_to.ensures in
    let here = subst (λ (x : Signed). Notes (λ v s. IsAbsent v s x) old new) is c.in_ok-note_forms.ensures in
    file_more p.constraints i item c.args.table.now old new h c.loop-place.auto.table c.loop-place.invariant here

pub returns : goal.returns
returns c =
    let cs = c.args.problem.now.constraints in
    let end : length cs ≤ c.loop-place.place = subst (λ xs. length xs ≤ c.loop-place.place) c.constraints-constraints.ensures.constraints (omega (arith, c.loop-place-test.false, c.len-place-end.ensures)) in
    subst (λ xs. Notes (λ v s. StandsNowhere xs v s) c.args.table.now c.loop-place.table) (take_all c.loop-place.place cs end) c.loop-place.invariant
