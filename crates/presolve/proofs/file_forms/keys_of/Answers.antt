use Rattle.std.proofs.Common.{◌<◌, ◌≤◌, arith, length, sym, subst}
use Rattle.std.proofs.lemmas.List.{take_all}
use Rattle.std.proofs.lemmas.List.Elements.{All-get_or}
use Rattle.linear.specs.Limits.{IsConstraintWithin}
use Rattle.linear.specs.declared.constraint.Signed.{Signed}
use Rattle.presolve.specs.Forms.{Adds, AreKeysOf}
use Rattle.presolve.specs.Standing.{IsFormOf}
use Rattle.presolve.proofs.Keys.{keys_more}
use Rattle.presolve.proofs.Noting.{constraint_small, read_constraint}
use Rattle.presolve.proofs.file_forms.keys_of.Goals as goal

pub add_forms-requires : goal.add_forms-requires
add_forms-requires c =
    let p = c.args.problem.now in
    let i = c.loop-place.place in
    let item = c.copy_to.new.constraint in
    let within = c.constraints-constraints.ensures.within in
    let h : i < length p.constraints = subst (λ xs. i < length xs) c.constraints-constraints.ensures.constraints (omega (arith, c.loop-place-test.true, c.len-place-end.ensures)) in
    let is = read_constraint p.constraints c.constraints-constraints.result.now item i c.constraints-constraints.ensures.constraints c.in_ok-copy_to.ensures in
    record { small = constraint_small (length p.names) item (subst (IsConstraintWithin (length p.names)) (sym is) (All-get_or (IsConstraintWithin (length p.names)) p.constraints i item h within.constraints)) }

pub loop-place-preserved : goal.loop-place-preserved
loop-place-preserved c =
    let cs = c.args.problem.now.constraints in
    let i = c.loop-place.place in
    let item = c.copy_to.new.constraint in
    let old = c.loop-place.keys.keys in
    let new = c.add_forms.new.keys.keys in
    let h : i < length cs = subst (λ xs. i < length xs) c.constraints-constraints.ensures.constraints (omega (arith, c.loop-place-test.true, c.len-place-end.ensures)) in
    let is = read_constraint cs c.constraints-constraints.result.now item i c.constraints-constraints.ensures.constraints c.in_ok-copy_to.ensures in
    keys_more cs i item old new h c.loop-place.invariant (subst (λ (x : Signed). Adds (IsFormOf x) old new) is c.in_ok-add_forms.ensures)

pub returns : goal.returns
returns c =
    let cs = c.args.problem.now.constraints in
    let end : length cs ≤ c.loop-place.place = subst (λ xs. length xs ≤ c.loop-place.place) c.constraints-constraints.ensures.constraints (omega (arith, c.loop-place-test.false, c.len-place-end.ensures)) in
    subst (λ xs. AreKeysOf xs c.loop-place.keys.keys) (take_all c.loop-place.place cs end) c.loop-place.invariant
