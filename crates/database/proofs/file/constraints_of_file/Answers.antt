use Rattle.std.proofs.Common.{◌<◌, ◌≤◌, arith, length, get_or, subst, sym}
use Rattle.std.proofs.lemmas.List.{take_all}
use Rattle.std.proofs.lemmas.List.Elements.{All-get_or}
use Rattle.linear.specs.Limits.{IsConstraintWithin}
use Rattle.proof_rules.proofs.FileForms.{constraint_small, read_constraint}
use Rattle.database.specs.File.{AddsForms, AreOfFile}
use Rattle.database.proofs.Listed.{file_more, room_more}
use Rattle.database.proofs.file.constraints_of_file.Goals as goal

pub push_forms-requires-clause-small : goal.push_forms-requires-clause-small
push_forms-requires-clause-small g c =
    let p = c.args.problem.now in
    let i = c.loop-place.place in
    let item = c.copy_to.new.constraint in
    let within = c.constraints-constraints.ensures.within in
    let h : i < length p.constraints = subst (λ xs. i < length xs) c.constraints-constraints.ensures.constraints (omega (arith, c.loop-place-test.true, c.len-place-end.ensures)) in
    let is = read_constraint p.constraints c.constraints-constraints.result.now item i c.constraints-constraints.ensures.constraints c.in_ok-copy_to.ensures in
    constraint_small (length p.names) item (subst (IsConstraintWithin (length p.names)) (sym is) (All-get_or (IsConstraintWithin (length p.names)) p.constraints i item h within.constraints))

pub push_forms-requires-clause-room : goal.push_forms-requires-clause-room
push_forms-requires-clause-room g c =
    let p = c.args.problem.now in
    let i = c.loop-place.place in
    let h : i < length p.constraints = subst (λ xs. i < length xs) c.constraints-constraints.ensures.constraints (omega (arith, c.loop-place-test.true, c.len-place-end.ensures)) in
    room_more p.constraints i c.loop-place.database h c.constraints-constraints.ensures.within.count c.loop-place.invariant

pub loop-place-preserved : goal.loop-place-preserved
loop-place-preserved g c =
    let p = c.args.problem.now in
    let i = c.loop-place.place in
    let item = c.copy_to.new.constraint in
    let old = c.loop-place.database in
    let new = c.push_forms.new.database in
    let h : i < length p.constraints = subst (λ xs. i < length xs) c.constraints-constraints.ensures.constraints (omega (arith, c.loop-place-test.true, c.len-place-end.ensures)) in
    let is = read_constraint p.constraints c.constraints-constraints.result.now item i c.constraints-constraints.ensures.constraints c.in_ok-copy_to.ensures in
    let here : AddsForms (get_or p.constraints i item) old new = subst (λ x. AddsForms x old new) is c.in_ok-push_forms.ensures in
    file_more p.constraints i item old new h here c.loop-place.invariant

pub returns-clause-file : goal.returns-clause-file
returns-clause-file g c =
    let cs = c.args.problem.now.constraints in
    let end : length cs ≤ c.loop-place.place = subst (λ xs. length xs ≤ c.loop-place.place) c.constraints-constraints.ensures.constraints (omega (arith, c.loop-place-test.false, c.len-place-end.ensures)) in
    subst (λ xs. AreOfFile xs c.loop-place.database) (take_all c.loop-place.place cs end) c.loop-place.invariant
