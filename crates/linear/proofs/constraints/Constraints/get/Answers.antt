use Rattle.std.proofs.Common.{◌≡◌, ◌-◌, ◌<◌, ℕ, List, ap, arith, get_or, length, ◌∙◌}
use Rattle.linear.specs.declared.constraint.Signed.{Signed}
use Rattle.linear.specs.Packed.{constraint_between, start_at}
use Rattle.linear.proofs.CutConstraints.{length_cut, constraint_read, place_read}
use Rattle.linear.proofs.constraints.Constraints.get.Goals as goal

pub start_of-requires : goal.start_of-requires
start_of-requires c = omega (arith, c.requires, length_cut c.self.inside.terms 0 c.self.inside.ends.items, ap length c.self.view_is, ap length c.as_slice.ensures.value)

pub index-requires : goal.index-requires
index-requires c = omega (arith, c.requires, length_cut c.self.inside.terms 0 c.self.inside.ends.items, ap length c.self.view_is, c.as_slice.ensures.len, ap length c.as_slice.ensures.value)

pub overflow_sub-result : goal.overflow_sub-result
overflow_sub-result c =
    let es : List ℕ = c.self.inside.ends.items in
    let inside : c.args.place < length es = omega (arith, c.requires, length_cut c.self.inside.terms 0 es, ap length c.self.view_is) in
    let from : c.start_of.result ≡ start_at 0 es c.args.place = c.start_of.ensures ∙ ap (λ xs. start_at 0 xs c.args.place) c.as_slice.ensures.value in
    let at = place_read es (length c.self.inside.terms) c.args.place c.index.result.now c.start_of.result c.self.invariant inside c.index.ensures from in
    omega (arith, at.0)

pub invariant_of-result : goal.invariant_of-result
invariant_of-result c =
    let es : List ℕ = c.self.inside.ends.items in
    let inside : c.args.place < length es = omega (arith, c.requires, length_cut c.self.inside.terms 0 es, ap length c.self.view_is) in
    let from : c.start_of.result ≡ start_at 0 es c.args.place = c.start_of.ensures ∙ ap (λ xs. start_at 0 xs c.args.place) c.as_slice.ensures.value in
    let at = place_read es (length c.self.inside.terms) c.args.place c.index.result.now c.start_of.result c.self.invariant inside c.index.ensures from in (
      omega (arith, at.0),
      omega (arith, at.0, at.1),
    )

pub returns : goal.returns
returns c =
    let es : List ℕ = c.self.inside.ends.items in
    let inside : c.args.place < length es = omega (arith, c.requires, length_cut c.self.inside.terms 0 es, ap length c.self.view_is) in
    let from : c.start_of.result ≡ start_at 0 es c.args.place = c.start_of.ensures ∙ ap (λ xs. start_at 0 xs c.args.place) c.as_slice.ensures.value in
    let lent : Signed = constraint_between c.self.inside.terms c.start_of.result (c.index.result.now - 1) in
    constraint_read c.self.inside.terms es c.args.place c.index.result.now c.start_of.result lent inside c.index.ensures from ∙ ap (λ cs. get_or cs c.args.place lent) c.self.view_is
