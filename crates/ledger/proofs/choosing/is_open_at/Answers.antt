-- A literal that is open outlasts all.
use Rattle.std.proofs.Common.{◌≡◌, ◌∙◌, Bool, true, false, not, refl, ap, get_or, sym, arith}
use Rattle.std.proofs.lemmas.List.{get_or_default}
use Rattle.linear.specs.Literal.{opposite}
use Rattle.normal_form.proofs.Sums.{bound_at}
use Rattle.propagate.specs.Literals.{lists}
use Rattle.propagate.specs.Passes.{literal_of}
use Rattle.ledger.proofs.Latest.{open_outlasts}
use Rattle.ledger.proofs.choosing.is_open_at.Goals as goal

pub has_propagated-requires : goal.has_propagated-requires
has_propagated-requires c = grind (arith, bound_at c.args.constraint.now.terms c.args.index c.term.result c.requires.index, c.term.ensures.value, c.requires.variables, c.opposite.ensures, c.literal.ensures)

turned : (b : Bool) → not b ≡ true → b ≡ false
turned true h = sym h
turned false h = refl

pub returns : goal.returns
returns c holds k d =
    let ts = c.args.constraint.now.terms in
    let is : c.opposite.result ≡ opposite (literal_of (get_or ts c.args.index d)) = c.opposite.ensures ∙ ap opposite (c.literal.ensures ∙ ap literal_of (c.term.ensures.value ∙ get_or_default ts c.args.index c.term.result d c.requires.index)) in
    open_outlasts c.args.trail.now.0 (literal_of (get_or ts c.args.index d)) (literal_of (get_or ts k d)) (ap (lists c.args.trail.now.0) (sym is) ∙ sym c.has_propagated.ensures ∙ turned c.has_propagated.result holds)
