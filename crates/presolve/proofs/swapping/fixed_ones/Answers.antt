use Rattle.std.proofs.Common.{rules, ◌≡◌, ◌+◌, List, Bool, [], false, length, take, sym, ap, subst, ◌∙◌}
use Rattle.linear.specs.declared.term.Lit.{Lit}
use Rattle.presolve.specs.Pairs.{AreTaken}
use Rattle.presolve.proofs.Pairing.{fixed_more}
use Rattle.presolve.proofs.Places.{written_back}
use Rattle.presolve.proofs.swapping.fixed_ones.Goals as goal

none : Lit
none = record { var = record { 0 = 0 }; negated = false }

pub loop-literal-preserved : goal.loop-literal-preserved
unfolding none
loop-literal-preserved c =
    let i = c.loop-literal.literal-index in
    let lent : List Bool = c.as_mut_slice.result.now in
    let old : List Bool = c.loop-literal.taken.items in
    let new : List Bool = c.take.new.taken in
    let long : length new ≡ length lent = c.take.auto.taken in
    let same : lent ≡ old = c.as_mut_slice.ensures.value in
    let kept : length new ≡ length old = long ∙ ap length same in
    let back = written_back new old c.loop-literal.taken.len (search rules) in
    subst (λ (xs : List Bool). (length xs ≡ c.args.count) × AreTaken (take (i + 1) c.args.fixed.now) [] xs) (sym back) (
      kept ∙ c.loop-literal.invariant.0,
      fixed_more c.args.fixed.now i none lent new c.loop-literal-test.true long (subst (AreTaken (take i c.args.fixed.now) []) (sym same) c.loop-literal.invariant.1) c.take.ensures,
    )
