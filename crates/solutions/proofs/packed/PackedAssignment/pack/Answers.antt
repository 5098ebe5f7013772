use Rattle.std.proofs.Common.{◌≡◌, ◌++◌, List, Bool, length, min, ap, subst, ◌∙◌, rules}
use Rattle.std.specs.Slice.Iter.{chunks_rest}
use Rattle.solutions.specs.Packed.{packed_values}
use Rattle.solutions.proofs.Packing.{chunk_appended}
use Rattle.solutions.proofs.packed.PackedAssignment.pack.Goals as goal

pub loop-chunk-preserved : goal.loop-chunk-preserved
loop-chunk-preserved c =
    let steps = c.in-Some.ensures.steps in
    let at = c.loop-chunk in
    let all : List Bool = c.as_slice-values.result.now in
    let rest : List Bool = chunks_rest at.chunk-iterator in
    let left : List Bool = chunks_rest c.next.new.self in
    let size = at.invariant.2 in
    let long : length c.in-Some.chunk.now ≡ min 64 (length rest) = subst (λ n. length c.in-Some.chunk.now ≡ min n (length rest)) size steps.1.1 in (
      search rules,
      tt,
      steps.0 ∙ size,
      ap (λ ws. packed_values ws (length all) ++ left) c.in_ok-push.ensures.items
          ∙ chunk_appended all c.in-Some.chunk.now rest left at.words.items c.word_of.result at.invariant.3 steps.1.0 long c.word_of.ensures.values,
    )
