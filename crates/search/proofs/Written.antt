-- The steps that presolve tries can be written, since they are over the variables of the file.
use Rattle.std.proofs.Common.{ℕ, pos, ◌<◌, Bool, true, false, [], ◌∷◌, if◌then◌else◌, refl, arith}
use Rattle.std.proofs.lemmas.List.Elements.{All-cons, All-nil}
use Rattle.linear.specs.declared.term.Lit.{Lit}
use Rattle.linear.specs.declared.term.Term.{Term}
use Rattle.presolve.specs.declared.swapping.Swap.{Swap}
use Rattle.substitution.specs.declared.image.Image.TheVariants.{Zero, One}
use Rattle.proof_text.specs.Writable.{IsImageWritable, IsPairWritable, IsStepWritable, IsTermWritable, IsWritable}
use Rattle.search.specs.Presolving.{fixing, swapping, variable}

value_writable : (count : ℕ) (negated : Bool) → IsImageWritable count (if negated then Zero else One)
value_writable count true = tt
value_writable count false = tt

pub fixing_writable : (count : ℕ) (l : Lit) → l.var.0 < count → IsStepWritable count (fixing l)
fixing_writable count l named = (
  record {
    terms = All-cons (IsTermWritable count) (record { coef = pos 1; var = l.var; negated = l.negated }) [] (record { coef = omega arith; named = named }) (All-nil (IsTermWritable count));
    relation = refl;
    right = omega arith;
  },
  All-cons (IsPairWritable count) (l.var, if l.negated then Zero else One) [] (named, value_writable count l.negated) (All-nil (IsPairWritable count)),
)

pub swapping_writable : (count : ℕ) (s : Swap) → s.first.0 < count → s.second.0 < count → IsStepWritable count (swapping s)
swapping_writable count s first second =
    let plain : Term = record { coef = pos 1; var = s.first; negated = false } in
    let negated : Term = record { coef = pos 1; var = s.second; negated = true } in
    let one : IsWritable (pos 1) = omega arith in (
      record {
        terms = All-cons (IsTermWritable count) plain (negated ∷ []) (record { coef = one; named = first })
            (All-cons (IsTermWritable count) negated [] (record { coef = one; named = second }) (All-nil (IsTermWritable count)));
        relation = refl;
        right = one;
      },
      All-cons (IsPairWritable count) (s.first, variable s.second) ((s.second, variable s.first) ∷ []) (first, second)
          (All-cons (IsPairWritable count) (s.second, variable s.first) [] (second, first) (All-nil (IsPairWritable count))),
    )
