use Rattle.std.proofs.Common.{◌≡◌, ℕ, ◌<◌, ◌≤◌, Bool, true, false, inl, refl, arith}
use Rattle.std.specs.Prelude.{nat_lt}
use Rattle.std.proofs.lemmas.Bool.Decides.{nat_tests}
use Rattle.normal_form.specs.Normal.{largest_sum}
use Rattle.normal_form.specs.NormalOf.{size_sum}
use Rattle.normal_form.proofs.conversion.Normalizer.normalize_fitting.Goals as goal

no_more : (a b : ℕ) → (b < a → ⊥) → a ≤ b
no_more a b h = by (nat_lt b a) refl
  where
    by : (t : Bool) → nat_lt b a ≡ t → a ≤ b
    by true e = let more : b < a = grind (arith, nat_tests) in absurd (h more)
    by false e = grind (arith, nat_tests)

pub merged_form-requires-clause-sizes : goal.merged_form-requires-clause-sizes
merged_form-requires-clause-sizes c = no_more (size_sum c.args.constraint.now.terms) largest_sum (λ h. c.requires.fits (inl h))
