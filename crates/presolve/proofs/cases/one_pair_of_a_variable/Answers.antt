use Rattle.std.proofs.Common.{inl, inr, zero, suc, true, ◌∷◌, [], Contains, ap, refl, arith}
use Rattle.presolve.specs.Cases.{literal, pair}
use Rattle.presolve.specs.Swapping.{IsEarlier}
use Rattle.presolve.specs.declared.swapping.Swap.{Swap}
use Rattle.presolve.proofs.Alike.{alike_symmetric}
use Rattle.presolve.proofs.cases.one_pair_of_a_variable.Goals as goal

there : Contains (pair 0 1 ∷ []) (pair 0 1)
there = (0, omega arith, refl)

pub returns-clause-used : goal.returns-clause-used
returns-clause-used c = record {
  swappable = record { order = omega arith; variable = omega arith; constraints = alike_symmetric; objective = tt };
  tried = omega arith;
  unfixed = λ i d h. absurd (omega (arith, h));
  apart = λ t k e. absurd (by t k e);
}
  where
    by : (t : Swap) → Contains (pair 0 1 ∷ []) t → IsEarlier t (pair 0 1) → ⊥
    by t (zero, within, same) (inl h) = omega (arith, h, ap (λ (s : Swap). s.first.0) same)
    by t (zero, within, same) (inr h) = omega (arith, h.1, ap (λ (s : Swap). s.second.0) same)
    by t (suc i, within, same) e = omega (arith, within)

pub returns-clause-second : goal.returns-clause-second
returns-clause-second c u = (u.apart (pair 0 1) there (inr (refl, omega arith))).0.0 refl

pub returns-clause-third : goal.returns-clause-third
returns-clause-third c u = (u.apart (pair 0 1) there (inl (omega arith))).0.1 refl

pub returns-clause-fixed : goal.returns-clause-fixed
returns-clause-fixed c u = (u.unfixed 0 (literal 1 true) (omega arith)).1 refl
