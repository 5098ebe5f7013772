use Rattle.std.proofs.Common.{◌≡◌, inl, [], ◌∷◌, None, refl}
use Rattle.proof_rules.specs.Cases.{cover_file, both, cover_state}
use Rattle.proof_rules.proofs.SmallStates.{alone_is_best, first_leaves_open}
use Rattle.proof_rules.proofs.conclusion_cases.logged_solution_satisfies.Goals as goal

logged : both ∷ [] ≡ [] → ⊥
logged none = absurd (cc)

pub returns-clause-logged : goal.returns-clause-logged
returns-clause-logged c = (refl, (cover_state None (both ∷ []), refl, logged, alone_is_best cover_file both))

pub returns-clause-hint_judged : goal.returns-clause-hint_judged
returns-clause-hint_judged c = (refl, inl first_leaves_open)
