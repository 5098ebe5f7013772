-- A `del` step is legal or has a fault.
use Rattle.std.proofs.Common.{◌≡◌, ◌⊎◌, inl, inr, ℤ, List, [], ◌∷◌, Option, Some, None, IsSome, is_some, refl, ap}
use Rattle.normal_form.specs.Normal.{NormalConstraint}
use Rattle.proof_rules.specs.declared.fault.StepFault.{StepFault}
use Rattle.proof_rules.specs.declared.fault.StepFault.TheVariants as faults
use Rattle.proof_rules.specs.Fault.{IsDelFault}
use Rattle.proof_rules.specs.Legal.{LegalDel, without}
use Rattle.proof_rules.specs.State.{State, constraint_of, id_of}
use Rattle.proof_rules.proofs.Deciding.{Judged}

live_or_dead : (o found : Option NormalConstraint) → o ≡ found → IsSome o ⊎ (o ≡ None)
live_or_dead o None is = inr is
live_or_dead o (Some n) is = inl (ap is_some is)

-- a live id stands before the rest
more_ids : (s : State) (id : ℤ) (ids : List ℤ) (f : StepFault) → IsSome (constraint_of s id)
    → IsDelFault (without (id_of s.next id) s) ids f → IsDelFault s (id ∷ ids) f
more_ids s id ids faults.DeadId live (before, i, behind, between, is, legal, dead) =
    (id ∷ before, i, behind, between, ap (λ xs. id ∷ xs) is, (live, legal), dead)
more_ids s id ids _ live h = absurd h

behind_live : (s : State) (id : ℤ) (ids : List ℤ) → IsSome (constraint_of s id)
    → Judged (LegalDel (without (id_of s.next id) s) ids) (IsDelFault (without (id_of s.next id) s) ids)
    → Judged (LegalDel s (id ∷ ids)) (IsDelFault s (id ∷ ids))
behind_live s id ids live (inl (t, legal)) = inl (t, (live, legal))
behind_live s id ids live (inr (f, h)) = inr (f, more_ids s id ids f live h)

first_id : (s : State) (id : ℤ) (ids : List ℤ) → IsSome (constraint_of s id) ⊎ (constraint_of s id ≡ None)
    → Judged (LegalDel (without (id_of s.next id) s) ids) (IsDelFault (without (id_of s.next id) s) ids)
    → Judged (LegalDel s (id ∷ ids)) (IsDelFault s (id ∷ ids))
first_id s id ids (inl live) rest = behind_live s id ids live rest
first_id s id ids (inr dead) rest = inr (faults.DeadId, ([], id, ids, s, refl, refl, dead))

pub del_judged : (s : State) (ids : List ℤ) → Judged (LegalDel s ids) (IsDelFault s ids)
del_judged s [] = inl (s, refl)
del_judged s (id ∷ ids) =
    first_id s id ids (live_or_dead (constraint_of s id) (constraint_of s id) refl) (del_judged (without (id_of s.next id) s) ids)
