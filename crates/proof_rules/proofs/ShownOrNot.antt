-- Whether a constraint is shown, or admitted, is decided: the normal form and the negation are there, and are the only ones.
use Rattle.std.proofs.Common.{◌≡◌, ◌+◌, ◌⊎◌, inl, inr, List, [], ◌∷◌, ◌++◌, Any, refl, subst}
use Rattle.linear.specs.declared.constraint.Relation.{Relation}
use Rattle.linear.specs.declared.constraint.Relation.TheVariants.{AtLeast, Equal}
use Rattle.linear.specs.declared.constraint.Signed.{Signed}
use Rattle.linear.specs.declared.term.Term.{Term}
use Rattle.normal_form.specs.Normal.{NormalConstraint, Fits, Rises, total, largest_sum, largest_sum}
use Rattle.normal_form.specs.NormalOf.{IsNormalOf, size_sum}
use Rattle.normal_form.specs.Negation.{IsNegation}
use Rattle.normal_form.proofs.NormalForm.{form, form_is, one_form}
use Rattle.normal_form.proofs.Negations.{negation, negation_is, one_negation}
use Rattle.propagate.specs.Chain.{IsRefuted}
use Rattle.propagate.proofs.SearchEnds.{one_outcome}
use Rattle.substitution.specs.Covering.{Covers, excess}
use Rattle.substitution.specs.Images.{Images}
use Rattle.substitution.specs.Under.{substituted}
use Rattle.substitution.specs.Objective.{not_raised}
use Rattle.proof_rules.specs.declared.fault.StepFault.{StepFault}
use Rattle.proof_rules.specs.declared.fault.StepFault.TheVariants as faults
use Rattle.proof_rules.specs.Fault.{IsAdmissionFault}
use Rattle.proof_rules.specs.Redundant.{IsShownUnder, IsShownNotRaised}
use Rattle.proof_rules.specs.Shown.{IsShown, IsAdmitted}
use Rattle.proof_rules.specs.State.{State, HasRoom}
use Rattle.proof_rules.proofs.Deciding.{Decided, both_decided, either_decided, decided_as, le_decided, lt_decided, any_decided}

abbrev ByNegation : List NormalConstraint → NormalConstraint → Type 0
ByNegation live n = (m : NormalConstraint) × IsNegation n m × IsRefuted (live ++ m ∷ [])

negation_decided : (live : List NormalConstraint) (n : NormalConstraint) → Rises 0 n.terms → Decided (ByNegation live n)
negation_decided live n rises = elim (one_outcome (live ++ negation n ∷ []) []) as (λ _. Decided (ByNegation live n)) [
  | inl refuted ↦ inl (negation n, negation_is n rises, refuted)
  | inr closed ↦ inr (λ h. closed.2 (subst (λ m. IsRefuted (live ++ m ∷ [])) (one_negation n h.0 (negation n) rises h.1 (negation_is n rises)) h.2))
]

pub shown_decided : (live : List NormalConstraint) (n : NormalConstraint) → Rises 0 n.terms → Decided (IsShown live n)
shown_decided live n rises =
    either_decided (Any (λ e. Covers e n) live) (ByNegation live n)
    (any_decided (λ e. Covers e n) (λ e. le_decided (n.degree + excess e n) e.degree) live)
    (negation_decided live n rises)

-- what has one normal form is shown or not
form_decided : (from : List NormalConstraint) (c : Signed) → Decided ((r : NormalConstraint) × IsNormalOf c r × IsShown from r)
form_decided from c =
    decided_as (IsShown from (form c)) ((r : NormalConstraint) × IsNormalOf c r × IsShown from r)
    (λ shown. (form c, form_is c, shown)) (λ h. subst (IsShown from) (one_form c h.0 (form c) h.1 (form_is c)) h.2)
    (shown_decided from (form c) (form_is c).rises)

pub under_decided : (from : List NormalConstraint) (images : Images) (n : NormalConstraint) → Decided (IsShownUnder from images n)
under_decided from images n = form_decided from (substituted n images)

pub not_raised_decided : (from : List NormalConstraint) (images : Images) (objective : List Term) → Decided (IsShownNotRaised from images objective)
not_raised_decided from images objective = form_decided from (not_raised objective images)

pub fits_decided : (n : NormalConstraint) → Decided (Fits n)
fits_decided n =
    decided_as _ (Fits n) (λ h. record { sum = h.0; degree = h.1 }) (λ f. (f.sum, f.degree))
    (both_decided _ _ (le_decided (total n.terms) largest_sum) (le_decided n.degree largest_sum))

relation_decided : (r : Relation) → Decided (r ≡ AtLeast)
relation_decided AtLeast = inl refl
relation_decided Equal = inr (λ h. absurd (cc))

admitted_from : (c : Signed) → Decided (c.relation ≡ AtLeast) → Decided (Fits (form c)) → Decided ((n : NormalConstraint) × IsAdmitted c n)
admitted_from c (inr fails) fits = inr (λ h. fails h.1.relation)
admitted_from c (inl least) (inr fails) = inr (λ h. fails (subst Fits (one_form c h.0 (form c) h.1.form (form_is c)) h.1.fits))
admitted_from c (inl least) (inl fits) = elim (le_decided (size_sum c.terms) largest_sum) as (λ _. Decided ((n : NormalConstraint) × IsAdmitted c n)) [
  | inl sizes ↦ inl (form c, record { relation = least; sizes = sizes; form = form_is c; fits = fits })
  | inr fails ↦ inr (λ h. fails h.1.sizes)
]

pub admitted_decided : (c : Signed) → Decided ((n : NormalConstraint) × IsAdmitted c n)
admitted_decided c = admitted_from c (relation_decided c.relation) (fits_decided (form c))

pub room_decided : (s : State) → Decided (HasRoom s)
room_decided s = lt_decided s.next _

-- a written constraint is admitted under an id that is left, or has a fault
abbrev pub Admission : State → Signed → Type 0
Admission s c = ((n : NormalConstraint) × IsAdmitted c n × HasRoom s) ⊎ ((f : StepFault) × IsAdmissionFault s c f)

admission_from : (s : State) (c : Signed) → Decided ((n : NormalConstraint) × IsAdmitted c n) → Decided (HasRoom s) → Admission s c
admission_from s c (inl admitted) (inl room) = inl (admitted.0, admitted.1, room)
admission_from s c (inl admitted) (inr full) = inr (faults.TooManyIds, (admitted, full))
admission_from s c (inr none) d = inr (faults.TooLarge, λ n admitted. none (n, admitted))

pub admission_judged : (s : State) (c : Signed) → Admission s c
admission_judged s c = admission_from s c (admitted_decided c) (room_decided s)
