-- A `sol` or `soli` step is legal or has a fault.
use Rattle.std.proofs.Common.{◌≡◌, ◌≢◌, ◌⊎◌, inl, inr, ℤ, pos, ◌-ℤ◌, ◌<ℤ◌, Bool, List, Option, Some, None, IfSome, length, refl, sym, subst, ◌∙◌}
use Rattle.linear.specs.declared.constraint.Relation.{Relation}
use Rattle.linear.specs.declared.constraint.Relation.TheVariants.{AtLeast, Equal}
use Rattle.linear.specs.declared.term.Lit.{Lit}
use Rattle.linear.specs.declared.term.Term.{Term}
use Rattle.linear.specs.Opb.{Opb, Satisfies}
use Rattle.linear.specs.Sum.{sum_of, Relates, Meets}
use Rattle.linear.specs.Valuation.{Valuation, valuation_of}
use Rattle.normal_form.proofs.NormalForm.{form, form_is}
use Rattle.proof_rules.specs.declared.fault.StepFault.{StepFault}
use Rattle.proof_rules.specs.declared.fault.StepFault.TheVariants as faults
use Rattle.proof_rules.specs.Fault.{IsSolFault, IsNotBetter, IsSoliFault}
use Rattle.proof_rules.specs.Legal.{Logs, with_solution, LegalSol, worth_of, with_improvement, LegalSoli}
use Rattle.proof_rules.specs.Solution.{Completes, at_most}
use Rattle.proof_rules.specs.State.{State, constraints, HasRoom}
use Rattle.proof_rules.proofs.Completing.{Completion, completion_judged, one_completion}
use Rattle.proof_rules.proofs.Deciding.{Decided, Judged, less_or_not, int_le_decided, int_eq_decided, all_decided}
use Rattle.proof_rules.proofs.ShownOrNot.{room_decided}

relates_decided : (r : Relation) (sum right : ℤ) → Decided (Relates r sum right)
relates_decided AtLeast sum right = int_le_decided right sum
relates_decided Equal sum right = int_eq_decided sum right

satisfies_decided : (a : Valuation) (p : Opb) → Decided (Satisfies a p)
satisfies_decided a p = all_decided (Meets a) (λ c. relates_decided c.relation (sum_of a c.terms) c.right) p.constraints

-- an assignment that is logged, or a fault
abbrev pub LogJudged : Opb → State → List Lit → Type 0
LogJudged p s assigned = ((g : List Bool) × Logs p s assigned g) ⊎ ((f : StepFault) × IsSolFault p s assigned f)

true_or_false : (p : Opb) (s : State) (assigned : List Lit) (g : List Bool) → Completes (constraints s) (length p.names) assigned g → Decided (Satisfies (valuation_of g) p) → LogJudged p s assigned
true_or_false p s assigned g c (inl satisfies) = inl (g, record { completes = c; satisfies = satisfies })
true_or_false p s assigned g c (inr not) =
    inr (faults.SolutionFalse, ((g, c), λ h d satisfies. not (subst (λ b. Satisfies (valuation_of b) p) (one_completion (constraints s) (length p.names) assigned h g d c) satisfies)))

from_completion : (p : Opb) (s : State) (assigned : List Lit) → Completion p s assigned → LogJudged p s assigned
from_completion p s assigned (inl (g, c)) = true_or_false p s assigned g c (satisfies_decided (valuation_of g) p)
from_completion p s assigned (inr fault) = inr fault

pub log_judged : (p : Opb) (s : State) (assigned : List Lit) → LogJudged p s assigned
log_judged p s assigned = from_completion p s assigned (completion_judged p s assigned)

pub one_log : (p : Opb) (s : State) (assigned : List Lit) (g h : List Bool) → Logs p s assigned g → Logs p s assigned h → g ≡ h
one_log p s assigned g h c d = one_completion (constraints s) (length p.names) assigned g h c.completes d.completes

sol_from : (p : Opb) (s : State) (assigned : List Lit) → LogJudged p s assigned → Judged (LegalSol p s assigned) (IsSolFault p s assigned)
sol_from p s assigned (inl (g, logs)) = inl (with_solution g s, (g, logs, refl))
sol_from p s assigned (inr fault) = inr fault

pub sol_judged : (p : Opb) (s : State) (assigned : List Lit) → Judged (LegalSol p s assigned) (IsSolFault p s assigned)
sol_judged p s assigned = sol_from p s assigned (log_judged p s assigned)

-- better than the least value so far, or not
better_or_not : (p : Opb) (s : State) (g : List Bool) (o : Option ℤ) → s.least ≡ o → IfSome s.least (λ least. worth_of p g <ℤ least) ⊎ IsNotBetter p s g
better_or_not p s g None is = inl (subst (λ o. IfSome o (λ least. worth_of p g <ℤ least)) (sym is) tt)
better_or_not p s g (Some least) is = elim (less_or_not (worth_of p g) least) as (λ _. IfSome s.least (λ least. worth_of p g <ℤ least) ⊎ IsNotBetter p s g) [
  | inl less ↦ inl (subst (λ o. IfSome o (λ least. worth_of p g <ℤ least)) (sym is) less)
  | inr not ↦ inr (least, is, not)
]

is_there : (p : Opb) (objective : List Term) → p.objective ≡ Some objective → p.objective ≢ None
is_there p objective is none = let same : None ≡ Some objective = sym none ∙ is in absurd (cc)

abbrev SoliJudged : Opb → State → List Lit → Type 0
SoliJudged p s assigned = Judged (LegalSoli p s assigned) (IsSoliFault p s assigned)

room_or_full : (p : Opb) (s : State) (objective : List Term) (assigned : List Lit) (g : List Bool) → p.objective ≡ Some objective → Logs p s assigned g
    → IfSome s.least (λ least. worth_of p g <ℤ least) → Decided (HasRoom s) → SoliJudged p s assigned
room_or_full p s objective assigned g is logs better (inl room) =
    let c = at_most objective (worth_of p g -ℤ pos 1) in
    inl (
      with_improvement p g (form c) s,
      (objective, g, form c, record { minimises = is; logs = logs; better = better; form = form_is c; room = room }, refl),
    )
room_or_full p s objective assigned g is logs better (inr full) = inr (faults.TooManyIds, (is_there p objective is, (g, logs, better), full))

logged_better : (p : Opb) (s : State) (objective : List Term) (assigned : List Lit) (g : List Bool) → p.objective ≡ Some objective → Logs p s assigned g
    → IfSome s.least (λ least. worth_of p g <ℤ least) ⊎ IsNotBetter p s g → SoliJudged p s assigned
logged_better p s objective assigned g is logs (inl better) = room_or_full p s objective assigned g is logs better (room_decided s)
logged_better p s objective assigned g is logs (inr not) =
    inr (faults.NotImproving, (is_there p objective is, (g, logs), λ h also. subst (IsNotBetter p s) (one_log p s assigned g h logs also) not))

-- a fault of the solution is one of the improving solution
soli_fault : (p : Opb) (s : State) (assigned : List Lit) (f : StepFault) → p.objective ≢ None → IsSolFault p s assigned f → IsSoliFault p s assigned f
soli_fault p s assigned faults.NoObjective some h = absurd h
soli_fault p s assigned faults.NotImproving some h = absurd h
soli_fault p s assigned faults.TooManyIds some h = absurd h
soli_fault p s assigned _ some h = (some, h)

soli_from : (p : Opb) (s : State) (objective : List Term) (assigned : List Lit) → p.objective ≡ Some objective → LogJudged p s assigned → SoliJudged p s assigned
soli_from p s objective assigned is (inl (g, logs)) = logged_better p s objective assigned g is logs (better_or_not p s g s.least refl)
soli_from p s objective assigned is (inr (f, h)) = inr (f, soli_fault p s assigned f (is_there p objective is) h)

with_objective : (p : Opb) (s : State) (assigned : List Lit) (o : Option (List Term)) → p.objective ≡ o → SoliJudged p s assigned
with_objective p s assigned None is = inr (faults.NoObjective, is)
with_objective p s assigned (Some objective) is = soli_from p s objective assigned is (log_judged p s assigned)

pub soli_judged : (p : Opb) (s : State) (assigned : List Lit) → Judged (LegalSoli p s assigned) (IsSoliFault p s assigned)
soli_judged p s assigned = with_objective p s assigned p.objective refl
