-- What completes an assignment, and why nothing does.
use Rattle.std.proofs.Common.{◌≡◌, ℕ, ◌<◌, inl, inr, Bool, List, length, refl, sym, subst}
use Rattle.linear.specs.declared.term.Lit.{Lit}
use Rattle.linear.specs.Opb.{Opb}
use Rattle.normal_form.specs.Normal.{NormalConstraint}
use Rattle.propagate.specs.Chain.{IsImpossible}
use Rattle.propagate.specs.Literals.{IsConsistent}
use Rattle.propagate.specs.Reach.{IsReach}
use Rattle.propagate.specs.declared.reach.Reach.{Reach}
use Rattle.propagate.specs.declared.reach.Reach.TheVariants as reaches
use Rattle.proof_rules.specs.declared.fault.StepFault.TheVariants as faults
use Rattle.proof_rules.specs.Fault.{IsSolFault}
use Rattle.proof_rules.specs.Solution.{literal_for, NamesAll, value_at, Completes}
use Rattle.proof_rules.specs.State.{State, constraints}
use Rattle.solutions.specs.Table.{GivesAll, LeavesOut}

pub unnamed : (count : ℕ) (assigned : List Lit) → LeavesOut count assigned → NamesAll count assigned → ⊥
unnamed count assigned (v, below, none) all = let h = all v below in none h.0 h.1

-- where an assignment does not extend to another one it is impossible
pub not_closed : (live : List NormalConstraint) (assigned : List Lit) (r : Reach) → ((closed : List Lit) → r ≡ reaches.Closed closed → ⊥) → IsReach live assigned r → IsImpossible live assigned
not_closed live assigned reaches.Conflict h is = is
not_closed live assigned (reaches.Closed closed) h is = absurd (h closed refl)

-- an assignment of all variables is its own completion
pub said_whole : (live : List NormalConstraint) (count : ℕ) (assigned : List Lit) (g : List Bool) → IsConsistent assigned → GivesAll count assigned g → Completes live count assigned g
said_whole live count assigned g consistent (long, says) = record {
  consistent = consistent;
  long = long;
  completed = inl (λ v below. (value_at g v, says v (subst (λ n. v < n) (sym long) below)), says);
}

-- another one is completed by what it reaches
pub reached_whole : (live : List NormalConstraint) (count : ℕ) (assigned closed : List Lit) (g : List Bool) → IsConsistent assigned → LeavesOut count assigned
    → IsReach live assigned (reaches.Closed closed) → GivesAll count closed g → Completes live count assigned g
reached_whole live count assigned closed g consistent out reach (long, says) = record {
  consistent = consistent;
  long = long;
  completed = inr (unnamed count assigned out, λ leads. reach.0 (inr leads), λ v below. (reach.1 (literal_for v (value_at g v))).0 (says v below));
}

pub conflicts : (p : Opb) (s : State) (assigned : List Lit) → IsConsistent assigned → LeavesOut (length p.names) assigned → IsImpossible (constraints s) assigned
    → IsSolFault p s assigned faults.SolutionConflict
conflicts p s assigned consistent out (inl contradicts) = absurd (consistent contradicts)
conflicts p s assigned consistent out (inr leads) = inr (consistent, unnamed (length p.names) assigned out, leads)

pub leaves_partial : (p : Opb) (s : State) (assigned closed : List Lit) → IsConsistent assigned → IsReach (constraints s) assigned (reaches.Closed closed)
    → LeavesOut (length p.names) closed → IsSolFault p s assigned faults.SolutionPartial
leaves_partial p s assigned closed consistent reach (v, below, none) =
    (consistent, λ leads. reach.0 (inr leads), (v, below, λ value reached. none value ((reach.1 (literal_for v value)).1 reached)))
