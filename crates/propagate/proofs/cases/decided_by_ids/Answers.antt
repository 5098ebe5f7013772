-- By the slow search over both constraints.
use Rattle.std.proofs.Common.{List, [], ◌∷◌, None, refl, sym, subst}
use Rattle.std.proofs.lemmas.Bool.{false≢true}
use Rattle.linear.specs.declared.term.Lit.{Lit}
use Rattle.normal_form.specs.Normal.{NormalConstraint}
use Rattle.propagate.specs.Cases.{x, not_x, decision, one_of_two, two_ids, unit_not}
use Rattle.propagate.specs.Chain.{LeadsToConflict, IsClosure}
use Rattle.propagate.specs.Content.{IsEnd, IsTrace}
use Rattle.propagate.specs.Literals.{IsConsistent}
use Rattle.propagate.proofs.Consistency.{push_consistent}
use Rattle.propagate.proofs.LastTraced.{end_of_last, whole_last}
use Rattle.propagate.proofs.SearchIsRight.{closure_met, conflict_met, no_conflict_met, test_forced}
use Rattle.propagate.proofs.SmallContent.{found, values_are}
use Rattle.propagate.proofs.cases.decided_by_ids.Goals as goal

abbrev both : List NormalConstraint
both = one_of_two ∷ unit_not 2 ∷ []

alone : (l : Lit) → IsConsistent (l ∷ [])
alone l = push_consistent [] l (λ m. false≢true m.1) refl

-- where a search over both comes to its end
ends : (given closed : List Lit) → (LeadsToConflict both given → ⊥) → IsClosure both given closed → IsEnd two_ids given closed
ends given closed none closure = record {
  no_conflict = λ leads. none (subst (λ (ns : List NormalConstraint). LeadsToConflict ns given) values_are leads);
  closure = subst (λ (ns : List NormalConstraint). IsClosure ns given closed) (sym values_are) closure;
}

pub returns-clause-told : goal.returns-clause-told
returns-clause-told c =
    let t : IsTrace two_ids (x 1 ∷ []) (decision (x 1) ((not_x 2, 5) ∷ []) None).trace = record {
      chain = ((unit_not 2, found 5, test_forced (x 1 ∷ []) (unit_not 2) (not_x 2) refl), tt);
      end = ends (x 1 ∷ []) (x 1 ∷ not_x 2 ∷ []) (no_conflict_met 3 both (x 1 ∷ []) (x 1 ∷ not_x 2 ∷ []) refl) (closure_met 3 both (x 1 ∷ []) (x 1 ∷ not_x 2 ∷ []) refl);
    } in (alone (x 1), whole_last two_ids [] (x 1 ∷ []) (x 1) (decision (x 1) ((not_x 2, 5) ∷ []) None).trace refl t, tt)

pub returns-clause-left_out : goal.returns-clause-left_out
returns-clause-left_out c =
    let given : List Lit = not_x 2 ∷ x 1 ∷ [] in (
      alone (x 1),
      record {
        left_out = (not_x 2, 5) ∷ [];
        chain = ((unit_not 2, found 5, test_forced [] (unit_not 2) (not_x 2) refl), tt);
        trace = record {
          chain = tt;
          end = ends given given (no_conflict_met 3 both given given refl) (closure_met 3 both given given refl);
        };
      },
      tt,
    )

pub returns-clause-beside_opposite : goal.returns-clause-beside_opposite
returns-clause-beside_opposite c forced d = d.0 (x 1, refl, refl)

pub returns-clause-conflict_left_out : goal.returns-clause-conflict_left_out
returns-clause-conflict_left_out c d =
    let closed : List Lit = not_x 2 ∷ x 1 ∷ [] in
    let below : IsEnd two_ids [] closed = ends [] closed (no_conflict_met 3 both [] closed refl) (closure_met 3 both [] closed refl) in
    (end_of_last two_ids [] closed (not_x 1) (decision (not_x 1) [] None).trace below d.1 refl).no_conflict
    (subst (λ (ns : List NormalConstraint). LeadsToConflict ns (not_x 1 ∷ [])) (sym values_are) (conflict_met 3 both (not_x 1 ∷ []) refl))
