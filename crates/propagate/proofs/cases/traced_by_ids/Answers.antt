-- By what is found under each id, and by the slow search over both constraints.
use Rattle.std.proofs.Common.{◌≡◌, ℕ, true, false, List, [], ◌∷◌, Some, refl, sym, ap, subst, ◌∙◌, arith}
use Rattle.std.proofs.lemmas.Bool.{false≢true}
use Rattle.normal_form.specs.Normal.{NormalConstraint}
use Rattle.propagate.specs.Cases.{x, not_x, one_of_two, two_ids, unit_not}
use Rattle.propagate.specs.Chain.{LeadsToConflict, IsClosure}
use Rattle.propagate.specs.Literals.{coefficient_of}
use Rattle.propagate.specs.Passes.{is_falsified}
use Rattle.propagate.proofs.ChainEnds.{falsified_test, falsified_tested}
use Rattle.propagate.proofs.Consistency.{one_closure}
use Rattle.propagate.proofs.SearchIsRight.{closure_met, conflict_met, no_conflict_met, test_forced}
use Rattle.propagate.proofs.SmallContent.{found, values_are}
use Rattle.propagate.proofs.cases.traced_by_ids.Goals as goal

abbrev both : List NormalConstraint
both = one_of_two ∷ unit_not 2 ∷ []

same : (k : ℕ) (n m : NormalConstraint) → Rattle.std.specs.FinMap.get two_ids k ≡ Some n → Rattle.std.specs.FinMap.get two_ids k ≡ Some m → n ≡ m
same k n m first second = by (sym first ∙ second)
  where
    by : Some n ≡ Some m → n ≡ m
    by e = cc

pub returns-clause-end : goal.returns-clause-end
returns-clause-end c = record {
  chain = ((unit_not 2, found 5, test_forced (x 1 ∷ []) (unit_not 2) (not_x 2) refl), tt);
  end = record {
    no_conflict = λ leads. no_conflict_met 3 both (x 1 ∷ []) (x 1 ∷ not_x 2 ∷ []) refl (subst (λ ns. LeadsToConflict ns (x 1 ∷ [])) values_are leads);
    closure = subst (λ ns. IsClosure ns (x 1 ∷ []) (x 1 ∷ not_x 2 ∷ [])) (sym values_are) (closure_met 3 both (x 1 ∷ []) (x 1 ∷ not_x 2 ∷ []) refl);
  };
}

pub returns-clause-conflict : goal.returns-clause-conflict
returns-clause-conflict c = record {
  chain = ((one_of_two, found 2, test_forced (not_x 1 ∷ []) one_of_two (x 2) refl), tt);
  end = (unit_not 2, found 5, falsified_test (not_x 1 ∷ x 2 ∷ []) (unit_not 2) refl);
}

pub returns-clause-other_conflict : goal.returns-clause-other_conflict
returns-clause-other_conflict c = record {
  chain = ((unit_not 2, found 5, test_forced (not_x 1 ∷ []) (unit_not 2) (not_x 2) refl), tt);
  end = (one_of_two, found 2, falsified_test (not_x 1 ∷ not_x 2 ∷ []) one_of_two refl);
}

pub returns-clause-too_early : goal.returns-clause-too_early
returns-clause-too_early c t =
    let early : IsClosure both (x 1 ∷ []) (x 1 ∷ []) = subst (λ ns. IsClosure ns (x 1 ∷ []) (x 1 ∷ [])) values_are t.end.closure in
    let whole : IsClosure both (x 1 ∷ []) (x 1 ∷ not_x 2 ∷ []) = closure_met 3 both (x 1 ∷ []) (x 1 ∷ not_x 2 ∷ []) refl in
    false≢true (one_closure both (x 1 ∷ []) (x 1 ∷ []) (x 1 ∷ not_x 2 ∷ []) early whole (not_x 2))

pub returns-clause-other_reason : goal.returns-clause-other_reason
returns-clause-other_reason c t =
    let forced = t.chain.0 in
    let none : coefficient_of forced.0 (x 2) ≡ 0 = ap (λ n. coefficient_of n (x 2)) (same 5 forced.0 (unit_not 2) forced.1 (found 5)) in
    omega (arith, none, forced.2.occurs)

pub returns-clause-not_falsified : goal.returns-clause-not_falsified
returns-clause-not_falsified c t =
    let n = t.end.0 in
    let met : is_falsified (x 1 ∷ not_x 2 ∷ []) n ≡ false = ap (is_falsified (x 1 ∷ not_x 2 ∷ [])) (same 2 n one_of_two t.end.1 (found 2)) in
    false≢true (sym met ∙ falsified_tested (x 1 ∷ not_x 2 ∷ []) n t.end.2)

pub returns-clause-conflict_left_out : goal.returns-clause-conflict_left_out
returns-clause-conflict_left_out c t =
    t.end.no_conflict (subst (λ ns. LeadsToConflict ns (not_x 1 ∷ [])) (sym values_are) (conflict_met 3 both (not_x 1 ∷ []) refl))
