-- In the worked cases: the slow search decides whether a constraint is shown.
use Rattle.std.proofs.Common.{◌≡◌, ℕ, ◌+◌, ◌-◌, inl, inr, Bool, true, false, List, [], ◌∷◌, ◌++◌, nat_le, subst, arith}
use Rattle.std.specs.List.{list_any}
use Rattle.std.proofs.lemmas.Bool.Decides.{nat_tests}
use Rattle.linear.specs.declared.term.Lit.{Lit}
use Rattle.normal_form.specs.Normal.{NormalConstraint, Rises, total}
use Rattle.normal_form.specs.Balance.{flipped}
use Rattle.normal_form.specs.Negation.{IsNegation}
use Rattle.normal_form.proofs.Negations.{negation_from, one_negation}
use Rattle.propagate.specs.Chain.{IsRefuted}
use Rattle.propagate.specs.Passes.{outcome, Conflict, Fixpoint}
use Rattle.propagate.proofs.SearchIsRight.{conflict_met, no_conflict_met}
use Rattle.propagate.proofs.AnyOf.{none_from_test}
use Rattle.linear.specs.declared.term.Term.{Term}
use Rattle.normal_form.proofs.NormalForm.{one_form}
use Rattle.substitution.specs.Covering.{Covers, excess}
use Rattle.substitution.specs.Images.{Images}
use Rattle.substitution.specs.Objective.{not_raised, IsObjectiveGoal}
use Rattle.substitution.specs.Under.{substituted, IsUnder}
use Rattle.proof_rules.specs.Redundant.{IsShownUnder, IsShownNotRaised}
use Rattle.proof_rules.specs.Shown.{IsShown}

-- whether a constraint covers another
abbrev pub covering : NormalConstraint → NormalConstraint → Bool
covering n e = nat_le (n.degree + excess e n) e.degree

covering_told : (n e : NormalConstraint) → Covers e n → covering n e ≡ true
covering_told n e h = grind (arith, nat_tests)

-- a negation, its literals turned and its degree counted
pub record Turned (n m : NormalConstraint) : Type 0 where
  pub rises : Rises 0 n.terms
  pub terms : m.terms ≡ flipped n.terms
  pub degree : m.degree ≡ (total n.terms + 1) - n.degree

turned : (n m : NormalConstraint) → Turned n m → IsNegation n m
turned n m t = negation_from n m t.rises t.terms t.degree

pub shown_by_search : (steps : ℕ) (live : List NormalConstraint) (n m : NormalConstraint) → Turned n m → outcome steps (live ++ m ∷ []) [] ≡ Conflict → IsShown live n
shown_by_search steps live n m t found = inr (m, turned n m t, conflict_met steps (live ++ m ∷ []) [] found)

pub not_shown : (steps : ℕ) (live : List NormalConstraint) (n m : NormalConstraint) (closed : List Lit) → Turned n m
    → outcome steps (live ++ m ∷ []) [] ≡ Fixpoint closed → list_any (covering n) live ≡ false → IsShown live n → ⊥
not_shown steps live n m closed t fixpoint uncovered (inl covered) =
    none_from_test (λ e. Covers e n) (covering n) (covering_told n) live uncovered covered
not_shown steps live n m closed t fixpoint uncovered (inr (j, negated, refuted)) =
    let same : j ≡ m = one_negation n j m t.rises negated (turned n m t) in
    no_conflict_met steps (live ++ m ∷ []) [] closed fixpoint (subst (λ k. IsRefuted (live ++ k ∷ [])) same refuted)

-- a constraint becomes one under a substitution that is not shown
pub not_shown_under : (steps : ℕ) (from : List NormalConstraint) (images : Images) (n r m : NormalConstraint) (closed : List Lit) → IsUnder n images r → Turned r m
    → outcome steps (from ++ m ∷ []) [] ≡ Fixpoint closed → list_any (covering r) from ≡ false → IsShownUnder from images n → ⊥
not_shown_under steps from images n r m closed under t fixpoint uncovered (k, form, shown) =
    let same : k ≡ r = one_form (substituted n images) k r form under in
    not_shown steps from r m closed t fixpoint uncovered (subst (IsShown from) same shown)

-- that an objective does not rise is a constraint that is not shown
pub not_shown_kept : (steps : ℕ) (from : List NormalConstraint) (images : Images) (objective : List Term) (r m : NormalConstraint) (closed : List Lit)
    → IsObjectiveGoal objective images r → Turned r m → outcome steps (from ++ m ∷ []) [] ≡ Fixpoint closed → list_any (covering r) from ≡ false
    → IsShownNotRaised from images objective → ⊥
not_shown_kept steps from images objective r m closed goal t fixpoint uncovered (k, form, shown) =
    let same : k ≡ r = one_form (not_raised objective images) k r form goal in
    not_shown steps from r m closed t fixpoint uncovered (subst (IsShown from) same shown)
