-- A conflict with nothing listed ends a search.
use Rattle.std.proofs.Common.{◌≡◌, ◌≢◌, ℤ, ◌≤ℤ◌, inr, Bool, List, [], ◌∷◌, ◌++◌, Option, None, Some, Any, IfSome, length, unsigned_abs, refl, sym, ap, subst, arith}
use Rattle.std.proofs.lemmas.Int.{ints}
use Rattle.std.proofs.lemmas.List.Elements.{Contains-append_left}
use Rattle.linear.specs.Limits.{IsWithin}
use Rattle.linear.specs.Opb.{Opb}
use Rattle.linear.specs.declared.term.Term.{Term}
use Rattle.normal_form.specs.Normal.{NormalConstraint, Rises, Fits}
use Rattle.normal_form.proofs.Negations.{negation, negation_is}
use Rattle.normal_form.proofs.NormalForm.{form, form_is, form_fits}
use Rattle.propagate.specs.Chain.{IsRefuted}
use Rattle.propagate.proofs.Chains.{conflict_of_more}
use Rattle.substitution.proofs.Difference.{objective_read}
use Rattle.proof_rules.specs.Justified.{IsBest, IsLowerBound, EntitlesUpper}
use Rattle.proof_rules.specs.Legal.{worth_of}
use Rattle.proof_rules.specs.Preserved.{IsPreserved}
use Rattle.proof_rules.specs.Shown.{IsShown, absurdity}
use Rattle.proof_rules.specs.Solution.{at_least}
use Rattle.proof_rules.specs.State.{State, IsOutside, constraints}
use Rattle.proof_steps.specs.declared.conclusion.Conclusion.TheVariants.{Sat, Unsat, Bounds}
use Rattle.proof_steps.specs.declared.conclusion.Lower.TheVariants as lowers
use Rattle.proof_steps.specs.declared.conclusion.Upper.TheVariants as uppers
use Rattle.kernel.proofs.Improving.{worth_small}
use Rattle.proof_log.specs.Log.{IsEntitled}
use Rattle.proof_log.proofs.Growing.{nothing_justified}

pub refuted_shows : (live : List NormalConstraint) (n : NormalConstraint) → Rises 0 n.terms → IsRefuted live → IsShown live n
refuted_shows live n rises refuted =
    inr (negation n, negation_is n rises, conflict_of_more live (live ++ negation n ∷ []) (λ k c. Contains-append_left live (negation n ∷ []) k c) [] refuted)

pub unsatisfiable : (p : Opb) (s : State) → IsOutside s → s.logged ≡ [] → IsRefuted (constraints s) → IsEntitled p s Unsat
unsatisfiable p s outside empty refuted =
    (None, (outside, (s, refl, record { unlogged = empty; shown = refuted_shows (constraints s) absurdity tt refuted }, empty)))

best_there : (p : Opb) (s : State) → IsOutside s → (best : Option (List Bool)) × IsBest p s.logged best
best_there p s outside =
    let nothing = nothing_justified p s outside in
    (nothing.0, subst (λ (t : State). IsBest p t.logged nothing.0) nothing.1.1.1 nothing.1.1.3)

-- some logged solution has the least improving value
least_logged : (p : Opb) (s : State) (best : ℤ) → IsPreserved p s → s.least ≡ Some best → Any (λ g. worth_of p g ≡ best) s.logged
least_logged p s best kept is = subst (λ o. IfSome o (λ least. Any (λ g. worth_of p g ≡ least) s.logged)) is kept.least

bound_fits : (p : Opb) (objective : List Term) (g : List Bool) (best : ℤ) → IsWithin p → p.objective ≡ Some objective → worth_of p g ≡ best
    → Fits (form (at_least objective best))
bound_fits p objective g best within is worth =
    let sizes = objective_read (length p.names) p.objective objective objective (sym is) refl within.objective in
    let value = worth_small p g objective (sym is) within in
    let same = ap unsigned_abs worth in
    form_fits (at_least objective best) (form (at_least objective best)) (form_is (at_least objective best)) (omega (arith, sizes, value, same))

lower : (p : Opb) (s : State) (objective : List Term) (best : ℤ) → IsWithin p → p.objective ≡ Some objective → s.least ≡ Some best
    → Any (λ g. worth_of p g ≡ best) s.logged → IsRefuted (constraints s) → IsLowerBound s objective best (form (at_least objective best))
lower p s objective best within is least_is least refuted = record {
  below = subst (λ o. IfSome o (λ l. best ≤ℤ l)) (sym least_is) (omega (arith, ints));
  form = form_is (at_least objective best);
  fits = bound_fits p objective least.1 best within is least.4;
  shown = refuted_shows (constraints s) (form (at_least objective best)) (form_is (at_least objective best)).rises refuted;
}

upper : (p : Opb) (s : State) (best : ℤ) → Any (λ g. worth_of p g ≡ best) s.logged → EntitlesUpper p s (uppers.At best)
upper p s best (i, g, below, is, worth) = (i, g, below, is, omega (arith, ints, worth))

pub optimum : (p : Opb) (s : State) (objective : List Term) (best : ℤ) → IsOutside s → IsWithin p → IsPreserved p s → p.objective ≡ Some objective → s.least ≡ Some best
    → IsRefuted (constraints s) → IsEntitled p s (Bounds (lowers.At best) (uppers.At best) None)
optimum p s objective best outside within kept is least_is refuted =
    let least = least_logged p s best kept least_is in
    let found = best_there p s outside in (
      found.0,
      (
        outside,
        (s, refl, (objective, is, (form (at_least objective best), lower p s objective best within is least_is least refuted), upper p s best least), found.1),
      ),
    )

-- a logged solution, where none is asked to be better
pub solved : (p : Opb) (s : State) → IsOutside s → s.logged ≢ [] → IsEntitled p s (Sat None)
solved p s outside some =
    let found = best_there p s outside in (found.0, (outside, (s, refl, some, found.1)))

-- the least improving value, where the search stops before its end
pub so_far : (p : Opb) (s : State) (objective : List Term) (best : ℤ) → IsOutside s → IsPreserved p s → p.objective ≡ Some objective → s.least ≡ Some best
    → IsEntitled p s (Bounds lowers.MinusInf (uppers.At best) None)
so_far p s objective best outside kept is least_is =
    let found = best_there p s outside in
    (found.0, (outside, (s, refl, (objective, is, tt, upper p s best (least_logged p s best kept least_is)), found.1)))
