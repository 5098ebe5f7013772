-- What a preserved state entitles to is true of the problem.
use Rattle.std.proofs.Common.{◌≡◌, ◌<◌, ℤ, ◌<ℤ◌, ◌≤ℤ◌, ◌⊎◌, inl, inr, Bool, true, false, int_le, List, [], ◌∷◌, ◌++◌, Option, None, Some, All, Any, IfSome, length, get_or, refl, sym, ap, subst, arith}
use Rattle.std.proofs.lemmas.Int.{ints}
use Rattle.std.proofs.lemmas.List.{length-append}
use Rattle.std.proofs.Math.Seq.{get_or-append_seam}
use Rattle.std.proofs.lemmas.Bool.Decides.{nat_tests}
use Rattle.std.proofs.lemmas.List.Elements.{All-cons, All-append, All-weaker, All-contains}
use Rattle.linear.specs.declared.term.Term.{Term}
use Rattle.linear.specs.declared.term.Lit.{Lit}
use Rattle.linear.specs.Valuation.{Valuation}
use Rattle.linear.specs.Sum.{sum_of}
use Rattle.linear.specs.Opb.{Opb, Satisfies, value_of, objective_value}
use Rattle.normal_form.specs.Normal.{NormalConstraint, Holds}
use Rattle.normal_form.specs.NormalOf.{IsNormalOf}
use Rattle.normal_form.proofs.NormalForm.{form_meaning}
use Rattle.proof_steps.specs.declared.conclusion.Lower.{Lower}
use Rattle.proof_steps.specs.declared.conclusion.Upper.{Upper}
use Rattle.proof_steps.specs.declared.conclusion.Conclusion.{Conclusion}
use Rattle.proof_steps.specs.declared.conclusion.Lower.TheVariants as lowers
use Rattle.proof_steps.specs.declared.conclusion.Upper.TheVariants as uppers
use Rattle.proof_steps.specs.declared.conclusion.Conclusion.TheVariants as conclusions
use Rattle.proof_rules.specs.Claim.{Claim, Concludes, ClaimsLower, ClaimsUpper, IsSolution, IsUnsatisfiable}
use Rattle.proof_rules.specs.Justified as justified
use Rattle.proof_rules.specs.Justified.{IsExhausted, IsLowerBound, EntitlesLower, EntitlesUpper, hint_of, TakesHint, IsBest, IsJustified}
use Rattle.proof_rules.specs.Legal.{worth_of}
use Rattle.proof_rules.specs.Preserved.{IsPreserved, AreNormal}
use Rattle.proof_rules.specs.Shown.{absurdity}
use Rattle.proof_rules.specs.Solution.{at_least}
use Rattle.proof_rules.specs.State.{State, constraints, IsOutside}
use Rattle.proof_rules.proofs.Preserving.{outside_met, sol_preserves, sol_normal}
use Rattle.proof_rules.proofs.ShownHolds.{shown_holds, absurdity_fails}

less_or_not : (x y : ℤ) → (x <ℤ y) ⊎ (y ≤ℤ x)
less_or_not x y = by (int_le y x) refl
  where
    by : (b : Bool) → int_le y x ≡ b → (x <ℤ y) ⊎ (y ≤ℤ x)
    by true h = inr (grind (arith, ints, nat_tests))
    by false h = inl (grind (arith, ints, nat_tests))

-- where nothing is logged there is no improving value
none_improves : (p : Opb) (s : State) (a : Valuation) → IsPreserved p s → s.logged ≡ [] → IfSome s.least (λ least. value_of a p <ℤ least)
none_improves p s a kept empty = by s.least kept.least
  where
    by : (o : Option ℤ) → IfSome o (λ least. Any (λ g. worth_of p g ≡ least) s.logged) → IfSome o (λ least. value_of a p <ℤ least)
    by None h = tt
    by (Some least) h = absurd (omega (arith, h.2, ap length empty))

exhausted : (p : Opb) (s : State) → IsPreserved p s → AreNormal s → IsOutside s → IsExhausted s → IsUnsatisfiable p
exhausted p s kept normal outside e a satisfies =
    let b = kept.answer a satisfies (none_improves p s a kept e.unlogged) in
    absurdity_fails b.0 (shown_holds (constraints s) absurdity normal tt e.shown b.0 (outside_met p s a b.0 b.1 outside))

bound_holds : (p : Opb) (objective : List Term) (n : NormalConstraint) (bound : ℤ) (b : Valuation) → p.objective ≡ Some objective
    → IsNormalOf (at_least objective bound) n → Holds b n → bound ≤ℤ value_of b p
bound_holds p objective n bound b minimises form holds =
    let value : value_of b p ≡ sum_of b objective = ap (objective_value b) minimises in
    let meets : bound ≤ℤ sum_of b objective = (form_meaning (at_least objective bound) n refl form b).0 holds in
    omega (arith, ints, value, meets)

no_greater : (x y z : ℤ) → x ≤ℤ y → y ≤ℤ z → x ≤ℤ z
no_greater x y z h k = omega (arith, ints, h, k)

lower_bound : (p : Opb) (s : State) (objective : List Term) (bound : ℤ) (n : NormalConstraint) → IsPreserved p s → AreNormal s → IsOutside s → p.objective ≡ Some objective
    → IsLowerBound s objective bound n → (a : Valuation) → Satisfies a p → bound ≤ℤ value_of a p
lower_bound p s objective bound n kept normal outside minimises low a satisfies = by s.least low.below (λ below. shown below)
  where
    shown : IfSome s.least (λ least. value_of a p <ℤ least) → bound ≤ℤ value_of a p
    shown below =
        let b = kept.answer a satisfies below in
        let holds = shown_holds (constraints s) n normal low.form.rises low.shown b.0 (outside_met p s a b.0 b.1 outside) in
        no_greater bound (value_of b.0 p) (value_of a p) (bound_holds p objective n bound b.0 minimises low.form holds) b.1.value

    by : (o : Option ℤ) → IfSome o (λ least. bound ≤ℤ least) → (IfSome o (λ least. value_of a p <ℤ least) → bound ≤ℤ value_of a p) → bound ≤ℤ value_of a p
    by None low' next = next tt
    by (Some least) low' next = elim (less_or_not (value_of a p) least) as (λ _. bound ≤ℤ value_of a p) [
      | inl below ↦ next below
      | inr above ↦ no_greater bound least (value_of a p) low' above
    ]

claims_lower : (p : Opb) (s : State) (objective : List Term) (lower : Lower) → IsPreserved p s → AreNormal s → IsOutside s → p.objective ≡ Some objective → EntitlesLower s objective lower → ClaimsLower p lower
claims_lower p s objective lowers.MinusInf kept normal outside minimises h = tt
claims_lower p s objective (lowers.At bound) kept normal outside minimises (n, low) = lower_bound p s objective bound n kept normal outside minimises low
claims_lower p s objective lowers.Inf kept normal outside minimises h = exhausted p s kept normal outside h

-- the best solution is worth no more than any
pub best_least : (p : Opb) (logged : List (List Bool)) (g : List Bool) → IsBest p logged (Some g) → All (λ h. worth_of p g ≤ℤ worth_of p h) logged
best_least p logged g (before, behind, is, less, no_more) =
    let P : List Bool → Type 0 = λ h. worth_of p g ≤ℤ worth_of p h in
    subst (All P) (sym is)
    (All-append P before (g ∷ behind) (All-weaker (λ h. worth_of p g <ℤ worth_of p h) P (λ h lt. omega (arith, ints, lt)) before less)
    (All-cons P g behind (omega (arith, ints)) no_more))

claims_upper : (p : Opb) (s : State) (upper : Upper) (best : Option (List Bool)) → EntitlesUpper p s upper → IsBest p s.logged best → ClaimsUpper p upper best
claims_upper p s (uppers.At bound) None (i, g, below, is, worth) empty = absurd (omega (arith, below, ap length empty))
claims_upper p s (uppers.At bound) (Some best) (i, g, below, is, worth) b =
    no_greater (worth_of p best) (worth_of p g) bound (All-contains (λ h. worth_of p best ≤ℤ worth_of p h) s.logged g (best_least p s.logged best b) (i, below, is)) worth
claims_upper p s uppers.Inf best h b = tt

concludes : (p : Opb) (s : State) (c : Conclusion) (best : Option (List Bool)) → IsPreserved p s → AreNormal s → IsOutside s → justified.Entitles p s c → IsBest p s.logged best → Concludes p c best
concludes p s conclusions.Nothing best kept normal outside h b = tt
concludes p s (conclusions.Sat hint) None kept normal outside h b = absurd (h b)
concludes p s (conclusions.Sat hint) (Some g) kept normal outside h b = refl
concludes p s conclusions.Unsat best kept normal outside h b = exhausted p s kept normal outside h
concludes p s (conclusions.Bounds lower upper hint) best kept normal outside (objective, minimises, low, up) b =
    (claims_lower p s objective lower kept normal outside minimises low, claims_upper p s upper best up b)

best_solves : (p : Opb) (logged : List (List Bool)) (best : Option (List Bool)) → All (IsSolution p) logged → IsBest p logged best → IfSome best (IsSolution p)
best_solves p logged None all b = tt
best_solves p logged (Some g) all (before, behind, is, less, no_more) =
    All-contains (IsSolution p) (before ++ g ∷ behind) g (subst (All (IsSolution p)) is all) (length before, in_middle before behind g, at_middle before behind g)
  where
    in_middle : (xs ys : List (List Bool)) (g : List Bool) → length xs < length (xs ++ g ∷ ys)
    in_middle xs ys g = omega (arith, length-append xs (g ∷ ys))

    at_middle : (xs ys : List (List Bool)) (g : List Bool) → get_or (xs ++ g ∷ ys) (length xs) g ≡ g
    at_middle xs ys g = get_or-append_seam xs g ys g

-- a hint is one more solution
hint_preserves : (p : Opb) (s t : State) (hint : Option (List Lit)) → IsPreserved p s → AreNormal s → IsOutside s → TakesHint p s hint t → IsPreserved p t × AreNormal t × IsOutside t
hint_preserves p s t None kept normal outside is = (subst (IsPreserved p) (sym is) kept, subst AreNormal (sym is) normal, subst IsOutside (sym is) outside)
hint_preserves p s t (Some assigned) kept normal outside legal =
    (sol_preserves p s t assigned kept outside legal, sol_normal p s t assigned normal legal, subst IsOutside (sym legal.2) outside)

pub justified_claim : (p : Opb) (s : State) (c : Conclusion) (best : Option (List Bool)) → IsPreserved p s → AreNormal s → IsJustified p s c best → Claim p c best
justified_claim p s c best kept normal (outside, (t, hint, holds, is_best)) =
    let k = hint_preserves p s t (hint_of c) kept normal outside hint in
    record { solution = best_solves p t.logged best k.0.logged is_best; concludes = concludes p t c best k.0 k.1 k.2 holds is_best }
