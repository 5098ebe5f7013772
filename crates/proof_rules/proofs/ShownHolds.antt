-- What is shown from constraints holds wherever they do.
use Rattle.std.proofs.Common.{◌≡◌, ◌⊎◌, inl, inr, Bool, true, false, List, [], ◌∷◌, ◌++◌, All, Contains, length, nat_le, refl, arith}
use Rattle.std.proofs.lemmas.List.{length-append}
use Rattle.std.proofs.Math.Seq.{get_or-append_seam}
use Rattle.std.proofs.lemmas.Bool.{false≢true}
use Rattle.std.proofs.lemmas.Bool.Decides.{nat_tests}
use Rattle.std.proofs.lemmas.List.Elements.{All-push, All-contains}
use Rattle.linear.specs.Valuation.{Valuation}
use Rattle.normal_form.specs.Normal.{NormalConstraint, Holds, Rises, weight}
use Rattle.normal_form.specs.Negation.{IsNegation}
use Rattle.normal_form.proofs.Negations.{negation, negation_is, negation_meaning}
use Rattle.propagate.specs.Chain.{IsRefuted}
use Rattle.propagate.proofs.Chains.{no_conflict_true}
use Rattle.propagate.proofs.DegreeZero.{zero_refuted}
use Rattle.substitution.proofs.Covered.{covered_holds}
use Rattle.proof_rules.specs.Shown.{IsShown, absurdity}

-- a constraint holds or does not
pub holds_or_not : (a : Valuation) (n : NormalConstraint) → Holds a n ⊎ (Holds a n → ⊥)
holds_or_not a n = by (nat_le n.degree (weight a n)) refl
  where
    by : (b : Bool) → nat_le n.degree (weight a n) ≡ b → Holds a n ⊎ (Holds a n → ⊥)
    by true h = inl (grind (arith, nat_tests))
    by false h = inr (λ holds. grind (arith, nat_tests))

-- no assignment meets all of a refuted list
refuted_never : (a : Valuation) (ns : List NormalConstraint) → IsRefuted ns → All (Holds a) ns → ⊥
refuted_never a ns refuted all = no_conflict_true a ns all [] (λ v s h. absurd (false≢true h)) refuted

by_negation : (a : Valuation) (live : List NormalConstraint) (n m : NormalConstraint) → Rises 0 n.terms → IsNegation n m → IsRefuted (live ++ m ∷ []) → All (Holds a) live → Holds a n
by_negation a live n m rises negated refuted all = by (holds_or_not a n)
  where
    by : Holds a n ⊎ (Holds a n → ⊥) → Holds a n
    by (inl h) = h
    by (inr not) = absurd (refuted_never a (live ++ m ∷ []) refuted (All-push (Holds a) live m all ((negation_meaning n m rises negated a).1 not)))

pub shown_holds : (live : List NormalConstraint) (n : NormalConstraint) → All (λ e. Rises 0 e.terms) live → Rises 0 n.terms → IsShown live n
    → (a : Valuation) → All (Holds a) live → Holds a n
shown_holds live n normal rises (inl some) a all =
    covered_holds some.1 n (All-contains (λ e. Rises 0 e.terms) live some.1 normal (some.0, some.2, some.3)) some.4 a (All-contains (Holds a) live some.1 all (some.0, some.2, some.3))
shown_holds live n normal rises (inr r) a all = by_negation a live n r.0 rises r.1 r.2 all

-- `0 >= 1` holds nowhere
pub absurdity_fails : (a : Valuation) → Holds a absurdity → ⊥
absurdity_fails a h = omega (arith, h)

at_end : (live : List NormalConstraint) (m : NormalConstraint) → Contains (live ++ m ∷ []) m
at_end live m = (length live, omega (arith, length-append live (m ∷ [])), get_or-append_seam live m [] m)

-- a constraint of degree 0 is always shown: its negation has negative slack at once
pub zero_shown : (live : List NormalConstraint) (n : NormalConstraint) → Rises 0 n.terms → n.degree ≡ 0 → IsShown live n
zero_shown live n rises zero =
    inr (negation n, negation_is n rises, zero_refuted n (negation n) rises zero (negation_is n rises) (live ++ negation n ∷ []) (at_end live (negation n)))
