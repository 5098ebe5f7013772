-- What is shown from constraints in two parts, and by their refutation beside a negation.
use Rattle.std.proofs.Common.{◌↔◌, ◌⊎◌, inl, inr, Bool, List, [], ◌∷◌, ◌++◌, Any, IsTrue, sym, subst}
use Rattle.normal_form.specs.Negation.{IsNegation}
use Rattle.normal_form.specs.Normal.{NormalConstraint, Rises}
use Rattle.normal_form.proofs.Negations.{one_negation}
use Rattle.propagate.specs.Chain.{IsRefuted}
use Rattle.propagate.proofs.AnyOf.{any_here, any_there, any_split, any_none}
use Rattle.substitution.specs.Covering.{Covers}
use Rattle.proof_rules.specs.Shown.{IsShown}

pub any_left : {X : Type 0} (P : X → Type 0) (xs ys : List X) → Any P xs → Any P (xs ++ ys)
any_left P [] ys a = absurd (any_none P a)
any_left P (x ∷ xs) ys a = elim (any_split P x xs a) as (λ _. Any P (x ∷ xs ++ ys)) [ inl p ↦ any_here P x (xs ++ ys) p | inr b ↦ any_there P x (xs ++ ys) (any_left P xs ys b) ]

pub any_right : {X : Type 0} (P : X → Type 0) (xs ys : List X) → Any P ys → Any P (xs ++ ys)
any_right P [] ys a = a
any_right P (x ∷ xs) ys a = any_there P x (xs ++ ys) (any_right P xs ys a)

pub any_either : {X : Type 0} (P : X → Type 0) (xs ys : List X) → Any P (xs ++ ys) → Any P xs ⊎ Any P ys
any_either P [] ys a = inr a
any_either P (x ∷ xs) ys a = elim (any_split P x (xs ++ ys) a) as (λ _. Any P (x ∷ xs) ⊎ Any P ys) [
  | inl p ↦ inl (any_here P x xs p)
  | inr b ↦ elim (any_either P xs ys b) as (λ _. Any P (x ∷ xs) ⊎ Any P ys) [ inl l ↦ inl (any_there P x xs l) | inr r ↦ inr r ]
]

-- its one negation is not refuted, so it is shown exactly where something covers it
pub shown_by_covering : (xs ys : List NormalConstraint) (n m : NormalConstraint) (found covered : Bool) → Rises 0 n.terms → IsNegation n m → (IsTrue found → ⊥)
    → (Any (λ e. Covers e n) ys → ⊥) → IsTrue found ↔ IsRefuted ((xs ++ ys) ++ m ∷ []) → IsTrue covered ↔ Any (λ e. Covers e n) xs → IsTrue covered ↔ IsShown (xs ++ ys) n
shown_by_covering xs ys n m found covered rises negates open_end second refuted first = (λ y. inl (any_left (λ e. Covers e n) xs ys (first.0 y)), back)
  where
    either : Any (λ e. Covers e n) xs ⊎ Any (λ e. Covers e n) ys → IsTrue covered
    either (inl a) = first.1 a
    either (inr a) = absurd (second a)

    back : IsShown (xs ++ ys) n → IsTrue covered
    back (inl a) = either (any_either (λ e. Covers e n) xs ys a)
    back (inr (k, is, conflict)) = absurd (open_end (refuted.1 (subst (λ x. IsRefuted ((xs ++ ys) ++ x ∷ [])) (sym (one_negation n m k rises negates is)) conflict)))
