-- A conflict takes a decision that was free when it was made.
use Rattle.std.proofs.Common.{◌≡◌, ℕ, ◌<◌, Bool, true, false, not, List, [], ◌∷◌, ◌++◌, length, get_or, take, refl, sym, ap, subst, ◌∙◌, inl, inr, arith}
use Rattle.std.proofs.lemmas.Bool.{false≢true}
use Rattle.std.proofs.lemmas.List.{length-append}
use Rattle.std.proofs.Math.Seq.{get_or-append_seam, take-append_seam}
use Rattle.std.specs.FinMap as fin
use Rattle.linear.specs.declared.term.Lit.{Lit}
use Rattle.normal_form.specs.Normal.{NormalConstraint}
use Rattle.propagate.specs.Chain.{IsImpossible, IsReached, LeadsToConflict}
use Rattle.propagate.specs.Content.{Content, IsEnd}
use Rattle.linear.specs.Literal.{opposite}
use Rattle.propagate.specs.Literals.{IsConsistent, among}
use Rattle.propagate.proofs.Consistency.{push_consistent}
use Rattle.search.specs.Conflicts.{TakesLast}
use Rattle.propagate.specs.Values.{AreValuesUnder}
use Rattle.propagate.specs.declared.value.Value.{Value}
use Rattle.search.specs.Values.{IsFree, unlisted_below}
use Rattle.search.proofs.Choices.{LeavesFree, fewer, values_leave_free}

-- a conflict takes a decision that was made where the others led to none, and not to its opposite
pub takes_free : (live : List NormalConstraint) (decisions : List Lit) (l : Lit) → (IsImpossible live decisions → ⊥) → (IsReached live decisions (opposite l) → ⊥) → TakesLast live (decisions ++ l ∷ [])
takes_free live decisions l possible free k is =
    let here : k ≡ length decisions = omega (arith, is, length-append decisions (l ∷ [])) in
    let all : take k (decisions ++ l ∷ []) ≡ decisions = ap (λ n. take n (decisions ++ l ∷ [])) here ∙ take-append_seam decisions (l ∷ []) in
    let last : get_or (decisions ++ l ∷ []) k l ≡ l = ap (λ n. get_or (decisions ++ l ∷ []) n l) here ∙ get_or-append_seam decisions l [] l in (
      λ h. possible (subst (λ xs. IsImpossible live xs) all h),
      λ overtaken. free (subst (λ x. IsReached live decisions (opposite x)) last (subst (λ xs. IsReached live xs (opposite (get_or (decisions ++ l ∷ []) k l))) all (overtaken l))),
    )

-- what is free in a table of what stands is not decided, and its opposite does not follow
pub free_not_decided : (content : Content) (decisions assigned : List Lit) (values : List Value) → IsEnd content decisions assigned → AreValuesUnder assigned values → LeavesFree decisions values
free_not_decided content decisions assigned values end are v free s =
    is_none (among decisions v s) (λ e. false≢true (sym (values_leave_free assigned values are v free s) ∙ (end.closure (record { var = record { 0 = v }; negated = s })).1 (inl e)))
  where
    is_none : (b : Bool) → (b ≡ true → ⊥) → b ≡ false
    is_none true h = absurd (h refl)
    is_none false h = refl

pub opposite_not_reached : (content : Content) (decisions assigned : List Lit) (values : List Value) (l : Lit) → IsEnd content decisions assigned → AreValuesUnder assigned values → IsFree values (l.var.0) → IsReached (fin.values content) decisions (opposite l) → ⊥
opposite_not_reached content decisions assigned values l end are free reached =
    false≢true (sym (values_leave_free assigned values are (l.var.0) free ((opposite l).negated)) ∙ (end.closure (opposite l)).1 reached)

-- a literal that is free in the table of what stands
pub record IsChosen (content : Content) (decisions : List Lit) (l : Lit) (count : ℕ) : Type 0 where
  pub consistent : IsConsistent (decisions ++ l ∷ [])
  pub within : l.var.0 < count
  pub takes : TakesLast (fin.values content) (decisions ++ l ∷ [])
  pub fewer : unlisted_below count (decisions ++ l ∷ []) < unlisted_below count decisions

pub chosen : (content : Content) (decisions assigned : List Lit) (values : List Value) (l : Lit) (count : ℕ) → IsEnd content decisions assigned → AreValuesUnder assigned values → IsFree values (l.var.0) → l.var.0 < length values
    → length values ≡ count → IsConsistent decisions → IsChosen content decisions l count
chosen content decisions assigned values l count end are is_free inside size consistent =
    let leaves = free_not_decided content decisions assigned values end are in
    let possible : (LeadsToConflict (fin.values content) decisions → ⊥) → IsImpossible (fin.values content) decisions → ⊥ = λ none h. elim h [
      | inl both ↦ consistent both
      | inr conflict ↦ none conflict
    ] in
    let within : l.var.0 < count = subst (λ n. l.var.0 < n) size inside in
    record {
      consistent = push_consistent decisions l consistent (leaves (l.var.0) is_free (not l.negated));
      within = within;
      takes = takes_free (fin.values content) decisions l (possible end.no_conflict) (opposite_not_reached content decisions assigned values l end are is_free);
      fewer = fewer count decisions values l leaves is_free within;
    }
