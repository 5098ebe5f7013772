-- Tables of the values that an assignment gives variables.
use Rattle.std.proofs.Common.{◌≡◌, ℕ, ◌<◌, ◌≤◌, Bool, true, false, not, inl, inr, List, [], ◌∷◌, ◌++◌, map, Option, Some, None, MatchOption, length, get_or, set, refl, sym, ap, subst, ◌∙◌, arith}
use Rattle.std.proofs.lemmas.Bool.{cases_eq, false≢true}
use Rattle.std.proofs.lemmas.List.{length-set, length-map, get_or-set_same, get_or-set_other, get_or-map}
use Rattle.linear.specs.declared.term.Lit.{Lit}
use Rattle.normal_form.specs.Normal.{only}
use Rattle.normal_form.proofs.SetSums.{only_is}
use Rattle.propagate.proofs.Assignments.{among_cases, among_head, among_left, among_right, or_cases}
use Rattle.propagate.specs.Literals.{among}
use Rattle.proof_rules.specs.Solution.{value_at}
use Rattle.solutions.specs.Table.{GivesValue, IsTableOf, GivesAll, LeavesOut, HasGap}

not_not : (b : Bool) → not (not b) ≡ b
not_not true = refl
not_not false = refl

-- one more literal gives its variable its value
gives_own : (before : List Lit) (l : Lit) → GivesValue (before ++ l ∷ []) (l.var.0) (Some (not l.negated))
gives_own before l =
    among_right before (l ∷ []) (l.var.0) (not (not l.negated)) (subst (λ s. among (l ∷ []) (l.var.0) s ≡ true) (sym (not_not l.negated)) (among_head l []))

-- and leaves all others as they were
gives_other : (before : List Lit) (l : Lit) (v : ℕ) (o : Option Bool) → (v ≡ l.var.0 → ⊥) → GivesValue before v o → GivesValue (before ++ l ∷ []) v o
gives_other before l v (Some value) other told = among_left before (l ∷ []) v (not value) told
gives_other before l v None other none = λ value h. elim (among_cases before (l ∷ []) v (not value) h) as (λ _. ⊥) [
  | inl m ↦ none value m
  | inr m ↦ elim (or_cases (only (l.var.0) l.negated v (not value)) false m) as (λ _. ⊥) [
    | inl o ↦ other (only_is (l.var.0) v l.negated (not value) o).0
    | inr o ↦ false≢true o
  ]
]

pub noted_inside : (before : List Lit) (table : List (Option Bool)) (l : Lit) → l.var.0 < length table → IsTableOf before table
    → IsTableOf (before ++ l ∷ []) (set table (l.var.0) (Some (not l.negated)))
noted_inside before table l inside h v below =
    let value : Option Bool = Some (not l.negated) in
    let after : List (Option Bool) = set table (l.var.0) value in
    elim (cases_eq v (l.var.0)) as (λ _. GivesValue (before ++ l ∷ []) v (get_or after v None)) [
      | inl same ↦
          subst (λ w. GivesValue (before ++ l ∷ []) w (get_or after w None)) (sym same)
          (subst (GivesValue (before ++ l ∷ []) (l.var.0)) (sym (get_or-set_same table (l.var.0) value None inside)) (gives_own before l))
      | inr other ↦
          subst (GivesValue (before ++ l ∷ []) v) (sym (get_or-set_other table (l.var.0) v value None other))
          (gives_other before l v (get_or table v None) other (h v (omega (arith, below, length-set table (l.var.0) value))))
    ]

pub noted_outside : (before : List Lit) (table : List (Option Bool)) (l : Lit) → length table ≤ l.var.0 → IsTableOf before table → IsTableOf (before ++ l ∷ []) table
noted_outside before table l outside h v below = gives_other before l v (get_or table v None) (λ same. omega (arith, outside, below, same)) (h v below)

-- what a table of all literals says of the assignment
pub table_read : (count : ℕ) (assigned : List Lit) (table : List (Option Bool)) (found : Option (List Bool)) → length table ≡ count → IsTableOf assigned table
    → MatchOption found (HasGap table) (λ g. map Some g ≡ table) → MatchOption found (LeavesOut count assigned) (GivesAll count assigned)
table_read count assigned table None long h (v, below, gap) = (v, omega (arith, below, long), subst (GivesValue assigned v) gap (h v below))
table_read count assigned table (Some g) long h is =
    let same : length g ≡ length table = sym (length-map g (λ b. Some b)) ∙ ap length is in (
      same ∙ long,
      λ v below.
          let value : get_or table v None ≡ Some (value_at g v) = ap (λ t. get_or t v None) (sym is) ∙ get_or-map (λ b. Some b) g v false None below in
          subst (GivesValue assigned v) value (h v (omega (arith, below, same))),
    )
