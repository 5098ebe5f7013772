-- The slow search ends: each step sets one more variable of the constraints.
use Rattle.std.proofs.Common.{◌≡◌, ℕ, zero, suc, ◌+◌, ◌<◌, ◌≤◌, max, Bool, true, false, cond, not, ◌||◌, ◌==◌, ◌&&◌, List, [], ◌∷◌, ◌++◌, Option, Some, None, refl, sym, ap, ◌∙◌, inl, inr, ◌⊎◌, arith}
use Rattle.std.specs.List.{list_any}
use Rattle.std.proofs.lemmas.Bool.{false≢true, cases_eq}
use Rattle.std.proofs.lemmas.Bool.Decides.{nat_tests}
use Rattle.linear.specs.declared.term.Lit.{Lit}
use Rattle.normal_form.specs.declared.term.NormalTerm.{NormalTerm}
use Rattle.normal_form.specs.Normal.{NormalConstraint, sum_over, only, variable_bound}
use Rattle.linear.specs.Literal.{opposite}
use Rattle.propagate.specs.Literals.{among, lists}
use Rattle.propagate.specs.Slack.{IsForced}
use Rattle.propagate.specs.Chain.{IsForcedByOne, LeadsToConflict, IsFixpoint, IsClosure}
use Rattle.propagate.specs.Passes.{is_falsified, next_forced, Outcome, Conflict, Fixpoint, Unfinished, onward, outcome}
use Rattle.propagate.proofs.Assignments.{among_left, among_right, among_head}
use Rattle.propagate.proofs.AnyOf.{any_split, any_none}
use Rattle.propagate.proofs.SearchIsRight.{next_sound, conflict_met, closure_met, no_conflict_met, fixpoint_met}

-- whether a variable is set
abbrev pub is_set : List Lit → ℕ → Bool
is_set assigned v = among assigned v false || among assigned v true

-- how many variables below a bound are not set
abbrev pub unset_below : ℕ → List Lit → ℕ
unset_below zero assigned = 0
unset_below (suc v) assigned = unset_below v assigned + cond (is_set assigned v) 0 1

-- the least number above all variables of some constraints
abbrev pub bound_of : List NormalConstraint → ℕ
bound_of [] = 0
bound_of (n ∷ ns) = max (variable_bound n.terms) (bound_of ns)

counted_bound : (x v c : ℕ) (b : Bool) (rest : ℕ) → 0 < cond ((x == v) && b) c 0 + rest → (x ≡ v) ⊎ (0 < rest)
counted_bound x v c b rest h = elim (cases_eq x v) [
  | inl e ↦ inl e
  | inr d ↦ inr (grind (arith, nat_tests))
]

pub occurs_below : (ts : List NormalTerm) (v : ℕ) (s : Bool) → 0 < sum_over (only v s) ts → v < variable_bound ts
occurs_below [] v s h = absurd (omega (arith, h))
occurs_below (t ∷ ts) v s h = elim (counted_bound (t.var.0) v t.coef (cond s t.negated (not t.negated)) (sum_over (only v s) ts) h) [
  | inl e ↦ omega (arith, e)
  | inr later ↦ omega (arith, occurs_below ts v s later)
]

pub forced_below : (ns : List NormalConstraint) (assigned : List Lit) (l : Lit) → IsForcedByOne ns assigned l → l.var.0 < bound_of ns
forced_below [] assigned l f = absurd (any_none (IsForced assigned l) f)
forced_below (n ∷ ns) assigned l f = elim (any_split (IsForced assigned l) n ns f) [
  | inl here ↦ omega (arith, occurs_below n.terms (l.var.0) l.negated here.occurs)
  | inr there ↦ omega (arith, forced_below ns assigned l there)
]

or_true : (b d e f : Bool) → (b ≡ true → e ≡ true) → (d ≡ true → f ≡ true) → (b || d) ≡ true → (e || f) ≡ true
or_true true d true f g h k = refl
or_true true d false f g h k = absurd (false≢true (g refl))
or_true false d true f g h k = refl
or_true false true false f g h k = h refl
or_true false false false f g h k = absurd (false≢true k)

fewer_cond : (b d : Bool) → (b ≡ true → d ≡ true) → cond d 0 1 ≤ cond b 0 1
fewer_cond true true h = omega arith
fewer_cond true false h = absurd (false≢true (h refl))
fewer_cond false true h = omega arith
fewer_cond false false h = omega arith

stays_set : (assigned : List Lit) (l : Lit) (v : ℕ) → is_set assigned v ≡ true → is_set (assigned ++ l ∷ []) v ≡ true
stays_set assigned l v h =
    or_true (among assigned v false) (among assigned v true) (among (assigned ++ l ∷ []) v false) (among (assigned ++ l ∷ []) v true)
    (among_left assigned (l ∷ []) v false) (among_left assigned (l ∷ []) v true) h

no_more_unset : (bound : ℕ) (assigned : List Lit) (l : Lit) → unset_below bound (assigned ++ l ∷ []) ≤ unset_below bound assigned
no_more_unset zero assigned l = omega arith
no_more_unset (suc v) assigned l = omega (arith, no_more_unset v assigned l, fewer_cond (is_set assigned v) (is_set (assigned ++ l ∷ []) v) (stays_set assigned l v))

either_sign : (s b d : Bool) → cond s d b ≡ true → (b || d) ≡ true
either_sign true true d h = refl
either_sign true false d h = h
either_sign false true d h = refl
either_sign false false d h = absurd (false≢true h)

by_sign : (set : Bool → Bool) (s : Bool) → set s ≡ cond s (set true) (set false)
by_sign set true = refl
by_sign set false = refl

now_set : (assigned : List Lit) (l : Lit) → is_set (assigned ++ l ∷ []) (l.var.0) ≡ true
now_set assigned l =
    let here = among_right assigned (l ∷ []) (l.var.0) l.negated (among_head l []) in
    either_sign l.negated (among (assigned ++ l ∷ []) (l.var.0) false) (among (assigned ++ l ∷ []) (l.var.0) true)
    (sym (by_sign (among (assigned ++ l ∷ []) (l.var.0)) l.negated) ∙ here)

neither_sign : (s b d : Bool) → cond s d b ≡ false → cond s b d ≡ false → (b || d) ≡ false
neither_sign true b d h k = rw (k, h) refl
neither_sign false b d h k = rw (h, k) refl

by_opposite : (set : Bool → Bool) (s : Bool) → set (not s) ≡ cond s (set false) (set true)
by_opposite set true = refl
by_opposite set false = refl

not_set : (assigned : List Lit) (l : Lit) → lists assigned l ≡ false → lists assigned (opposite l) ≡ false → is_set assigned (l.var.0) ≡ false
not_set assigned l h k =
    neither_sign l.negated (among assigned (l.var.0) false) (among assigned (l.var.0) true)
    (sym (by_sign (among assigned (l.var.0)) l.negated) ∙ h) (sym (by_opposite (among assigned (l.var.0)) l.negated) ∙ k)

pub fewer_unset : (bound : ℕ) (assigned : List Lit) (l : Lit) → l.var.0 < bound → lists assigned l ≡ false → lists assigned (opposite l) ≡ false → unset_below bound (assigned ++ l ∷ []) + 1 ≤ unset_below bound assigned
fewer_unset zero assigned l h e f = absurd (omega (arith, h))
fewer_unset (suc v) assigned l h e f = elim (cases_eq (l.var.0) v) [
  | inl same ↦
      let before : ◌≡◌ {A = ℕ} (cond (is_set assigned v) 0 1) 1 = ap (λ (b : Bool). cond {A = ℕ} b 0 1) (ap (is_set assigned) (sym same) ∙ not_set assigned l e f) in
      let now : ◌≡◌ {A = ℕ} (cond (is_set (assigned ++ l ∷ []) v) 0 1) 0 = ap (λ (b : Bool). cond {A = ℕ} b 0 1) (ap (is_set (assigned ++ l ∷ [])) (sym same) ∙ now_set assigned l) in
      omega (arith, before, now, no_more_unset v assigned l)
  | inr other ↦
      omega (arith, fewer_unset v assigned l (omega (arith, h, other)) e f, fewer_cond (is_set assigned v) (is_set (assigned ++ l ∷ []) v) (stays_set assigned l v))
]

goes_on : (steps : ℕ) (ns : List NormalConstraint) (given : List Lit) → ((l : Lit) → IsForcedByOne ns given l → outcome steps ns (given ++ l ∷ []) ≡ Unfinished → ⊥) → (b : Bool) → (next : Option Lit) → next_forced given ns ≡ next → cond b Conflict (onward (outcome steps ns) given next) ≡ Unfinished → ⊥
goes_on steps ns given later true next f h = cc
goes_on steps ns given later false None f h = cc
goes_on steps ns given later false (Some l) f h = later l (next_sound given ns l f) h

ends : (steps : ℕ) (ns : List NormalConstraint) (given : List Lit) → unset_below (bound_of ns) given < steps → outcome steps ns given ≡ Unfinished → ⊥
ends zero ns given h e = omega (arith, h)
ends (suc steps) ns given h e =
    goes_on steps ns given
    (λ l f. ends steps ns (given ++ l ∷ [])
    (omega (arith, h, fewer_unset (bound_of ns) given l (forced_below ns given l f) f.4.unset f.4.opposite_unset)))
    (list_any (is_falsified given) ns) (next_forced given ns) refl e

-- a conflict, or a fixpoint of what is given and one chain
stopped : (steps : ℕ) (ns : List NormalConstraint) (given : List Lit) → (outcome steps ns given ≡ Unfinished → ⊥) → (o : Outcome) → outcome steps ns given ≡ o → LeadsToConflict ns given ⊎ ((closed : List Lit) × IsFixpoint ns closed × IsClosure ns given closed)
stopped steps ns given never Conflict e = inl (conflict_met steps ns given e)
stopped steps ns given never (Fixpoint closed) e = let r = fixpoint_met steps ns given closed e in inr (closed, r.1.2, closure_met steps ns given closed e)
stopped steps ns given never Unfinished e = absurd (never e)

pub one_end_or_conflict : (ns : List NormalConstraint) (given : List Lit) → LeadsToConflict ns given ⊎ ((closed : List Lit) × IsFixpoint ns closed × IsClosure ns given closed)
one_end_or_conflict ns given =
    let steps = unset_below (bound_of ns) given + 1 in
    stopped steps ns given (ends steps ns given (omega arith)) (outcome steps ns given) refl

-- a conflict, or a closure without one
abbrev pub Ends : List NormalConstraint → List Lit → Type 0
Ends ns given = LeadsToConflict ns given ⊎ ((closed : List Lit) × IsClosure ns given closed × (LeadsToConflict ns given → ⊥))

decided : (steps : ℕ) (ns : List NormalConstraint) (given : List Lit) → (outcome steps ns given ≡ Unfinished → ⊥) → (o : Outcome) → outcome steps ns given ≡ o → Ends ns given
decided steps ns given never Conflict e = inl (conflict_met steps ns given e)
decided steps ns given never (Fixpoint closed) e = inr (closed, closure_met steps ns given closed e, no_conflict_met steps ns given closed e)
decided steps ns given never Unfinished e = absurd (never e)

pub one_outcome : (ns : List NormalConstraint) (given : List Lit) → Ends ns given
one_outcome ns given =
    let steps = unset_below (bound_of ns) given + 1 in
    decided steps ns given (ends steps ns given (omega arith)) (outcome steps ns given) refl
