-- What one constraint forces, listed at once, and passes over all constraints.
use Rattle.std.proofs.Common.{◌≡◌, ℕ, zero, suc, ◌+◌, ◌<◌, ◌≤◌, Bool, true, false, cond, not, ◌||◌, List, [], ◌∷◌, ◌++◌, length, get_or, refl, sym, ap, subst, ◌∙◌, inl, inr, ◌⊎◌, append_assoc, append-nil, arith}
use Rattle.std.proofs.lemmas.Bool.{false≢true, cases_lt, cases_eq}
use Rattle.linear.specs.declared.term.Lit.{Lit}
use Rattle.normal_form.specs.declared.term.NormalTerm.{NormalTerm}
use Rattle.normal_form.specs.Normal.{Literals, NormalConstraint, sum_over, only, Rises}
use Rattle.normal_form.proofs.FromBalance.{one_side}
use Rattle.normal_form.proofs.SetSums.{sum_within, only_itself}
use Rattle.propagate.specs.declared.forced.Forced.{Forced}
use Rattle.linear.specs.Literal.{opposite}
use Rattle.propagate.specs.Literals.{coefficient_of, among, lists}
use Rattle.propagate.specs.Passes.{literal_of}
use Rattle.propagate.specs.Slack.{not_false, IsForced}
use Rattle.propagate.specs.Walk.{literals_of, CanForce, AreForcedBy, GoesOnBy}
use Rattle.propagate.proofs.Consistency.{only_here}
use Rattle.propagate.proofs.Assignments.{among_append, among_left, among_right, among_head, fewer_not_false}
use Rattle.propagate.proofs.Occurrences.{TermForces, forced_at}
use Rattle.propagate.proofs.ReasonedChains.{assigned_more}

-- what a set has is what another has, and what the literals between them have
between : (p q o : Bool) (c : ℕ) → (p ≡ true → (q ≡ true) ⊎ (o ≡ true)) → cond p c 0 ≤ cond q c 0 + cond o c 0
between true true o c h = omega arith
between true false true c h = omega arith
between true false false c h = elim (h refl) [ inl e ↦ absurd (false≢true e) | inr e ↦ absurd (false≢true e) ]
between false q o c h = omega arith

sum_between : (set part rest : Literals) → ((v : ℕ) (s : Bool) → set v s ≡ true → (part v s ≡ true) ⊎ (rest v s ≡ true)) → (ts : List NormalTerm) → sum_over set ts ≤ sum_over part ts + sum_over rest ts
sum_between set part rest h [] = omega arith
sum_between set part rest h (t ∷ ts) =
    omega (arith, between (set (t.var.0) t.negated) (part (t.var.0) t.negated) (rest (t.var.0) t.negated) t.coef (h (t.var.0) t.negated), sum_between set part rest h ts)

twice : (s : Bool) → s ≡ not (not s)
twice true = refl
twice false = refl

still_open : (b : Bool) → (b ≡ false → not b ≡ true)
still_open true h = absurd (false≢true (sym h))
still_open false h = refl

now_open : (b d : Bool) → not b ≡ true → (not (b || d) ≡ true) ⊎ (d ≡ true)
now_open true d h = absurd (false≢true h)
now_open false true h = inr refl
now_open false false h = inl refl

-- what one literal more makes false is its opposite alone
made_false : (assigned : List Lit) (l : Lit) (v : ℕ) (s : Bool) → not_false assigned v s ≡ true → (not_false (assigned ++ l ∷ []) v s ≡ true) ⊎ (only (l.var.0) (not l.negated) v s ≡ true)
made_false assigned l v s h = elim (now_open (among assigned v (not s)) (among (l ∷ []) v (not s)) h) [
  | inl e ↦ inl (ap not (among_append assigned (l ∷ []) v (not s)) ∙ e)
  | inr e ↦
      let at = only_here l v (not s) e in
      inr (ap (λ (x : ℕ). only (l.var.0) (not l.negated) x s) at.0 ∙ ap (λ (b : Bool). only (l.var.0) (not l.negated) (l.var.0) b) (twice s ∙ ap not at.1) ∙ only_itself (l.var.0) (not l.negated))
]

opposite_absent : (s : Bool) (set : Bool → ℕ) → (set false ≡ 0) ⊎ (set true ≡ 0) → 0 < set s → set (not s) ≡ 0
opposite_absent true set (inl e) h = e
opposite_absent true set (inr e) h = absurd (omega (arith, e, h))
opposite_absent false set (inl e) h = absurd (omega (arith, e, h))
opposite_absent false set (inr e) h = e

-- what a constraint forces does not change its slack
pub same_open : (assigned : List Lit) (l : Lit) (n : NormalConstraint) → Rises 0 n.terms → 0 < coefficient_of n l → sum_over (not_false (assigned ++ l ∷ [])) n.terms ≡ sum_over (not_false assigned) n.terms
same_open assigned l n r occurs =
    let none = opposite_absent l.negated (λ s. sum_over (only (l.var.0) s) n.terms) (one_side 0 n.terms r (l.var.0)) occurs in
    let less = sum_within (not_false (assigned ++ l ∷ [])) (not_false assigned) (fewer_not_false assigned (assigned ++ l ∷ []) (λ v s h. among_left assigned (l ∷ []) v s h)) n.terms in
    let more = sum_between (not_false assigned) (not_false (assigned ++ l ∷ [])) (only (l.var.0) (not l.negated)) (made_false assigned l) n.terms in
    omega (arith, less, more, none)

forced_push : (n : NormalConstraint) (place : ℕ) (given : List Lit) (ss : List Forced) (l : Lit) → AreForcedBy n place given ss → IsForced (given ++ literals_of ss) l n → AreForcedBy n place given (ss ++ (record { literal = l; reason = place }) ∷ [])
forced_push n place given [] l c f = (refl, subst (λ (xs : List Lit). IsForced xs l n) (append-nil given) f, tt)
forced_push n place given (x ∷ xs) l c f =
    (c.0, c.1, forced_push n place (given ++ x.literal ∷ []) xs l c.2 (subst (λ (ls : List Lit). IsForced ls l n) (sym (append_assoc given (x.literal ∷ []) (literals_of xs))) f))

pub goes_nowhere : (n : NormalConstraint) (place : ℕ) (assigned : List Lit) (steps : List Forced) → GoesOnBy n place assigned steps assigned steps
goes_nowhere n place assigned steps = ([], tt, sym (append-nil assigned), sym (append-nil steps))

goes_further : (n : NormalConstraint) (place : ℕ) (start : List Lit) (before : List Forced) (assigned : List Lit) (steps : List Forced) (l : Lit) → GoesOnBy n place start before assigned steps → IsForced assigned l n
    → GoesOnBy n place start before (assigned ++ l ∷ []) (steps ++ (record { literal = l; reason = place }) ∷ [])
goes_further n place start before assigned steps l g f =
    let s : Forced = record { literal = l; reason = place } in (
      g.0 ++ s ∷ [],
      forced_push n place start g.0 l g.1 (subst (λ (xs : List Lit). IsForced xs l n) g.2 f),
      assigned_more start assigned (assigned ++ l ∷ []) g.0 (g.0 ++ s ∷ []) s g.2 refl refl,
      ap (λ (ss : List Forced). ss ++ s ∷ []) g.3 ∙ append_assoc before g.0 (s ∷ []),
    )

-- a constraint whose terms are looked at one after another
pub record Visiting (n : NormalConstraint) (place slack : ℕ) (start : List Lit) (before : List Forced) (i : ℕ) (assigned : List Lit) (steps : List Forced) : Type 0 where
  pub goes_on : GoesOnBy n place start before assigned steps
  pub slack_is : sum_over (not_false assigned) n.terms ≡ n.degree + slack
  pub done : (k : ℕ) (d : NormalTerm) → k < i → TermForces assigned slack (get_or n.terms k d) → ⊥

unset_before : (assigned : List Lit) (l m : Lit) (b : Bool) → lists assigned m ≡ b → lists (assigned ++ l ∷ []) m ≡ false → lists assigned m ≡ false
unset_before assigned l m false e h = e
unset_before assigned l m true e h = absurd (false≢true (sym h ∙ among_left assigned (l ∷ []) (m.var.0) m.negated e))

-- what can be forced under more literals could be under fewer
could_before : (assigned : List Lit) (l : Lit) (slack : ℕ) (t : NormalTerm) → TermForces (assigned ++ l ∷ []) slack t → TermForces assigned slack t
could_before assigned l slack t c =
    (c.0, unset_before assigned l (literal_of t) (lists assigned (literal_of t)) refl c.1, unset_before assigned l (opposite (literal_of t)) (lists assigned (opposite (literal_of t))) refl c.2)

same_at : (ts : List NormalTerm) (i : ℕ) (d e : NormalTerm) → i < length ts → get_or ts i d ≡ get_or ts i e
same_at [] i d e h = absurd (omega (arith, h))
same_at (t ∷ ts) zero d e h = refl
same_at (t ∷ ts) (suc i) d e h = same_at ts i d e (omega (arith, h))

no_more : (n : NormalConstraint) (slack i : ℕ) (assigned : List Lit) (t : NormalTerm) → i < length n.terms → t ≡ get_or n.terms i t
    → ((k : ℕ) (d : NormalTerm) → k < i → TermForces assigned slack (get_or n.terms k d) → ⊥) → (TermForces assigned slack t → ⊥)
    → (k : ℕ) (d : NormalTerm) → k < i + 1 → TermForces assigned slack (get_or n.terms k d) → ⊥
no_more n slack i assigned t h is done here k d low c = elim (cases_eq k i) [
  | inl e ↦ here (subst (TermForces assigned slack) (ap (λ (x : ℕ). get_or n.terms x d) e ∙ same_at n.terms i d t h ∙ sym is) c)
  | inr other ↦ done k d (omega (arith, low, other)) c
]

-- a term whose literal is listed
turn_forced : (n : NormalConstraint) (place slack : ℕ) (start : List Lit) (before : List Forced) (i : ℕ) (assigned : List Lit) (steps : List Forced) (t : NormalTerm) → Rises 0 n.terms → i < length n.terms → t ≡ get_or n.terms i t
    → Visiting n place slack start before i assigned steps → TermForces assigned slack t
    → Visiting n place slack start before (i + 1) (assigned ++ literal_of t ∷ []) (steps ++ (record { literal = literal_of t; reason = place }) ∷ [])
turn_forced n place slack start before i assigned steps t r h is v c =
    let l = literal_of t in
    let f = forced_at assigned n slack i t r h is v.slack_is c in
    record {
      goes_on = goes_further n place start before assigned steps l v.goes_on f;
      slack_is = same_open assigned l n r f.occurs ∙ v.slack_is;
      done = no_more n slack i (assigned ++ l ∷ []) t h is
          (λ k d low again. v.done k d low (could_before assigned l slack (get_or n.terms k d) again))
          (λ again. false≢true (sym again.1 ∙ among_right assigned (l ∷ []) (l.var.0) l.negated (among_head l [])));
    }

-- a term that is passed over
turn_passed : (n : NormalConstraint) (place slack : ℕ) (start : List Lit) (before : List Forced) (i : ℕ) (assigned : List Lit) (steps : List Forced) (t : NormalTerm) → i < length n.terms → t ≡ get_or n.terms i t
    → Visiting n place slack start before i assigned steps → (TermForces assigned slack t → ⊥) → Visiting n place slack start before (i + 1) assigned steps
turn_passed n place slack start before i assigned steps t h is v none =
    record { goes_on = v.goes_on; slack_is = v.slack_is; done = no_more n slack i assigned t h is v.done none }

by_tests : (slack coef : ℕ) (b d : Bool) → ((slack < coef) × (b ≡ false) × (d ≡ false)) ⊎ ((slack < coef) × (b ≡ false) × (d ≡ false) → ⊥)
by_tests slack coef true d = inr (λ c. false≢true (sym c.1))
by_tests slack coef false true = inr (λ c. false≢true (sym c.2))
by_tests slack coef false false = elim (cases_lt slack coef) [
  | inl less ↦ inl (less, refl, refl)
  | inr more ↦ inr (λ c. omega (arith, more, c.0))
]

can_or_not : (assigned : List Lit) (slack coef : ℕ) (l : Lit) → CanForce assigned slack coef l ⊎ (CanForce assigned slack coef l → ⊥)
can_or_not assigned slack coef l = by_tests slack coef (lists assigned l) (lists assigned (opposite l))

-- one turn, as the code tells it
pub turn : (n : NormalConstraint) (place slack : ℕ) (start : List Lit) (before : List Forced) (i : ℕ) (assigned later : List Lit) (steps more : List Forced) (t : NormalTerm) (l : Lit) → Rises 0 n.terms → i < length n.terms → t ≡ get_or n.terms i t → l ≡ literal_of t
    → Visiting n place slack start before i assigned steps
    → (CanForce assigned slack t.coef l → (later ≡ assigned ++ l ∷ []) × (more ≡ steps ++ (record { literal = l; reason = place }) ∷ []))
    → ((CanForce assigned slack t.coef l → ⊥) → (later ≡ assigned) × (more ≡ steps))
    → Visiting n place slack start before (i + 1) later more
turn n place slack start before i assigned later steps more t l r h is e v listed passed = elim (can_or_not assigned slack t.coef l) [
  | inl can ↦
      let new = listed can in
      let made : Visiting n place slack start before (i + 1) (assigned ++ l ∷ []) (steps ++ (record { literal = l; reason = place }) ∷ []) =
      subst (λ (m : Lit). Visiting n place slack start before (i + 1) (assigned ++ m ∷ []) (steps ++ (record { literal = m; reason = place }) ∷ [])) (sym e)
      (turn_forced n place slack start before i assigned steps t r h is v (subst (λ (m : Lit). CanForce assigned slack t.coef m) e can)) in
      renamed n place slack start before (i + 1) (assigned ++ l ∷ []) later (steps ++ (record { literal = l; reason = place }) ∷ []) more new.0 new.1 made
  | inr cannot ↦
      let old = passed cannot in
      renamed n place slack start before (i + 1) assigned later steps more old.0 old.1
      (turn_passed n place slack start before i assigned steps t h is v (λ c. cannot (subst (λ (m : Lit). CanForce assigned slack t.coef m) (sym e) c)))
]
  where
    renamed : (n : NormalConstraint) (place slack : ℕ) (start : List Lit) (before : List Forced) (i : ℕ) (assigned later : List Lit) (steps more : List Forced) → later ≡ assigned → more ≡ steps → Visiting n place slack start before i assigned steps → Visiting n place slack start before i later more
    renamed n place slack start before i assigned later steps more e f v =
        subst (λ (xs : List Lit). Visiting n place slack start before i xs more) (sym e) (subst (λ (ss : List Forced). Visiting n place slack start before i assigned ss) (sym f) v)
