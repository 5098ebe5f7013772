-- A trail told as steps from what is given.
use Rattle.std.proofs.Common.{◌≡◌, ℕ, ◌+◌, ◌<◌, ◌⊎◌, inl, inr, Bool, true, false, not, Option, None, Some, MatchOption, List, [], ◌∷◌, ◌++◌, length, get_or, take, refl, ap, sym, subst, ◌∙◌, append-nil, append_assoc, arith}
use Rattle.std.proofs.lemmas.Bool.{false≢true}
use Rattle.std.proofs.lemmas.Int.{ints}
use Rattle.std.proofs.lemmas.List.{get_or_default, take_more}
use Rattle.linear.specs.declared.term.Lit.{Lit}
use Rattle.normal_form.specs.Normal.{NormalConstraint}
use Rattle.normal_form.proofs.SetSums.{Within, sum_apart, sum_within}
use Rattle.propagate.specs.Chain.{IsFixpoint}
use Rattle.linear.specs.Literal.{opposite}
use Rattle.propagate.specs.Literals.{among, lists, IsConsistent, SameLiterals}
use Rattle.propagate.specs.Slack.{IsFalsified, IsForced, not_false}
use Rattle.propagate.specs.Walk.{IsFalsifiedAt}
use Rattle.propagate.proofs.ChainEnds.{by_set}
use Rattle.propagate.proofs.Chains.{falsified_more}
use Rattle.propagate.proofs.Closure.{same_fixpoint}
use Rattle.propagate.proofs.Consistency.{only_here}
use Rattle.propagate.proofs.Assignments.{among_cases, among_head, among_left, among_right, fewer_not_false}
use Rattle.propagate.proofs.SameAssignments.{same_falsified, same_forced, same_pushed}
use Rattle.watch.specs.declared.chain.Chain.{Chain}
use Rattle.watch.specs.declared.chain.Step.{Step}
use Rattle.watch.specs.Givens.{HasAll}
use Rattle.ledger.specs.Ledgers.{IsReason, constraint_at, nothing}
use Rattle.watch.specs.Steps.{AreSteps, Clashes, IsFound, IsTold, IsToldTo, LeadsTo, literals_of}

-- what is forced under some literals is forced under more, where it is free there; else its constraint is falsified
still_forced : (n : NormalConstraint) (xs ys : List Lit) (l : Lit) → Within (among xs) (among ys) → IsForced xs l n → lists ys l ≡ false → lists ys (opposite l) ≡ false → IsForced ys l n
still_forced n xs ys l h f e k = record {
  unset = e;
  opposite_unset = k;
  occurs = f.occurs;
  above = omega (arith, ints, f.above, sum_within (not_false ys) (not_false xs) (fewer_not_false xs ys h) n.terms);
}

now_falsified : (n : NormalConstraint) (xs ys : List Lit) (l : Lit) → Within (among xs) (among ys) → IsForced xs l n → lists ys (opposite l) ≡ true → IsFalsified ys n
now_falsified n xs ys l h f k = omega (arith, ints, f.above, sum_apart (not_false ys) (not_false xs) (l.var.0) l.negated (fewer_not_false xs ys h) (ap not k) (ap not f.opposite_unset) n.terms)

pub literals_push : (ss : List Step) (s : Step) → literals_of (ss ++ s ∷ []) ≡ literals_of ss ++ s.literal ∷ []
literals_push [] s = refl
literals_push (x ∷ xs) s = ap (λ (ls : List Lit). x.literal ∷ ls) (literals_push xs s)

pub steps_push : (ns : List NormalConstraint) (given : List Lit) (ss : List Step) (s : Step) → AreSteps ns given ss → IsReason ns (given ++ literals_of ss) s.literal (Some s.place) → AreSteps ns given (ss ++ s ∷ [])
steps_push ns given [] s c f = (subst (λ (xs : List Lit). IsReason ns xs s.literal (Some s.place)) (append-nil given) f, tt)
steps_push ns given (x ∷ xs) s c f =
    (c.0, steps_push ns (given ++ x.literal ∷ []) xs s c.1 (subst (λ (ls : List Lit). IsReason ns ls s.literal (Some s.place)) (sym (append_assoc given (x.literal ∷ []) (literals_of xs))) f))

pub not_listed : (xs : List Lit) (l : Lit) (b : Bool) → lists xs l ≡ b → (lists xs l ≡ true → ⊥) → lists xs l ≡ false
not_listed xs l true e h = absurd (h e)
not_listed xs l false e h = e

-- nothing is told yet
pub told_none : (ns : List NormalConstraint) (given trail : List Lit) → IsTold ns given (take 0 trail) []
told_none ns given trail = record { chain = tt; inside = λ l e. absurd (false≢true e); covers = λ l e. absurd (false≢true e); free = λ l e. absurd (false≢true e) }

one_more : (trail : List Lit) (k : ℕ) (l m : Lit) → k < length trail → get_or trail k l ≡ l → lists (take (k + 1) trail) m ≡ true → (lists (take k trail) m ≡ true) ⊎ (lists (l ∷ []) m ≡ true)
one_more trail k l m low is e =
    among_cases (take k trail) (l ∷ []) (m.var.0) m.negated
    (ap (λ (xs : List Lit). lists xs m) (sym (take_more trail k l low ∙ ap (λ (x : Lit). take k trail ++ x ∷ []) is)) ∙ e)

fewer_listed : (trail : List Lit) (k : ℕ) (l m : Lit) → k < length trail → get_or trail k l ≡ l → lists (take k trail) m ≡ true → lists (take (k + 1) trail) m ≡ true
fewer_listed trail k l m low is e = ap (λ (xs : List Lit). lists xs m) (take_more trail k l low) ∙ among_left (take k trail) (get_or trail k l ∷ []) (m.var.0) m.negated e

last_listed : (trail : List Lit) (k : ℕ) (l : Lit) → k < length trail → get_or trail k l ≡ l → lists (take (k + 1) trail) l ≡ true
last_listed trail k l low is =
    ap (λ (xs : List Lit). lists xs l) (take_more trail k l low ∙ ap (λ (x : Lit). take k trail ++ x ∷ []) is) ∙ among_right (take k trail) (l ∷ []) (l.var.0) l.negated (among_head l [])

same_listed : (xs : List Lit) (l m : Lit) (b : Bool) → lists (l ∷ []) m ≡ true → lists xs l ≡ b → lists xs m ≡ b
same_listed xs l m b e h = let here = only_here l (m.var.0) m.negated e in cc

opposite_listed : (xs : List Lit) (l m : Lit) (b : Bool) → lists (l ∷ []) m ≡ true → lists xs (opposite l) ≡ b → lists xs (opposite m) ≡ b
opposite_listed xs l m b e h = let here = only_here l (m.var.0) m.negated e in cc

consistent_free : (given : List Lit) (l : Lit) → IsConsistent given → lists given l ≡ true → lists given (opposite l) ≡ false
consistent_free given l h e = not_listed given (opposite l) (lists given (opposite l)) refl (λ k. h (l, e, k))

-- a literal that is given is left out
pub told_given : (ns : List NormalConstraint) (given trail : List Lit) (steps : List Step) (k : ℕ) (l : Lit) → k < length trail → get_or trail k l ≡ l → IsTold ns given (take k trail) steps → IsConsistent given → lists given l ≡ true → IsTold ns given (take (k + 1) trail) steps
told_given ns given trail steps k l low is t consistent e = record {
  chain = t.chain;
  inside = λ m h. fewer_listed trail k l m low is (t.inside m h);
  covers = λ m h. elim (one_more trail k l m low is h) [
    | inl x ↦ t.covers m x
    | inr x ↦ among_left given (literals_of steps) (m.var.0) m.negated (same_listed given l m true x e)
  ];
  free = λ m h. elim (one_more trail k l m low is h) [
    | inl x ↦ t.free m x
    | inr x ↦ opposite_listed given l m false x (consistent_free given l consistent e)
  ];
}

-- one that is free is told
outside : (given trail : List Lit) (steps : List Step) (k : ℕ) (l : Lit) → HasAll (literals_of steps) (take k trail) → lists given l ≡ false → lists (take k trail) l ≡ false → lists (given ++ literals_of steps) l ≡ false
outside given trail steps k l h e f =
    not_listed (given ++ literals_of steps) l (lists (given ++ literals_of steps) l) refl (λ both. elim (among_cases given (literals_of steps) (l.var.0) l.negated both) [
      | inl x ↦ false≢true (sym e ∙ x)
      | inr x ↦ false≢true (sym f ∙ h l x)
    ])

pub told_one : (ns : List NormalConstraint) (given trail : List Lit) (steps : List Step) (k place : ℕ) (l : Lit) → k < length trail → get_or trail k l ≡ l → IsTold ns given (take k trail) steps → IsReason ns (take k trail) l (Some place) → lists given l ≡ false → lists given (opposite l) ≡ false
    → IsTold ns given (take (k + 1) trail) (steps ++ record { literal = l; place = place } ∷ [])
told_one ns given trail steps k place l low is t r e f =
    let s : Step = record { literal = l; place = place } in
    let ys : List Lit = given ++ literals_of steps in
    let more : literals_of (steps ++ s ∷ []) ≡ literals_of steps ++ l ∷ [] = literals_push steps s in
    let forced : IsForced ys l (constraint_at ns place) = still_forced (constraint_at ns place) (take k trail) ys l (by_set (take k trail) ys t.covers) r.1
    (outside given trail steps k l t.inside e r.1.unset) (outside given trail steps k (opposite l) t.inside f r.1.opposite_unset) in
    record {
      chain = steps_push ns given steps s t.chain (r.0, forced);
      inside = λ m h. elim (among_cases (literals_of steps) (l ∷ []) (m.var.0) m.negated (ap (λ (xs : List Lit). lists xs m) (sym more) ∙ h)) [
        | inl x ↦ fewer_listed trail k l m low is (t.inside m x)
        | inr x ↦ same_listed (take (k + 1) trail) l m true x (last_listed trail k l low is)
      ];
      covers = λ m h.
          let back : lists ((given ++ literals_of steps) ++ l ∷ []) m ≡ lists (given ++ literals_of (steps ++ s ∷ [])) m =
          ap (λ (xs : List Lit). lists xs m) (append_assoc given (literals_of steps) (l ∷ []) ∙ ap (λ (xs : List Lit). given ++ xs) (sym more)) in
          elim (one_more trail k l m low is h) [
            | inl x ↦ sym back ∙ among_left ys (l ∷ []) (m.var.0) m.negated (t.covers m x)
            | inr x ↦ sym back ∙ among_right ys (l ∷ []) (m.var.0) m.negated x
          ];
      free = λ m h. elim (one_more trail k l m low is h) [
        | inl x ↦ t.free m x
        | inr x ↦ opposite_listed given l m false x f
      ];
    }

-- where the opposite is given, the constraint is falsified
pub told_falsified : (ns : List NormalConstraint) (given trail : List Lit) (steps : List Step) (k place : ℕ) (l : Lit) → IsTold ns given (take k trail) steps → IsReason ns (take k trail) l (Some place) → lists given (opposite l) ≡ true → LeadsTo ns given steps place
told_falsified ns given trail steps k place l t r e =
    let n : NormalConstraint = constraint_at ns place in
    let ys : List Lit = given ++ literals_of steps in
    record {
      chain = t.chain;
      falsified = (
        n,
        (r.0, get_or_default ns place n nothing r.0),
        now_falsified n (take k trail) ys l (by_set (take k trail) ys t.covers) r.1 (among_left given (literals_of steps) (l.var.0) (opposite l).negated e),
      );
    }

-- a literal that is not given has a reason
pub reason_there : (r : Option ℕ) (given : List Lit) (l : Lit) → (r ≡ None → lists given l ≡ true) → lists given l ≡ false → r ≡ None → ⊥
reason_there r given l h e is = false≢true (sym e ∙ h is)

pub reason_is : (ns : List NormalConstraint) (xs : List Lit) (l : Lit) (r s : Option ℕ) → IsReason ns xs l r → r ≡ s → IsReason ns xs l s
reason_is ns xs l r s f e = subst (λ (o : Option ℕ). IsReason ns xs l o) e f

-- literals with the same set
pub same_steps : (ns : List NormalConstraint) (xs ys : List Lit) (steps : List Step) → SameLiterals xs ys → AreSteps ns xs steps → AreSteps ns ys steps
same_steps ns xs ys [] same c = tt
same_steps ns xs ys (s ∷ ss) same c =
    ((c.0.0, same_forced xs ys (constraint_at ns s.place) s.literal same c.0.1), same_steps ns (xs ++ s.literal ∷ []) (ys ++ s.literal ∷ []) ss (same_pushed xs ys (s.literal ∷ []) same) c.1)

-- a whole trail that was told: where it is a fixpoint, and where it is falsified
told_fixpoint : (ns : List NormalConstraint) (given trail : List Lit) (steps : List Step) → IsTold ns given trail steps → HasAll given trail → IsFixpoint ns trail → IsFixpoint ns (given ++ literals_of steps)
told_fixpoint ns given trail steps t h q =
    let ys : List Lit = given ++ literals_of steps in
    same_fixpoint ns ys trail q
    (by_set ys trail (λ l e. elim (among_cases given (literals_of steps) (l.var.0) l.negated e) [
      | inl x ↦ h l x
      | inr x ↦ t.inside l x
    ]))
    (by_set trail ys t.covers)

told_falsified_at : (ns : List NormalConstraint) (given trail : List Lit) (steps : List Step) (place : ℕ) → IsTold ns given trail steps → IsFalsifiedAt ns trail place → IsFalsifiedAt ns (given ++ literals_of steps) place
told_falsified_at ns given trail steps place t b = (b.0, b.1, falsified_more b.0 trail (given ++ literals_of steps) (by_set trail (given ++ literals_of steps) t.covers) b.2)

twice : (b : Bool) → not (not b) ≡ b
twice true = refl
twice false = refl

no_clash : (ns : List NormalConstraint) (given trail : List Lit) (steps : List Step) → IsTold ns given trail steps → Clashes given trail → ⊥
no_clash ns given trail steps t c =
    let again : lists given (opposite (opposite c.0)) ≡ lists given c.0 = ap (λ (b : Bool). among given (c.0.var.0) b) (twice c.0.negated) in
    false≢true (sym (t.free (opposite c.0) c.2) ∙ again ∙ c.1)

-- what is found in the end
abbrev pub HasEnd : List NormalConstraint → List Lit → List Lit → Option ℕ → Type 0
HasEnd ns given trail r = MatchOption r (Clashes given trail ⊎ (HasAll given trail × IsFixpoint ns trail)) (IsFalsifiedAt ns trail)

whole : (ns : List NormalConstraint) (given trail : List Lit) (steps : List Step) (r : Option ℕ) → IsTold ns given trail steps → HasEnd ns given trail r → MatchOption r (IsFixpoint ns (given ++ literals_of steps)) (IsFalsifiedAt ns (given ++ literals_of steps))
whole ns given trail steps None t (inl c) = absurd (no_clash ns given trail steps t c)
whole ns given trail steps None t (inr e) = told_fixpoint ns given trail steps t e.0 e.1
whole ns given trail steps (Some place) t b = told_falsified_at ns given trail steps place t b

told_found : (ns : List NormalConstraint) (given trail : List Lit) (steps : List Step) (early falsified new : Option ℕ) → MatchOption early (IsTold ns given trail steps) (LeadsTo ns given steps) → MatchOption early (new ≡ falsified) (λ place. new ≡ Some place) → HasEnd ns given trail falsified
    → AreSteps ns given steps × MatchOption new (IsFixpoint ns (given ++ literals_of steps)) (IsFalsifiedAt ns (given ++ literals_of steps))
told_found ns given trail steps None falsified new t e h = rw e (t.chain, whole ns given trail steps falsified t h)
told_found ns given trail steps (Some place) falsified new t e h = rw e (t.chain, t.falsified)

same_told : (ns : List NormalConstraint) (marks given trail : List Lit) (steps : List Step) (early : Option ℕ) → SameLiterals marks given → MatchOption early (IsTold ns marks trail steps) (LeadsTo ns marks steps) → MatchOption early (IsTold ns given trail steps) (LeadsTo ns given steps)
same_told ns marks given trail steps None same t = record {
  chain = same_steps ns marks given steps same t.chain;
  inside = t.inside;
  covers = λ l e. sym (same_pushed marks given (literals_of steps) same (l.var.0) l.negated) ∙ t.covers l e;
  free = λ l e. sym (same (l.var.0) (opposite l).negated) ∙ t.free l e;
}
same_told ns marks given trail steps (Some place) same t = record {
  chain = same_steps ns marks given steps same t.chain;
  falsified = (t.falsified.0, t.falsified.1, same_falsified (marks ++ literals_of steps) (given ++ literals_of steps) t.falsified.0 (same_pushed marks given (literals_of steps) same) t.falsified.2);
}

pub found : (ns : List NormalConstraint) (marks given trail : List Lit) (told c : Chain) (falsified : Option ℕ) → SameLiterals marks given → IsToldTo ns marks trail told → c.steps.items ≡ told.steps.items → MatchOption told.falsified (c.falsified ≡ falsified) (λ place. c.falsified ≡ Some place) → HasEnd ns given trail falsified → IsFound ns given c
found ns marks given trail told c falsified same t e f h =
    let it = told_found ns given trail told.steps.items told.falsified falsified c.falsified (same_told ns marks given trail told.steps.items told.falsified same t) f h in
    record { chain = rw e (it.0); end = rw e (it.1) }
