-- What was settled when a level began, as the trail grows and goes back and constraints come.
use Rattle.std.proofs.Common.{◌≡◌, ℕ, ◌<◌, ◌≤◌, inl, inr, Contains, Option, None, List, [], ◌∷◌, ◌++◌, length, get_or, take, refl, ap, sym, subst, ◌∙◌, length-append, arith}
use Rattle.std.proofs.lemmas.Bool.{cases_eq, cases_lt}
use Rattle.std.proofs.lemmas.List.{get_or-take, get_or_append_left, get_or_past, get_or_push, length-map, length-take-le, take-take, take_all}
use Rattle.std.proofs.Math.Seq.{take-length}
use Rattle.linear.specs.declared.term.Lit.{Lit}
use Rattle.normal_form.specs.Normal.{NormalConstraint}
use Rattle.propagate.specs.Walk.{IsQuiet}
use Rattle.ledger.specs.Ledgers.{constraint_at, constraint_in, shown}
use Rattle.ledger.proofs.Standing.{shown_at}
use Rattle.watch.specs.Keeping.{AreSettled}
use Rattle.watch.specs.Looking.{AreLookedAt}

-- nothing is settled past the last level
past_nothing : (counts : List ℕ) (j k : ℕ) → length counts ≤ j → k < get_or counts j 0 → ⊥
past_nothing counts j k h low = omega (arith, low, get_or_past counts j 0 h)

pub none_settled : (ns : List NormalConstraint) (propagated : List Lit) → AreSettled ns propagated [] []
none_settled ns propagated = record { as_many = refl; settled = λ j k low. absurd (past_nothing [] j k (omega arith) low) }

-- more is propagated
longer : (xs ys : List Lit) → take (length xs) ys ≡ xs → length xs ≤ length ys
longer xs ys e = elim (cases_lt (length ys) (length xs)) [
  | inl short ↦ omega (arith, ap (length {A = Lit}) e, ap (length {A = Lit}) (take_all (length xs) ys (omega (arith, short))))
  | inr long ↦ long
]

same_beginning : (xs ys : List Lit) (h : ℕ) → take (length xs) ys ≡ xs → h ≤ length xs → take h ys ≡ take h xs
same_beginning xs ys h e low = sym (take-take h (length xs) ys low) ∙ ap (take h) e

pub settled_on : (ns : List NormalConstraint) (old new : List Lit) (heights counts : List ℕ) → take (length old) new ≡ old → AreSettled ns old heights counts → AreSettled ns new heights counts
settled_on ns old new heights counts first s = record {
  as_many = s.as_many;
  settled = λ j k low.
      let it = s.settled j k low in
      (it.0, omega (arith, it.1, longer old new first), subst (λ (xs : List Lit). IsQuiet xs (constraint_at ns k)) (sym (same_beginning old new (get_or heights j 0) first it.1)) it.2);
}

-- one level more
pub settled_pushed : (ns : List NormalConstraint) (propagated assigned : List Lit) (heights counts : List ℕ) (count : ℕ) → ((k : ℕ) → k < count → (k < length ns) × (propagated ≡ assigned) × IsQuiet propagated (constraint_at ns k))
    → AreSettled ns propagated heights counts → AreSettled ns propagated (heights ++ length assigned ∷ []) (counts ++ count ∷ [])
settled_pushed ns propagated assigned heights counts count all s = record {
  as_many = omega (arith, s.as_many, length-append heights (length assigned ∷ []), length-append counts (count ∷ []));
  settled = λ j k low. elim (cases_lt j (length counts)) [
    | inl before ↦
        let up : get_or (heights ++ length assigned ∷ []) j 0 ≡ get_or heights j 0 = get_or_append_left heights (length assigned ∷ []) 0 j (omega (arith, before, s.as_many)) in
        let its : get_or (counts ++ count ∷ []) j 0 ≡ get_or counts j 0 = get_or_append_left counts (count ∷ []) 0 j before in
        let it = s.settled j k (omega (arith, low, its)) in
        (it.0, omega (arith, up, it.1), subst (λ (h : ℕ). IsQuiet (take h propagated) (constraint_at ns k)) (sym up) it.2)
    | inr behind ↦ elim (cases_eq j (length counts)) [
      | inl last ↦
          let up : get_or (heights ++ length assigned ∷ []) j 0 ≡ length assigned = get_or_push heights (length assigned) 0 j (sym s.as_many ∙ sym last) in
          let it = all k (omega (arith, low, get_or_push counts count 0 j (sym last))) in
          let whole : get_or (heights ++ length assigned ∷ []) j 0 ≡ length propagated = up ∙ ap (length {A = Lit}) (sym it.1) in
          (it.0, omega (arith, whole), subst (λ (xs : List Lit). IsQuiet xs (constraint_at ns k)) (sym (ap (λ (h : ℕ). take h propagated) whole ∙ take-length propagated)) it.2)
      | inr past ↦ absurd (past_nothing (counts ++ count ∷ []) j k (omega (arith, behind, past, length-append counts (count ∷ []))) low)
    ]
  ];
}

-- back to a level: those above it are gone
pub settled_back : (ns : List NormalConstraint) (propagated : List Lit) (heights counts : List ℕ) (level height : ℕ) → height ≡ get_or heights level 0 → level < length heights → ((j : ℕ) → j < level → get_or heights j 0 ≤ height)
    → AreSettled ns propagated heights counts → AreSettled ns (take height propagated) (take level heights) (take level counts)
settled_back ns propagated heights counts level height is there rise s = record {
  as_many = omega (arith, length-take-le level heights (omega (arith, there)), length-take-le level counts (omega (arith, there, s.as_many)));
  settled = λ j k low. elim (cases_lt j level) [
    | inl below ↦
        let its : get_or (take level counts) j 0 ≡ get_or counts j 0 = get_or-take level counts j 0 below in
        let up : get_or (take level heights) j 0 ≡ get_or heights j 0 = get_or-take level heights j 0 below in
        let it = s.settled j k (omega (arith, low, its)) in
        let same : take (get_or (take level heights) j 0) (take height propagated) ≡ take (get_or heights j 0) propagated =
        ap (λ (h : ℕ). take h (take height propagated)) up ∙ take-take (get_or heights j 0) height propagated (rise j below) in
        (it.0, short (get_or (take level heights) j 0) (omega (arith, up, it.1)) (omega (arith, up, rise j below)), subst (λ (xs : List Lit). IsQuiet xs (constraint_at ns k)) (sym same) it.2)
    | inr above ↦ absurd (past_nothing (take level counts) j k (omega (arith, above, length-take-le level counts (omega (arith, there, s.as_many)))) low)
  ];
}
  where
    short : (h : ℕ) → h ≤ length propagated → h ≤ height → h ≤ length (take height propagated)
    short h a b = elim (cases_lt height (length propagated)) [
      | inl less ↦ omega (arith, b, length-take-le height propagated (omega (arith, less)))
      | inr more ↦ omega (arith, a, ap (length {A = Lit}) (take_all height propagated (omega (arith, more))))
    ]

-- and what came since the level began waits
pub looked_late : (slots : List (Option NormalConstraint)) (propagated : List Lit) (heights counts : List ℕ) (level height : ℕ) (waiting : List ℕ) → height ≡ get_or heights level 0 → ((k : ℕ) → get_or counts level 0 ≤ k → k < length slots → Contains waiting k)
    → AreSettled (shown slots) propagated heights counts → AreLookedAt (shown slots) (take height propagated) waiting
looked_late slots propagated heights counts level height waiting is late s k low = elim (cases_lt k (get_or counts level 0)) [
  | inl before ↦ inl (subst (λ (h : ℕ). IsQuiet (take h propagated) (constraint_at (shown slots) k)) (sym is) (s.settled level k before).2)
  | inr since ↦ inr (late k since (omega (arith, low, length-map slots constraint_in)))
]

-- more places
pub settled_more : (slots : List (Option NormalConstraint)) (more : List (Option NormalConstraint)) (propagated : List Lit) (heights counts : List ℕ) → AreSettled (shown slots) propagated heights counts → AreSettled (shown (slots ++ more)) propagated heights counts
settled_more slots more propagated heights counts s = record {
  as_many = s.as_many;
  settled = λ j k low.
      let it = s.settled j k low in
      let there : k < length slots = omega (arith, it.0, length-map slots constraint_in) in
      let same : constraint_at (shown (slots ++ more)) k ≡ constraint_at (shown slots) k = shown_at (slots ++ more) k ∙ ap constraint_in (get_or_append_left slots more None k there) ∙ sym (shown_at slots k) in
      (omega (arith, there, length-map (slots ++ more) constraint_in, length-append slots more), it.1, subst (λ (m : NormalConstraint). IsQuiet (take (get_or heights j 0) propagated) m) (sym same) it.2);
}
