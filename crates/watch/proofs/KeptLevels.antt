-- Levels of given literals, when the trail grows and when it is backtracked.
use Rattle.std.proofs.Common.{◌≡◌, ℕ, suc, ◌+◌, ◌<◌, ◌≤◌, inl, inr, true, false, Contains, Option, None, Some, List, [], ◌∷◌, ◌++◌, length, get_or, map, take, refl, ap, sym, subst, ◌∙◌, length-append, arith}
use Rattle.std.proofs.lemmas.Bool.{false≢true, cases_lt}
use Rattle.std.proofs.lemmas.List.{get_or-take, get_or_append_left, get_or_default, get_or_past, get_or_push, length-take-le, take-append-le, take-take, take_more}
use Rattle.std.proofs.Math.Seq.{take-length}
use Rattle.linear.specs.declared.term.Lit.{Lit}
use Rattle.normal_form.specs.Normal.{NormalConstraint}
use Rattle.propagate.specs.Literals.{lists}
use Rattle.propagate.specs.Walk.{IsQuiet}
use Rattle.propagate.proofs.Assignments.{among_cases, among_left, among_right}
use Rattle.watch.specs.Givens.{HasAll, IsGiven}
use Rattle.watch.specs.Keeping.{AreLevels, AreSettled, IsKept, IsLevel, height_of}
use Rattle.ledger.specs.Ledgers.{State, constraint_at, shown}
use Rattle.watch.specs.Looking.{AreLookedAt, GoesOn}
use Rattle.watch.specs.Roots.{AllForced, IsRoot}
use Rattle.watch.specs.Steps.{AreGiven}
use Rattle.watch.proofs.GivenOnes.{one_within}
use Rattle.watch.proofs.Settling.{looked_late, none_settled, settled_back, settled_more, settled_on, settled_pushed}
use Rattle.watch.proofs.GivenReasons.{given_added, given_root, given_walked, take_within}

-- a level that ends below what is added
level_below : (assigned more : List Lit) (reasons rest : List (Option ℕ)) (given : List Lit) (height : ℕ) → length reasons ≡ length assigned → IsLevel assigned reasons given height → IsLevel (assigned ++ more) (reasons ++ rest) given height
level_below assigned more reasons rest given height many v =
    let a : take height (assigned ++ more) ≡ take height assigned = take-append-le height assigned more v.low in
    let b : take height (reasons ++ rest) ≡ take height reasons = take-append-le height reasons rest (omega (arith, v.low, many)) in
    record {
      low = omega (arith, v.low, length-append assigned more);
      has_given = subst (λ (xs : List Lit). HasAll given xs) (sym a) v.has_given;
      others_forced = rw (a, b) v.others_forced;
    }

-- the whole trail
level_whole : (assigned : List Lit) (reasons : List (Option ℕ)) (given : List Lit) → length reasons ≡ length assigned → HasAll given assigned → AreGiven assigned reasons given → IsLevel assigned reasons given (length assigned)
level_whole assigned reasons given many h g =
    let a : take (length assigned) assigned ≡ assigned = take-length assigned in
    let b : take (length assigned) reasons ≡ reasons = ap (λ (n : ℕ). take n reasons) (sym many) ∙ take-length reasons in
    record {
      low = omega arith;
      has_given = subst (λ (xs : List Lit). HasAll given xs) (sym a) h;
      others_forced = rw (a, b) g;
    }

-- the level at the top
height_above : (assigned : List Lit) (heights : List ℕ) (n : ℕ) → length heights ≡ n → height_of assigned heights n ≡ length assigned
height_above assigned heights n e = get_or_past heights n (length assigned) (omega (arith, e))

top : (assigned : List Lit) (reasons : List (Option ℕ)) (given : List Lit) (heights : List ℕ) → AreLevels assigned reasons given heights → IsLevel assigned reasons given (length assigned)
top assigned reasons given heights v =
    let it = v.levels (length given) (omega arith) in
    let whole : take (length given) given ≡ given = take-length given in
    subst (λ (h : ℕ). IsLevel assigned reasons given h) (height_above assigned heights (length given) v.as_many)
    (subst (λ (xs : List Lit). IsLevel assigned reasons xs (height_of assigned heights (length given))) whole it)

pub top_has : (assigned : List Lit) (reasons : List (Option ℕ)) (given : List Lit) (heights : List ℕ) → AreLevels assigned reasons given heights → HasAll given assigned
top_has assigned reasons given heights v = subst (λ (xs : List Lit). HasAll given xs) (take-length assigned) (top assigned reasons given heights v).has_given

pub top_given : (assigned : List Lit) (reasons : List (Option ℕ)) (given : List Lit) (heights : List ℕ) → length reasons ≡ length assigned → AreLevels assigned reasons given heights → AreGiven assigned reasons given
top_given assigned reasons given heights many v =
    let a : take (length assigned) assigned ≡ assigned = take-length assigned in
    let b : take (length assigned) reasons ≡ reasons = ap (λ (n : ℕ). take n reasons) (sym many) ∙ take-length reasons in
    rw (← a, ← b) (top assigned reasons given heights v).others_forced

-- heights where the trail grows on top
height_grown : (assigned more : List Lit) (heights : List ℕ) (j : ℕ) → j < length heights → height_of (assigned ++ more) heights j ≡ height_of assigned heights j
height_grown assigned more heights j low = get_or_default heights j (length (assigned ++ more)) (length assigned) low

below_end : (assigned : List Lit) (reasons : List (Option ℕ)) (given : List Lit) (heights : List ℕ) (j : ℕ) → AreLevels assigned reasons given heights → j ≤ length given → height_of assigned heights j ≤ length assigned
below_end assigned reasons given heights j v h = (v.levels j h).low

-- more on top
pub levels_grown : (assigned more : List Lit) (reasons rest : List (Option ℕ)) (given : List Lit) (heights : List ℕ) → length reasons ≡ length assigned → length (reasons ++ rest) ≡ length (assigned ++ more) → AreLevels assigned reasons given heights → AreGiven (assigned ++ more) (reasons ++ rest) given → AreLevels (assigned ++ more) (reasons ++ rest) given heights
levels_grown assigned more reasons rest given heights many all v g = record {
  as_many = v.as_many;
  levels = λ j h. elim (cases_lt j (length heights)) [
    | inl low ↦ subst (λ (k : ℕ). IsLevel (assigned ++ more) (reasons ++ rest) (take j given) k) (sym (height_grown assigned more heights j low)) (level_below assigned more reasons rest (take j given) (height_of assigned heights j) many (v.levels j h))
    | inr high ↦
        let last : j ≡ length given = omega (arith, h, high, v.as_many) in
        let has : HasAll given (assigned ++ more) = λ l e. among_left assigned more (l.var.0) l.negated (top_has assigned reasons given heights v l e) in
        let it = level_whole (assigned ++ more) (reasons ++ rest) given all has g in
        let up : height_of (assigned ++ more) heights j ≡ length (assigned ++ more) = height_above (assigned ++ more) heights j (v.as_many ∙ sym last) in
        let firsts : take j given ≡ given = ap (λ (n : ℕ). take n given) last ∙ take-length given in
        rw (up, firsts) it
  ];
  rise = λ i j h k. elim (cases_lt j (length heights)) [
    | inl low ↦ omega (arith, height_grown assigned more heights j low, height_grown assigned more heights i (omega (arith, low, h)), v.rise i j h k)
    | inr high ↦
        let up : height_of (assigned ++ more) heights j ≡ length (assigned ++ more) = get_or_past heights j (length (assigned ++ more)) (omega (arith, high)) in
        elim (cases_lt i (length heights)) [
          | inl low ↦ omega (arith, up, height_grown assigned more heights i low, below_end assigned reasons given heights i v (omega (arith, h, k)), length-append assigned more)
          | inr past ↦ omega (arith, up, get_or_past heights i (length (assigned ++ more)) past)
        ]
  ];
}

-- one level more, which begins where the trail ended
height_pushed : (assigned new : List Lit) (heights : List ℕ) (j : ℕ) → j ≤ length heights → height_of new (heights ++ length assigned ∷ []) j ≡ height_of assigned heights j
height_pushed assigned new heights j h = elim (cases_lt j (length heights)) [
  | inl low ↦ get_or_append_left heights (length assigned ∷ []) (length new) j low ∙ get_or_default heights j (length new) (length assigned) low
  | inr high ↦
      let last : j ≡ length heights = omega (arith, h, high) in
      get_or_push heights (length assigned) (length new) j (sym last) ∙ sym (get_or_past heights j (length assigned) high)
]

pub levels_pushed : (assigned more : List Lit) (reasons rest : List (Option ℕ)) (given : List Lit) (heights : List ℕ) (l : Lit) → length reasons ≡ length assigned → length (reasons ++ rest) ≡ length (assigned ++ more) → AreLevels assigned reasons given heights → AreGiven (assigned ++ more) (reasons ++ rest) (given ++ l ∷ []) → lists (assigned ++ more) l ≡ true
    → AreLevels (assigned ++ more) (reasons ++ rest) (given ++ l ∷ []) (heights ++ length assigned ∷ [])
levels_pushed assigned more reasons rest given heights l many all v g here = record {
  as_many = omega (arith, v.as_many, length-append heights (length assigned ∷ []), length-append given (l ∷ []));
  levels = λ j h. elim (cases_lt j (length given + 1)) [
    | inl low ↦
        let firsts : take j (given ++ l ∷ []) ≡ take j given = take-append-le j given (l ∷ []) (omega (arith, low)) in
        let up = height_pushed assigned (assigned ++ more) heights j (omega (arith, low, v.as_many)) in
        let it = level_below assigned more reasons rest (take j given) (height_of assigned heights j) many (v.levels j (omega (arith, low))) in
        rw (up, firsts) it
    | inr high ↦
        let last : j ≡ length (given ++ l ∷ []) = omega (arith, h, high, length-append given (l ∷ [])) in
        let up : height_of (assigned ++ more) (heights ++ length assigned ∷ []) j ≡ length (assigned ++ more) = height_above (assigned ++ more) (heights ++ length assigned ∷ []) j (omega (arith, last, v.as_many, length-append heights (length assigned ∷ []), length-append given (l ∷ []))) in
        let firsts : take j (given ++ l ∷ []) ≡ given ++ l ∷ [] = ap (λ (n : ℕ). take n (given ++ l ∷ [])) last ∙ take-length (given ++ l ∷ []) in
        let has : HasAll (given ++ l ∷ []) (assigned ++ more) = λ m e. elim (among_cases given (l ∷ []) (m.var.0) m.negated e) [
          | inl x ↦ among_left assigned more (m.var.0) m.negated (top_has assigned reasons given heights v m x)
          | inr x ↦ one_within (assigned ++ more) l here (m.var.0) m.negated x
        ] in
        rw (up, firsts) (level_whole (assigned ++ more) (reasons ++ rest) (given ++ l ∷ []) all has g)
  ];
  rise = λ i j h k. elim (cases_lt j (length given + 1)) [
    | inl low ↦ omega (arith, height_pushed assigned (assigned ++ more) heights j (omega (arith, low, v.as_many)), height_pushed assigned (assigned ++ more) heights i (omega (arith, low, h, v.as_many)), v.rise i j h (omega (arith, low)))
    | inr high ↦
        let past : length (heights ++ length assigned ∷ []) ≤ j = omega (arith, high, v.as_many, length-append heights (length assigned ∷ [])) in
        let up : height_of (assigned ++ more) (heights ++ length assigned ∷ []) j ≡ length (assigned ++ more) = get_or_past (heights ++ length assigned ∷ []) j (length (assigned ++ more)) past in
        elim (cases_lt i (length given + 1)) [
          | inl low ↦ omega (arith, up, height_pushed assigned (assigned ++ more) heights i (omega (arith, low, v.as_many)), below_end assigned reasons given heights i v (omega (arith, low)), length-append assigned more)
          | inr top_too ↦ omega (arith, up, get_or_past (heights ++ length assigned ∷ []) i (length (assigned ++ more)) (omega (arith, top_too, v.as_many, length-append heights (length assigned ∷ []))))
        ]
  ];
}

-- back to a level
height_back : (assigned : List Lit) (heights : List ℕ) (level count j : ℕ) → j ≤ level → level ≤ length heights → count ≡ height_of assigned heights level → count ≤ length assigned → height_of (take count assigned) (take level heights) j ≡ height_of assigned heights j
height_back assigned heights level count j h k e low = elim (cases_lt j level) [
  | inl less ↦
      get_or-take level heights j (length (take count assigned)) less ∙ get_or_default heights j (length (take count assigned)) (length assigned) (omega (arith, less, k))
  | inr same ↦
      let is : j ≡ level = omega (arith, h, same) in
      get_or_past (take level heights) j (length (take count assigned)) (omega (arith, same, length-take-le level heights k)) ∙ length-take-le count assigned low ∙ e ∙ ap (height_of assigned heights) (sym is)
]

-- the levels below one begin below it
under_level : (assigned : List Lit) (reasons : List (Option ℕ)) (given : List Lit) (heights : List ℕ) (level count j : ℕ) → j < level → level < length given → ((end : ℕ) → count ≡ get_or heights level end) → AreLevels assigned reasons given heights → get_or heights j 0 ≤ count
under_level assigned reasons given heights level count j low h is v =
    omega (arith, v.rise j level (omega (arith, low)) (omega (arith, h)), is (length assigned), get_or_default heights j 0 (length assigned) (omega (arith, low, h, v.as_many)))

pub levels_back : (assigned : List Lit) (reasons : List (Option ℕ)) (given : List Lit) (heights : List ℕ) (level count : ℕ) → level ≤ length given → count ≡ height_of assigned heights level → AreLevels assigned reasons given heights
    → AreLevels (take count assigned) (take count reasons) (take level given) (take level heights)
levels_back assigned reasons given heights level count h e v =
    let low : count ≤ length assigned = omega (arith, e, below_end assigned reasons given heights level v h) in
    let many : level ≤ length heights = omega (arith, h, v.as_many) in
    let short : length (take level given) ≡ level = length-take-le level given h in
    record {
      as_many = length-take-le level heights many ∙ sym short;
      levels = λ j k.
          let inside : j ≤ level = omega (arith, k, short) in
          let up = height_back assigned heights level count j inside many e low in
          let under : height_of assigned heights j ≤ count = omega (arith, e, v.rise j level inside h) in
          let it = v.levels j (omega (arith, inside, h)) in
          let a : take (height_of assigned heights j) (take count assigned) ≡ take (height_of assigned heights j) assigned = take-take (height_of assigned heights j) count assigned under in
          let b : take (height_of assigned heights j) (take count reasons) ≡ take (height_of assigned heights j) reasons = take-take (height_of assigned heights j) count reasons under in
          let firsts : take j (take level given) ≡ take j given = take-take j level given inside in
          let there : IsLevel (take count assigned) (take count reasons) (take j given) (height_of assigned heights j) = record {
            low = omega (arith, under, length-take-le count assigned low);
            has_given = rw a it.has_given;
            others_forced = rw (a, b) it.others_forced;
          } in
          rw (up, firsts) there;
      rise = λ i j k m.
          let inside : j ≤ level = omega (arith, m, short) in
          omega (arith, height_back assigned heights level count j inside many e low, height_back assigned heights level count i (omega (arith, k, inside)) many e low, v.rise i j k (omega (arith, inside, h)));
    }

-- what is kept, after each change of the trail
pub kept_fixpoint : (old new : State) (levels : List Lit × List ℕ × List ℕ) (q q' : List ℕ) (c c' : ℕ) → length old.reasons ≡ length old.assigned → length new.reasons ≡ length new.assigned → GoesOn old new → take (length old.propagated) new.propagated ≡ old.propagated → c' ≡ c → AreLookedAt (shown old.slots) new.propagated q' → IsKept old levels q c → IsKept new levels q' c'
kept_fixpoint old new levels q q' c c' many all g first e looked k =
    let added : List (Option ℕ) = map Some g.reasons.0 in
    let lengths : length (old.reasons ++ added) ≡ length (old.assigned ++ g.assigned.0) = ap (length {A = Option ℕ}) (sym g.reasons.1) ∙ all ∙ ap (length {A = Lit}) g.assigned.2 in
    let given = given_walked old.assigned g.assigned.0 old.reasons g.reasons.0 levels.0 many lengths (top_given old.assigned old.reasons levels.0 levels.1 many k.levels_are) in
    record {
      places = e ∙ k.places ∙ ap (length {A = Option NormalConstraint}) (sym g.slots);
      looked_at = subst (λ (os : List (Option NormalConstraint)). AreLookedAt (shown os) new.propagated q') (sym g.slots) looked;
      levels_are = rw (g.assigned.2, g.reasons.1) (levels_grown old.assigned g.assigned.0 old.reasons added levels.0 levels.1 many lengths k.levels_are given);
      settled = rw g.slots (settled_on (shown old.slots) old.propagated new.propagated levels.1 levels.2 first k.settled);
    }

given_more : (xs : List Lit) (rs : List (Option ℕ)) (given : List Lit) (l : Lit) → AreGiven xs rs given → AreGiven xs rs (given ++ l ∷ [])
given_more xs rs given l a k d low none = among_left given (l ∷ []) ((get_or xs k d).var.0) (get_or xs k d).negated (a k d low none)

pub kept_opened : (old new : State) (levels pushed : List Lit × List ℕ × List ℕ) (l : Lit) (height count : ℕ) (q q' : List ℕ) (c c' : ℕ) → length old.reasons ≡ length old.assigned → length new.reasons ≡ length new.assigned → IsGiven old new (l ∷ []) → lists new.assigned l ≡ true → c' ≡ c → AreLookedAt (shown old.slots) new.propagated q'
    → pushed ≡ (levels.0 ++ l ∷ [], levels.1 ++ height ∷ [], levels.2 ++ count ∷ []) → height ≡ length old.assigned → new.propagated ≡ old.propagated
    → ((k : ℕ) → k < count → (k < length (shown old.slots)) × (old.propagated ≡ old.assigned) × IsQuiet old.propagated (constraint_at (shown old.slots) k)) → IsKept old levels q c → IsKept new pushed q' c'
kept_opened old new levels pushed l height count q q' c c' many all g here e looked is low same settled k =
    let rest : List (Option ℕ) = g.reasons.0 in
    let lengths : length (old.reasons ++ rest) ≡ length (old.assigned ++ g.added) = ap (length {A = Option ℕ}) (sym g.reasons.1) ∙ all ∙ ap (length {A = Lit}) g.assigned in
    let before = given_more old.assigned old.reasons levels.0 l (top_given old.assigned old.reasons levels.0 levels.1 many k.levels_are) in
    let given = given_added old.assigned g.added old.reasons rest (levels.0 ++ l ∷ []) many before (λ v s f. among_right levels.0 (l ∷ []) v s (g.within v s f)) in
    let there = levels_pushed old.assigned g.added old.reasons rest levels.0 levels.1 l many lengths k.levels_are given (ap (λ (xs : List Lit). lists xs l) (sym g.assigned) ∙ here) in
    record {
      places = e ∙ k.places ∙ ap (length {A = Option NormalConstraint}) (sym g.slots);
      looked_at = subst (λ (os : List (Option NormalConstraint)). AreLookedAt (shown os) new.propagated q') (sym g.slots) looked;
      levels_are = rw (g.assigned, g.reasons.1, is, low) there;
      settled = rw (g.slots, same, is, low) (settled_pushed (shown old.slots) old.propagated old.assigned levels.1 levels.2 count settled k.settled);
    }

pub kept_back : (old new : State) (levels back : List Lit × List ℕ × List ℕ) (level count : ℕ) (q q' : List ℕ) (c c' : ℕ) → level < length levels.0 → ((end : ℕ) → count ≡ get_or levels.1 level end) → new.slots ≡ old.slots → new.assigned ≡ take count old.assigned → new.propagated ≡ take count old.propagated → new.reasons ≡ take count old.reasons → c' ≡ c
    → ((k : ℕ) → get_or levels.2 level 0 ≤ k → k < length old.slots → Contains q' k) → back ≡ (take level levels.0, take level levels.1, take level levels.2) → IsKept old levels q c → IsKept new back q' c'
kept_back old new levels back level count q q' c c' h is slots assigned propagated reasons e queued f k =
    let there : level < length levels.1 = omega (arith, h, k.levels_are.as_many) in
    record {
      places = e ∙ k.places ∙ ap (length {A = Option NormalConstraint}) (sym slots);
      looked_at = rw (slots, propagated) (looked_late old.slots old.propagated levels.1 levels.2 level count q' (is 0) queued k.settled);
      levels_are = rw (assigned, reasons, f) (levels_back old.assigned old.reasons levels.0 levels.1 level count (omega (arith, h)) (is (length old.assigned)) k.levels_are);
      settled = rw (slots, propagated, f) (settled_back (shown old.slots) old.propagated levels.1 levels.2 level count (is 0) there (λ j low. under_level old.assigned old.reasons levels.0 levels.1 level count j low h is k.levels_are) k.settled);
    }

pub height_low : (s : State) (levels : List Lit × List ℕ × List ℕ) (q : List ℕ) (c level : ℕ) → IsKept s levels q c → level ≤ length levels.0 → height_of s.assigned levels.1 level ≤ length s.assigned
height_low s levels q c level k h = below_end s.assigned s.reasons levels.0 levels.1 level k.levels_are h

-- other constraints, the trail as it was
pub kept_same : (old new : State) (levels : List Lit × List ℕ × List ℕ) (q q' : List ℕ) (c c' : ℕ) → new.assigned ≡ old.assigned → new.reasons ≡ old.reasons → c' ≡ length new.slots → AreLookedAt (shown new.slots) new.propagated q' → AreSettled (shown new.slots) new.propagated levels.1 levels.2 → IsKept old levels q c → IsKept new levels q' c'
kept_same old new levels q q' c c' assigned reasons e looked settled k = record {
  places = e;
  looked_at = looked;
  levels_are = rw (assigned, reasons) k.levels_are;
  settled = settled;
}

-- where nothing is given, all is forced
nothing_given : (xs : List Lit) (rs : List (Option ℕ)) → AreGiven xs rs [] → length rs ≡ length xs → (k : ℕ) → k < length rs → get_or rs k None ≡ None → ⊥
nothing_given xs rs a many k low none = false≢true (a k (record { var = record { 0 = 0 }; negated = false }) (omega (arith, low, many)) none)

all_forced : (rs : List (Option ℕ)) → ((k : ℕ) → k < length rs → get_or rs k None ≡ None → ⊥) → AllForced rs
all_forced [] h = ([], refl)
all_forced (None ∷ rs) h = absurd (h 0 (omega arith) refl)
all_forced (Some p ∷ rs) h =
    let rest = all_forced rs (λ k low. h (suc k) (omega (arith, low))) in
    (p ∷ rest.0, ap (λ (os : List (Option ℕ)). Some p ∷ os) rest.1)

pub root_kept : (s : State) (levels : List Lit × List ℕ × List ℕ) (q : List ℕ) (c : ℕ) → length s.reasons ≡ length s.assigned → levels ≡ ([], [], []) → IsKept s levels q c → IsRoot s q c
root_kept s levels q c many e k =
    let none : AreLevels s.assigned s.reasons [] [] = subst (λ (p : List Lit × List ℕ × List ℕ). AreLevels s.assigned s.reasons p.0 p.1) e k.levels_are in
    record {
      places = k.places;
      looked_at = k.looked_at;
      forced = all_forced s.reasons (nothing_given s.assigned s.reasons (top_given s.assigned s.reasons [] [] many none) many);
    }

pub kept_root : (s : State) (levels : List Lit × List ℕ × List ℕ) (q : List ℕ) (c : ℕ) → length s.reasons ≡ length s.assigned → levels ≡ ([], [], []) → IsRoot s q c → IsKept s levels q c
kept_root s levels q c many e r =
    let none : AreLevels s.assigned s.reasons [] [] = record {
      as_many = refl;
      levels = λ j h.
          let first : j ≡ 0 = omega (arith, h) in
          let up : height_of s.assigned [] j ≡ length s.assigned = height_above s.assigned [] j (sym first) in
          let it = level_whole s.assigned s.reasons [] many (λ l f. absurd (false≢true f)) (given_root s.assigned s.reasons [] many r.forced) in
          let firsts : take {A = Lit} j [] ≡ [] = ap (λ (n : ℕ). take {A = Lit} n []) first in
          rw (up, firsts) it;
      rise = λ i j h k. omega (arith, get_or_past [] i (length s.assigned) (omega arith), get_or_past [] j (length s.assigned) (omega arith));
    } in
    record {
      places = r.places;
      looked_at = r.looked_at;
      levels_are = subst (λ (p : List Lit × List ℕ × List ℕ). AreLevels s.assigned s.reasons p.0 p.1) (sym e) none;
      settled = subst (λ (p : List Lit × List ℕ × List ℕ). AreSettled (shown s.slots) s.propagated p.1 p.2) (sym e) (none_settled (shown s.slots) s.propagated);
    }

pub kept_wider : (old new : State) (levels : List Lit × List ℕ × List ℕ) (q : List ℕ) (c : ℕ) → new.slots ≡ old.slots → new.assigned ≡ old.assigned → new.propagated ≡ old.propagated → new.reasons ≡ old.reasons → IsKept old levels q c → IsKept new levels q c
kept_wider old new levels q c slots assigned propagated reasons k =
    let looked : AreLookedAt (shown new.slots) new.propagated q = rw (slots, propagated) k.looked_at in
    let settled : AreSettled (shown new.slots) new.propagated levels.1 levels.2 = rw (slots, propagated) k.settled in
    kept_same old new levels q q c c assigned reasons (k.places ∙ ap (length {A = Option NormalConstraint}) (sym slots)) looked settled k

-- the first literals of an assignment are among it
pub firsts_within : (xs given : List Lit) (k : ℕ) → xs ≡ take k given → (l : Lit) → lists xs l ≡ true → lists given l ≡ true
firsts_within xs given k e l h = take_within given k (l.var.0) l.negated (ap (λ (ys : List Lit). lists ys l) (sym e) ∙ h)

pub kept_given : (s : State) (levels : List Lit × List ℕ × List ℕ) (q : List ℕ) (c k : ℕ) (given : List Lit) → length s.reasons ≡ length s.assigned → levels.0 ≡ take k given → IsKept s levels q c → AreGiven s.assigned s.reasons given
kept_given s levels q c k given many e kept j d low none =
    firsts_within levels.0 given k e (get_or s.assigned j d) (top_given s.assigned s.reasons levels.0 levels.1 many kept.levels_are j d low none)

pub next_first : (xs given : List Lit) (k : ℕ) (d : Lit) → k < length given → xs ≡ take k given → xs ++ get_or given k d ∷ [] ≡ take (k + 1) given
next_first xs given k d low e = ap (λ (ys : List Lit). ys ++ get_or given k d ∷ []) e ∙ sym (take_more given k d low)

pub kept_has : (s : State) (levels : List Lit × List ℕ × List ℕ) (q : List ℕ) (c : ℕ) (given : List Lit) → levels.0 ≡ given → IsKept s levels q c → HasAll given s.assigned
kept_has s levels q c given e k = subst (λ (xs : List Lit). HasAll xs s.assigned) e (top_has s.assigned s.reasons levels.0 levels.1 k.levels_are)

-- more places
pub kept_attached : (old new : State) (levels : List Lit × List ℕ × List ℕ) (q q' : List ℕ) (c c' : ℕ) (more : List (Option NormalConstraint)) → new.slots ≡ old.slots ++ more → new.assigned ≡ old.assigned → new.propagated ≡ old.propagated → new.reasons ≡ old.reasons → c' ≡ length new.slots → AreLookedAt (shown new.slots) new.propagated q' → IsKept old levels q c → IsKept new levels q' c'
kept_attached old new levels q q' c c' more slots assigned propagated reasons e looked k =
    kept_same old new levels q q' c c' assigned reasons e looked (rw (slots, propagated) (settled_more old.slots more old.propagated levels.1 levels.2 k.settled)) k

pub kept_waiting : (old new : State) (levels : List Lit × List ℕ × List ℕ) (q q' : List ℕ) (c c' : ℕ) → new.slots ≡ old.slots → new.assigned ≡ old.assigned → new.propagated ≡ old.propagated → new.reasons ≡ old.reasons → c' ≡ length new.slots → AreLookedAt (shown new.slots) new.propagated q' → IsKept old levels q c → IsKept new levels q' c'
kept_waiting old new levels q q' c c' slots assigned propagated reasons e looked k =
    kept_same old new levels q q' c c' assigned reasons e looked (rw (slots, propagated) k.settled) k

-- back to the last level is nowhere
pub all_levels : (s : State) (levels : List Lit × List ℕ × List ℕ) (q : List ℕ) (c level : ℕ) → level ≡ length levels.0 → IsKept s levels q c → levels ≡ (take level levels.0, take level levels.1, take level levels.2)
all_levels s levels q c level e k =
    let first : take level levels.0 ≡ levels.0 = ap (λ (n : ℕ). take n levels.0) e ∙ take-length levels.0 in
    let second : take level levels.1 ≡ levels.1 = ap (λ (n : ℕ). take n levels.1) (e ∙ sym k.levels_are.as_many) ∙ take-length levels.1 in
    let third : take level levels.2 ≡ levels.2 = ap (λ (n : ℕ). take n levels.2) (e ∙ sym k.levels_are.as_many ∙ sym k.settled.as_many) ∙ take-length levels.2 in
    sym (ap (λ (xs : List Lit). (xs, take level levels.1, take level levels.2)) first ∙ ap (λ (ys : List ℕ). (levels.0, ys, take level levels.2)) second ∙ ap (λ (ys : List ℕ). (levels.0, levels.1, ys)) third)
