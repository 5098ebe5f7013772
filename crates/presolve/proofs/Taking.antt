-- Which literals are taken, one variable after the other.
use Rattle.std.proofs.Common.{◌≡◌, ℕ, ◌+◌, ◌<◌, ◌≤◌, ◌⊎◌, inl, inr, Bool, true, false, not, List, [], ◌∷◌, ◌++◌, Option, Some, None, Contains, length, get_or, refl, sym, ap, subst, ◌∙◌, arith}
use Rattle.std.specs.Prelude.{◌↔◌, IfSome, IsNone, option_to_list}
use Rattle.std.proofs.lemmas.Bool.{cases_lt, false≢true}
use Rattle.std.proofs.lemmas.List.{append-nil}
use Rattle.std.proofs.lemmas.List.Elements.{Contains-append_left, Contains-push, Contains-push_cases, Contains-get_or}
use Rattle.std.proofs.lemmas.List.Quantifiers.{all_pairs_push}
use Rattle.linear.specs.Opb.{Opb}
use Rattle.linear.specs.declared.term.Lit.{Lit}
use Rattle.linear.specs.declared.term.Var.{Var}
use Rattle.presolve.specs.Fixing.{AreFixed, CostsNothing, IsFixable, IsFixed}
use Rattle.presolve.specs.Standing.{StandsNowhere}
use Rattle.presolve.specs.Uses.{AreTakenBelow, IsTaken, IsTakenOf, stands, unused}
use Rattle.presolve.specs.declared.uses.Uses.{Uses}

-- the choice for a variable
abbrev pub Chooses : Uses → ℕ → Option Lit → Type 0
Chooses uses v found = (l : Lit) → (found ≡ Some l) ↔ ((l.var ≡ record { 0 = v }) × IsTakenOf uses l)

at_variable : (table : List Uses) (l : Lit) (v : ℕ) → v ≡ l.var.0 → IsTakenOf (get_or table v unused) l → IsTaken table l
at_variable table l v e h = subst (λ n. IsTakenOf (get_or table n unused) l) e h

of_variable : (table : List Uses) (l : Lit) (v : ℕ) → l.var.0 ≡ v → IsTaken table l → IsTakenOf (get_or table v unused) l
of_variable table l v e h = subst (λ n. IsTakenOf (get_or table n unused) l) e h

pub none_taken : (table : List Uses) → AreTakenBelow table 0 []
none_taken table = (λ i j d lt within. absurd (omega (arith, within)), λ l. (λ h. absurd (omega (arith, h.1)), λ h. absurd (omega (arith, h.0))))

taken_none : (table : List Uses) (i : ℕ) (ls : List Lit) (found : Option Lit) → found ≡ None → Chooses (get_or table i unused) i found → AreTakenBelow table i ls → AreTakenBelow table (i + 1) ls
taken_none table i ls found is chooses before = (before.0, λ l. (λ h. let k = (before.1 l).0 h in (omega (arith, k.0), k.1), λ h. by l h (cases_lt (l.var.0) i)))
  where
    by : (l : Lit) → (l.var.0 < i + 1) × IsTaken table l → (l.var.0 < i) ⊎ (i ≤ l.var.0) → Contains ls l
    by l h (inl below) = (before.1 l).1 (below, h.1)
    by l h (inr above) =
        let e : l.var.0 ≡ i = omega (arith, h.0, above) in
        let some : found ≡ Some l = (chooses l).1 (ap (λ n. record { 0 = n }) e, of_variable table l i e h.1) in
        absurd (false≢true (sym (subst (λ (o : Option Lit). IsNone o) (sym is ∙ some) refl)))

taken_some : (table : List Uses) (i : ℕ) (ls : List Lit) (found : Option Lit) (k : Lit) → found ≡ Some k → Chooses (get_or table i unused) i found → AreTakenBelow table i ls → AreTakenBelow table (i + 1) (ls ++ k ∷ [])
taken_some table i ls found k is chooses before = (all_pairs_push (λ x y. x.var.0 < y.var.0) ls k before.0 below_new, λ l. (λ h. there l (Contains-push_cases ls k l h), λ h. back l h (cases_lt (l.var.0) i)))
  where
    new : (k.var ≡ record { 0 = i }) × IsTakenOf (get_or table i unused) k
    new = (chooses k).0 is

    number : k.var.0 ≡ i
    number = ap (λ (v : Var). v.0) new.0

    below_new : (j : ℕ) (d : Lit) → j < length ls → (get_or ls j d).var.0 < k.var.0
    below_new j d lt =
        let here : ((get_or ls j d).var.0 < i) × IsTaken table (get_or ls j d) = (before.1 (get_or ls j d)).0 (Contains-get_or ls j d lt) in
        omega (arith, here.0, number)

    there : (l : Lit) → Contains ls l ⊎ (k ≡ l) → (l.var.0 < i + 1) × IsTaken table l
    there l (inl old) = let h = (before.1 l).0 old in (omega (arith, h.0), h.1)
    there l (inr e) =
        let h = (chooses l).0 (is ∙ ap Some e) in
        let at : l.var.0 ≡ i = ap (λ (v : Var). v.0) h.0 in
        (omega (arith, at), at_variable table l i (sym at) h.1)

    back : (l : Lit) → (l.var.0 < i + 1) × IsTaken table l → (l.var.0 < i) ⊎ (i ≤ l.var.0) → Contains (ls ++ k ∷ []) l
    back l h (inl below) = Contains-append_left ls (k ∷ []) l ((before.1 l).1 (below, h.1))
    back l h (inr above) =
        let e : l.var.0 ≡ i = omega (arith, h.0, above) in
        let some : found ≡ Some l = (chooses l).1 (ap (λ n. record { 0 = n }) e, of_variable table l i e h.1) in
        let same : k ≡ l = subst (λ (o : Option Lit). IfSome o (λ x. k ≡ x)) (sym is ∙ some) refl in
        subst (Contains (ls ++ k ∷ [])) same (Contains-push ls k)

pub taken_more : (table : List Uses) (i : ℕ) (ls : List Lit) (found : Option Lit) → Chooses (get_or table i unused) i found → AreTakenBelow table i ls → AreTakenBelow table (i + 1) (ls ++ option_to_list found)
taken_more table i ls None chooses before = subst (AreTakenBelow table (i + 1)) (sym (append-nil ls)) (taken_none table i ls None refl chooses before)
taken_more table i ls (Some k) chooses before = taken_some table i ls (Some k) k refl chooses before

-- the table says what may be fixed
pub taken_fixed : (p : Opb) (table : List Uses) (ls : List Lit)
    → ((v : ℕ) (s : Bool) → v < length p.names → (stands table v s ≡ false) ↔ (StandsNowhere p.constraints v s × CostsNothing p.objective v (not s)))
    → AreTakenBelow table (length p.names) ls → AreFixed p ls
taken_fixed p table ls wanted taken = record { order = taken.0; exact = λ l. (λ h. let k = (taken.1 l).0 h in to_fixed l k.0 k.1, λ h. (taken.1 l).1 (h.fixable.variable, from_fixed l h)) }
  where
    to_fixable : (v : ℕ) (s : Bool) → v < length p.names → stands table v (not s) ≡ false → IsFixable p (record { var = record { 0 = v }; negated = s })
    to_fixable v true inside h = let k = (wanted v false inside).0 h in record { variable = inside; opposite = k.0; objective = k.1 }
    to_fixable v false inside h = let k = (wanted v true inside).0 h in record { variable = inside; opposite = k.0; objective = k.1 }

    from_fixable : (v : ℕ) (s : Bool) → IsFixable p (record { var = record { 0 = v }; negated = s }) → stands table v (not s) ≡ false
    from_fixable v true h = (wanted v false h.variable).1 (h.opposite, h.objective)
    from_fixable v false h = (wanted v true h.variable).1 (h.opposite, h.objective)

    to_fixed : (l : Lit) → l.var.0 < length p.names → IsTaken table l → IsFixed p l
    to_fixed l inside h = record { fixable = to_fixable (l.var.0) l.negated inside h.0; first = λ turned other. h.1 turned (from_fixable (l.var.0) false other) }

    from_fixed : (l : Lit) → IsFixed p l → IsTaken table l
    from_fixed l h = (from_fixable (l.var.0) l.negated h.fixable, λ turned free. h.first turned (to_fixable (l.var.0) false h.fixable.variable free))
