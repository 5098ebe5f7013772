-- The literals that one constraint forces, one after another.
use Rattle.std.proofs.Common.{◌≡◌, ℕ, ◌+◌, ◌<◌, ◌≤◌, inl, inr, Bool, true, false, not, cond, Option, None, Some, List, [], ◌∷◌, ◌++◌, length, get_or, map, refl, ap, sym, subst, ◌∙◌, append-nil, append_assoc, length-append, arith}
use Rattle.std.proofs.lemmas.Bool.{cases_lt, false≢true}
use Rattle.std.proofs.lemmas.Bool.Decides.{nat_tests}
use Rattle.std.proofs.lemmas.Int.{ints}
use Rattle.std.proofs.lemmas.List.{get_or_default, length-map, map-append}
use Rattle.linear.specs.declared.term.Lit.{Lit}
use Rattle.normal_form.specs.declared.term.NormalTerm.{NormalTerm}
use Rattle.normal_form.specs.Normal.{NormalConstraint, sum_over, only, Rises}
use Rattle.normal_form.proofs.OneList.{absent}
use Rattle.normal_form.proofs.SetSums.{only_is}
use Rattle.linear.specs.Literal.{opposite}
use Rattle.propagate.specs.Literals.{lists}
use Rattle.propagate.specs.Passes.{literal_of}
use Rattle.propagate.specs.Slack.{IsForced}
use Rattle.propagate.specs.Walk.{IsQuiet}
use Rattle.propagate.proofs.Assignments.{among_right, among_head}
use Rattle.propagate.proofs.Occurrences.{TermForces, nothing_forced}
use Rattle.ledger.specs.Forcing.{AreForced, IsForcedOn}
use Rattle.ledger.specs.Ledgers.{AreReasons, constraint_at, constraint_in, open_sum, shown}
use Rattle.ledger.specs.Orders.{ArePassed, IsDecreasing, coefficient_at, place_in, placed}
use Rattle.propagate.specs.Trails.{IsFree}
use Rattle.trail.specs.Trails.{on_trail}
use Rattle.trail.proofs.AssignedLiterals.{fewer}
use Rattle.ledger.proofs.Opening.{open_less}
use Rattle.ledger.proofs.Reasons.{reasons_push}
use Rattle.ledger.proofs.Standing.{shown_at}

-- a normal constraint has a variable with one sign only
other_sign : (v x : ℕ) (s y : Bool) → only v (not s) x y ≡ true → only v s x y ≡ false
other_sign v x true true h = let e = only_is v x false true h in absurd (false≢true (sym e.1))
other_sign v x true false h = grind (arith, nat_tests)
other_sign v x false true h = grind (arith, nat_tests)
other_sign v x false false h = let e = only_is v x true false h in absurd (false≢true (e.1))

sign_cases : (b o : Bool) (c rest other : ℕ) → (o ≡ true → b ≡ false) → (b ≡ true → other ≡ 0) → (o ≡ true → rest ≡ 0) → (0 < rest → other ≡ 0) → 0 < cond b c 0 + rest → cond o c 0 + other ≡ 0
sign_cases true true c rest other e f g k h = absurd (false≢true (sym (e refl)))
sign_cases true false c rest other e f g k h = omega (arith, f refl)
sign_cases false true c rest other e f g k h = absurd (omega (arith, g refl, h))
sign_cases false false c rest other e f g k h = omega (arith, k (omega (arith, h)))

one_sign : (low : ℕ) (ts : List NormalTerm) (v : ℕ) (s : Bool) → Rises low ts → 0 < sum_over (only v s) ts → sum_over (only v (not s)) ts ≡ 0
one_sign low [] v s r h = absurd (omega (arith, h))
one_sign low (t ∷ ts) v s r h =
    let x = t.var.0 in
    let y = t.negated in
    sign_cases (only v s x y) (only v (not s) x y) t.coef (sum_over (only v s) ts) (sum_over (only v (not s)) ts)
    (other_sign v x s y)
    (λ e. absent (x + 1) ts r.2 v (not s) (omega (arith, (only_is v x s y e).0)))
    (λ e. absent (x + 1) ts r.2 v s (omega (arith, (only_is v x (not s) y e).0)))
    (one_sign (x + 1) ts v s r.2) h

-- what a constraint forces does not change its slack
pub same_open : (assigned : List Lit) (l : Lit) (n : NormalConstraint) → Rises 0 n.terms → IsForced assigned l n → open_sum (assigned ++ l ∷ []) n ≡ open_sum assigned n
same_open assigned l n r f = omega (arith, open_less assigned l n f.unset, one_sign 0 n.terms (l.var.0) l.negated r f.occurs)

all_same_open : (n : NormalConstraint) (assigned ls : List Lit) → Rises 0 n.terms → AreForced n assigned ls → open_sum (assigned ++ ls) n ≡ open_sum assigned n
all_same_open n assigned [] r f = ap (λ (xs : List Lit). open_sum xs n) (append-nil assigned)
all_same_open n assigned (l ∷ ls) r f =
    ap (λ (xs : List Lit). open_sum xs n) (sym (append_assoc assigned (l ∷ []) ls)) ∙ all_same_open n (assigned ++ l ∷ []) ls r f.1 ∙ same_open assigned l n r f.0

pub slack_kept : (n : NormalConstraint) (place : ℕ) (xs : List Lit) (rs : List (Option ℕ)) (ys : List Lit) (ss : List (Option ℕ)) (slack : ℕ) → Rises 0 n.terms → IsForcedOn n place xs rs ys ss → open_sum xs n ≡ n.degree + slack → open_sum ys n ≡ n.degree + slack
slack_kept n place xs rs ys ss slack r f e = ap (λ (zs : List Lit). open_sum zs n) f.longer ∙ all_same_open n xs f.literals r f.forced ∙ e

pub forced_none : (n : NormalConstraint) (place : ℕ) (xs : List Lit) (rs : List (Option ℕ)) → IsForcedOn n place xs rs xs rs
forced_none n place xs rs = record { literals = []; forced = tt; longer = sym (append-nil xs); reasoned = sym (append-nil rs) }

pub forced_one : (n : NormalConstraint) (place : ℕ) (xs ys : List Lit) (rs ss : List (Option ℕ)) (l : Lit) → IsForced xs l n → ys ≡ xs ++ l ∷ [] → ss ≡ rs ++ Some place ∷ [] → IsForcedOn n place xs rs ys ss
forced_one n place xs ys rs ss l f e g = record { literals = l ∷ []; forced = (f, tt); longer = e; reasoned = g }

are_both : (n : NormalConstraint) (given xs ys : List Lit) → AreForced n given xs → AreForced n (given ++ xs) ys → AreForced n given (xs ++ ys)
are_both n given [] ys f g = subst (λ (zs : List Lit). AreForced n zs ys) (append-nil given) g
are_both n given (l ∷ ls) ys f g = (f.0, are_both n (given ++ l ∷ []) ls ys f.1 (subst (λ (zs : List Lit). AreForced n zs ys) (sym (append_assoc given (l ∷ []) ls)) g))

pub forced_both : (n : NormalConstraint) (place : ℕ) (xs ys zs : List Lit) (rs ss ts : List (Option ℕ)) → IsForcedOn n place xs rs ys ss → IsForcedOn n place ys ss zs ts → IsForcedOn n place xs rs zs ts
forced_both n place xs ys zs rs ss ts f g = record {
  literals = f.literals ++ g.literals;
  forced = are_both n xs f.literals g.literals f.forced (subst (λ (ls : List Lit). AreForced n ls g.literals) f.longer g.forced);
  longer = g.longer ∙ ap (λ (ls : List Lit). ls ++ g.literals) f.longer ∙ append_assoc xs f.literals g.literals;
  reasoned = g.reasoned ∙ ap (λ (os : List (Option ℕ)). os ++ map (λ (l : Lit). Some place) g.literals) f.reasoned ∙ append_assoc rs (map (λ (l : Lit). Some place) f.literals) (map (λ (l : Lit). Some place) g.literals)
      ∙ ap (λ (os : List (Option ℕ)). rs ++ os) (sym (map-append (λ (l : Lit). Some place) f.literals g.literals));
}

-- each of them has its reason
pub reasons_forced : (ns : List NormalConstraint) (place : ℕ) (xs ls : List Lit) (rs : List (Option ℕ)) → place < length ns → AreReasons ns xs rs → AreForced (constraint_at ns place) xs ls → AreReasons ns (xs ++ ls) (rs ++ map (λ (l : Lit). Some place) ls)
reasons_forced ns place xs [] rs low a f = subst (λ (os : List (Option ℕ)). AreReasons ns (xs ++ []) os) (sym (append-nil rs)) (subst (λ (ks : List Lit). AreReasons ns ks rs) (sym (append-nil xs)) a)
reasons_forced ns place xs (l ∷ ls) rs low a f =
    let more = reasons_forced ns place (xs ++ l ∷ []) ls (rs ++ Some place ∷ []) low (reasons_push ns xs rs l (Some place) a (low, f.0)) f.1 in
    subst (λ (os : List (Option ℕ)). AreReasons ns (xs ++ l ∷ ls) os) (append_assoc rs (Some place ∷ []) (map (λ (m : Lit). Some place) ls))
    (subst (λ (ks : List Lit). AreReasons ns ks ((rs ++ Some place ∷ []) ++ map (λ (m : Lit). Some place) ls)) (append_assoc xs (l ∷ []) ls) more)

pub reasons_on : (slots : List (Option NormalConstraint)) (place : ℕ) (n : NormalConstraint) (xs ys : List Lit) (rs ss : List (Option ℕ)) → place < length slots → get_or slots place None ≡ Some n → AreReasons (shown slots) xs rs → IsForcedOn n place xs rs ys ss → AreReasons (shown slots) ys ss
reasons_on slots place n xs ys rs ss low there a f =
    let shows : constraint_at (shown slots) place ≡ n = shown_at slots place ∙ ap constraint_in there in
    let forced : AreForced (constraint_at (shown slots) place) xs f.literals = subst (λ (m : NormalConstraint). AreForced m xs f.literals) (sym shows) f.forced in
    let more = reasons_forced (shown slots) place xs f.literals rs (omega (arith, low, length-map slots constraint_in)) a forced in
    subst (λ (os : List (Option ℕ)). AreReasons (shown slots) ys os) (sym f.reasoned) (subst (λ (ks : List Lit). AreReasons (shown slots) ks (rs ++ map (λ (l : Lit). Some place) f.literals)) (sym f.longer) more)

-- there are as many reasons as literals
pub as_many_on : (n : NormalConstraint) (place : ℕ) (xs ys : List Lit) (rs ss : List (Option ℕ)) → length rs ≡ length xs → IsForcedOn n place xs rs ys ss → length ss ≡ length ys
as_many_on n place xs ys rs ss e f =
    omega (arith, e, ap (length {A = Lit}) f.longer, ap (length {A = Option ℕ}) f.reasoned, length-append xs f.literals, length-append rs (map (λ (l : Lit). Some place) f.literals), length-map f.literals (λ (l : Lit). Some place))

-- a literal that is pushed stands behind all others
pub pushed_on : (a b : List Lit × ℕ × List Lit) (l m : Lit) → b ≡ (a.0, a.1, a.2 ++ m ∷ []) → m ≡ l → on_trail b ≡ on_trail a ++ l ∷ []
pushed_on a b l m e f = ap on_trail e ∙ sym (append_assoc a.0 a.2 (m ∷ [])) ∙ ap (λ (x : Lit). on_trail a ++ x ∷ []) f

-- a literal that is free behind other literals is free before them
free_before : (xs new ys : List Lit) (l : Lit) → new ≡ xs ++ ys → IsFree new l → IsFree xs l
free_before xs new ys l e f =
    let here : IsFree (xs ++ ys) l = rw e at f in
    (fewer xs ys (l.var.0) l.negated (lists xs l) refl here.0, fewer xs ys (l.var.0) (not l.negated) (lists xs (opposite l)) refl here.1)

-- a literal that is listed is not free
pub free_no_more : (xs new : List Lit) (l : Lit) → new ≡ xs ++ l ∷ [] → IsFree new l → ⊥
free_no_more xs new l e f =
    let here : IsFree (xs ++ l ∷ []) l = rw e at f in
    false≢true (sym here.0 ∙ among_right xs (l ∷ []) (l.var.0) l.negated (among_head l []))

-- what is passed before other literals is passed behind them
pub still_passed : (terms : List NormalTerm) (order : List ℕ) (xs new ls : List Lit) (count : ℕ) → ArePassed terms order xs count → new ≡ xs ++ ls → ArePassed terms order new count
still_passed terms order xs new ls count done e k h free = done k h (free_before xs new ls (literal_of (placed terms (place_in order k))) e free)

pub passed_more : (n : NormalConstraint) (order : List ℕ) (xs new ls : List Lit) (index : ℕ) (t : NormalTerm) → ArePassed n.terms order xs index → new ≡ xs ++ ls → index < length n.terms → IsDecreasing n.terms order → t ≡ get_or n.terms (place_in order index) t → (IsFree new (literal_of t) → ⊥) → ArePassed n.terms order new (index + 1)
passed_more n order xs new ls index t done e low o is none k h free = elim (cases_lt k index) [
  | inl before ↦ still_passed n.terms order xs new ls index done e k before free
  | inr past ↦
      let same : k ≡ index = omega (arith, h, past) in
      let its : placed n.terms (place_in order index) ≡ t = get_or_default n.terms (place_in order index) (record { coef = 0; var = record { 0 = 0 }; negated = false }) t (o.below index low) ∙ sym is in
      none (subst (λ (u : NormalTerm). IsFree new (literal_of u)) its (subst (λ (j : ℕ). IsFree new (literal_of (placed n.terms (place_in order j)))) same free))
]

-- where all terms before an index are passed, and the coefficient there is not above the slack, nothing is forced
pub quiet_from : (n : NormalConstraint) (order : List ℕ) (assigned : List Lit) (slack index : ℕ) → Rises 0 n.terms → open_sum assigned n ≡ n.degree + slack → IsDecreasing n.terms order → ArePassed n.terms order assigned index
    → (index < length n.terms → coefficient_at n.terms (place_in order index) ≤ slack) → IsQuiet assigned n
quiet_from n order assigned slack index rises has o done small = (
  λ b. omega (arith, ints, b, has),
  nothing_forced assigned n slack rises has (λ k d low can.
      let at = o.each k low in
      let here : TermForces assigned slack (placed n.terms k) = subst (λ (t : NormalTerm). TermForces assigned slack t) (get_or_default n.terms k d (record { coef = 0; var = record { 0 = 0 }; negated = false }) low) can in
      elim (cases_lt at.0 index) [
        | inl before ↦
            let there : TermForces assigned slack (placed n.terms (place_in order at.0)) = subst (λ (j : ℕ). TermForces assigned slack (placed n.terms j)) (sym at.2) here in
            done at.0 before (there.1, there.2)
        | inr past ↦
            let first : index < length n.terms = omega (arith, past, at.1) in
            let most : coefficient_at n.terms (place_in order at.0) ≤ coefficient_at n.terms (place_in order index) = o.decreases index at.0 past at.1 in
            let same : coefficient_at n.terms (place_in order at.0) ≡ coefficient_at n.terms k = ap (coefficient_at n.terms) at.2 in
            absurd (omega (arith, here.0, small first, most, same))
      ]),
)

-- the coefficient at a place is that of the term there
pub coefficient_there : (ts : List NormalTerm) (place : ℕ) (t : NormalTerm) → place < length ts → t ≡ get_or ts place t → coefficient_at ts place ≡ t.coef
coefficient_there ts place t low is = ap (λ (u : NormalTerm). u.coef) (get_or_default ts place (record { coef = 0; var = record { 0 = 0 }; negated = false }) t low ∙ sym is)
