-- The end of a trail told as it stands there, and what stands below it left out.
use Rattle.std.proofs.Common.{◌≡◌, ℕ, zero, suc, ◌+◌, ◌<◌, ◌≤◌, inl, inr, Bool, true, false, Option, None, Some, List, [], ◌∷◌, ◌++◌, length, get_or, map, take, refl, ap, sym, subst, ◌∙◌, ◌-◌, append_assoc, length-append, arith}
use Rattle.std.proofs.lemmas.Bool.{false≢true}
use Rattle.std.proofs.lemmas.List.{get_or_default, take_more}
use Rattle.std.proofs.Math.Seq.{get_or-append_right, take-length}
use Rattle.linear.specs.declared.term.Lit.{Lit}
use Rattle.normal_form.specs.Normal.{NormalConstraint}
use Rattle.linear.specs.Literal.{opposite}
use Rattle.propagate.specs.Literals.{among, lists, IsConsistent, SameLiterals}
use Rattle.propagate.proofs.Closure.{same_fixpoint}
use Rattle.propagate.proofs.ChainEnds.{by_set}
use Rattle.propagate.proofs.Assignments.{among_cases}
use Rattle.propagate.proofs.SameAssignments.{same_falsified, same_pushed, turned_same, within_same}
use Rattle.watch.specs.declared.chain.Chain.{Chain}
use Rattle.watch.specs.declared.chain.Step.{Step}
use Rattle.watch.specs.Givens.{HasAll, IsDecided}
use Rattle.watch.specs.Keeping.{IsFixpointOrFalsified}
use Rattle.ledger.specs.Ledgers.{State, AreReasons, IsReason}
use Rattle.watch.specs.Steps.{AreGiven, AreSteps, IsFound, IsFoundOfLast, IsTold, literals_of}
use Rattle.watch.proofs.Deciding.{reason_at}
use Rattle.propagate.proofs.Positions.{listed_at}
use Rattle.watch.proofs.ToldTrail.{literals_push, not_listed, reason_is, same_steps, steps_push, told_given, told_none, told_one}

any : Lit
any = record { var = record { 0 = 0 }; negated = false }

-- one literal more, with its reason
pub tail_more : (ns : List NormalConstraint) (xs : List Lit) (rs : List (Option ℕ)) (start k place : ℕ) (l : Lit) (steps : List Step) → AreReasons ns xs rs → k < length xs → get_or xs k l ≡ l → get_or rs k None ≡ Some place → AreSteps ns (take start xs) steps → take start xs ++ literals_of steps ≡ take k xs
    → AreSteps ns (take start xs) (steps ++ record { literal = l; place = place } ∷ []) × (take start xs ++ literals_of (steps ++ record { literal = l; place = place } ∷ []) ≡ take (k + 1) xs)
tail_more ns xs rs start k place l steps r low is reason c e =
    let s : Step = record { literal = l; place = place } in
    let first : List Lit = take start xs in
    let base : IsReason ns (take k xs) l (get_or rs k None) = subst (λ (m : Lit). IsReason ns (take k xs) m (get_or rs k None)) is (r.forced k l low) in
    let forced : IsReason ns (first ++ literals_of steps) l (Some place) = subst (λ (ys : List Lit). IsReason ns ys l (Some place)) (sym e) (reason_is ns (take k xs) l (get_or rs k None) (Some place) base reason) in (
      steps_push ns first steps s c forced,
      ap (λ (ys : List Lit). first ++ ys) (literals_push steps s)
          ∙ sym (append_assoc first (literals_of steps) (l ∷ []))
          ∙ ap (λ (ys : List Lit). ys ++ l ∷ []) e
          ∙ sym (take_more xs k l low ∙ ap (λ (m : Lit). take k xs ++ m ∷ []) is),
    )

-- what stands behind a literal that was decided has reasons
some_is_not_none : (p : ℕ) (o : Option ℕ) → o ≡ Some p → o ≡ None → ⊥
some_is_not_none p o e f = cc

pub decided_reasons : (old new : State) (last : Lit) (from k : ℕ) → from ≡ length old.assigned → length old.reasons ≡ length old.assigned → length new.reasons ≡ length new.assigned → IsDecided old new last → from + 1 ≤ k → k < length new.assigned → get_or new.reasons k None ≡ None → ⊥
decided_reasons old new last from k is many all d after low none =
    let first : List (Option ℕ) = old.reasons ++ None ∷ [] in
    let more : List (Option ℕ) = map Some d.places in
    let short : length first ≡ from + 1 = omega (arith, is, many, length-append old.reasons (None ∷ [])) in
    let there : get_or new.reasons k None ≡ get_or more (k - length first) None = ap (λ (rs : List (Option ℕ)). get_or rs k None) d.reasons ∙ get_or-append_right first more k None (omega (arith, after, short)) in
    some_is_not_none (get_or d.places (k - length first) 0) (get_or new.reasons k None)
    (there ∙ reason_at d.places more (k - length first) refl (omega (arith, low, all, after, short, ap (length {A = Option ℕ}) d.reasons, length-append first more))) none

-- a trail on which all that is given stands, told whole
told_next : (ns : List NormalConstraint) (given xs : List Lit) (k : ℕ) (l : Lit) (steps : List Step) (r : Option ℕ) (b : Bool) → k < length xs → get_or xs k l ≡ l → IsTold ns given (take k xs) steps → IsConsistent given → lists given (opposite l) ≡ false → lists given l ≡ b → IsReason ns (take k xs) l r → (r ≡ None → lists given l ≡ true)
    → (more : List Step) × IsTold ns given (take (k + 1) xs) more
told_next ns given xs k l steps r true low is t consistent free e reason none = (steps, told_given ns given xs steps k l low is t consistent e)
told_next ns given xs k l steps None false low is t consistent free e reason none = absurd (false≢true (sym e ∙ none refl))
told_next ns given xs k l steps (Some place) false low is t consistent free e reason none =
    (steps ++ record { literal = l; place = place } ∷ [], told_one ns given xs steps k place l low is t reason e free)

told_to : (ns : List NormalConstraint) (given xs : List Lit) (rs : List (Option ℕ)) → AreReasons ns xs rs → AreGiven xs rs given → HasAll given xs → IsConsistent xs → (k : ℕ) → k ≤ length xs → (steps : List Step) × IsTold ns given (take k xs) steps
told_to ns given xs rs r a h consistent zero low = ([], told_none ns given xs)
told_to ns given xs rs r a h consistent (suc k) high =
    let low : k < length xs = omega (arith, high) in
    let l : Lit = get_or xs k any in
    let is : get_or xs k l ≡ l = get_or_default xs k l any low in
    let one : suc k ≡ k + 1 = omega arith in
    let before = told_to ns given xs rs r a h consistent k (omega (arith, low)) in
    let free : lists given (opposite l) ≡ false = not_listed given (opposite l) (lists given (opposite l)) refl (λ e. consistent (l, listed_at xs k any low, h (opposite l) e)) in
    subst (λ (j : ℕ). (steps : List Step) × IsTold ns given (take j xs) steps) (sym one)
    (told_next ns given xs k l before.0 (get_or rs k None) (lists given l) low is before.1 (λ c. consistent (c.0, h c.0 c.1, h (opposite c.0) c.2)) free refl (r.forced k any low) (a k any low))

-- the same literals in another order
same_bool : (b d : Bool) → (b ≡ true → d ≡ true) → (d ≡ true → b ≡ true) → b ≡ d
same_bool true d f g = sym (f refl)
same_bool false true f g = g refl
same_bool false false f g = refl

told_same : (ns : List NormalConstraint) (given xs : List Lit) (steps : List Step) → HasAll given xs → IsTold ns given xs steps → SameLiterals xs (given ++ literals_of steps)
told_same ns given xs steps h t v s =
    let ys : List Lit = given ++ literals_of steps in
    same_bool (among xs v s) (among ys v s) (by_set xs ys t.covers v s)
    (by_set ys xs (λ l e. elim (among_cases given (literals_of steps) (l.var.0) l.negated e) [
      | inl x ↦ h l x
      | inr x ↦ t.inside l x
    ]) v s)

same_end : (ns : List NormalConstraint) (xs ys : List Lit) (falsified : Option ℕ) → SameLiterals xs ys → IsFixpointOrFalsified ns xs falsified → IsFixpointOrFalsified ns ys falsified
same_end ns xs ys None same q = same_fixpoint ns ys xs q (within_same ys xs (turned_same xs ys same)) (within_same xs ys same)
same_end ns xs ys (Some place) same b = (b.0, b.1, same_falsified xs ys b.0 same b.2)

same_found : (ns : List NormalConstraint) (xs ys : List Lit) (c : Chain) → SameLiterals xs ys → IsFound ns xs c → IsFound ns ys c
same_found ns xs ys c same f =
    let steps = c.steps.items in
    record {
      chain = same_steps ns xs ys steps same f.chain;
      end = same_end ns (xs ++ literals_of steps) (ys ++ literals_of steps) c.falsified (same_pushed xs ys (literals_of steps) same) f.end;
    }

-- what stands on the trail can be left out
pub found_of_last : (ns : List NormalConstraint) (before xs : List Lit) (rs : List (Option ℕ)) (last : Lit) (c : Chain) → AreReasons ns xs rs → AreGiven xs rs before → HasAll before xs → IsConsistent xs → IsFound ns (xs ++ last ∷ []) c → IsFoundOfLast ns before last c
found_of_last ns before xs rs last c r a h consistent f =
    let all = told_to ns before xs rs r a h consistent (length xs) (omega arith) in
    let t : IsTold ns before xs all.0 = subst (λ (ys : List Lit). IsTold ns before ys all.0) (take-length xs) all.1 in
    record {
      left_out = all.0;
      chain = t.chain;
      found = same_found ns (xs ++ last ∷ []) ((before ++ literals_of all.0) ++ last ∷ []) c (same_pushed xs (before ++ literals_of all.0) (last ∷ []) (told_same ns before xs all.0 h t)) f;
    }
