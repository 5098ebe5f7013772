-- The last literal of a clause that is not made false is forced, and the clause is quiet then.
use Rattle.std.proofs.Common.{◌≡◌, inl, inr, ℕ, suc, ◌+◌, ◌<◌, ◌≤◌, Bool, true, false, not, cond, Some, List, [], ◌∷◌, ◌++◌, length, get_or, refl, ap, sym, subst, ◌∙◌, arith}
use Rattle.std.proofs.lemmas.Bool.{false≢true}
use Rattle.std.proofs.lemmas.Int.{ints}
use Rattle.std.proofs.lemmas.List.{get_or_default}
use Rattle.linear.specs.declared.term.Lit.{Lit}
use Rattle.normal_form.specs.declared.term.NormalTerm.{NormalTerm}
use Rattle.normal_form.specs.Normal.{Literals, NormalConstraint, Rises, only, sum_over}
use Rattle.normal_form.proofs.SetSums.{only_itself}
use Rattle.linear.specs.Literal.{opposite}
use Rattle.propagate.specs.Literals.{IsConsistent, coefficient_of, lists}
use Rattle.propagate.specs.Passes.{literal_of}
use Rattle.propagate.specs.Slack.{IsForced, not_false}
use Rattle.propagate.specs.Walk.{IsQuiet}
use Rattle.propagate.proofs.Assignments.{among_head, among_right}
use Rattle.ledger.specs.declared.pair.Pair.{Pair}
use Rattle.ledger.specs.Falls.{IsBeside}
use Rattle.ledger.specs.declared.hint.Hint.{Hint}
use Rattle.ledger.specs.declared.hint.Hint.TheVariants as hints
use Rattle.ledger.specs.Hints.{HasFallen, IsHint, IsHintOf}
use Rattle.ledger.specs.Ledgers.{open_sum}
use Rattle.propagate.specs.Trails.{IsFree}
use Rattle.ledger.specs.Watched.{AreOthersFalse, IsPairOf, Tell}
use Rattle.ledger.proofs.ChosenLiterals.{occurs_at}
use Rattle.ledger.proofs.WatchMoves.{others_fallen}
use Rattle.ledger.proofs.WatchedQuiet.{literal_cases, open_after, quiet_one, quiet_open, quiet_two}

within_one : (a b : Bool) (c x y : ℕ) → (a ≡ true → b ≡ true) → x ≤ y → cond a c 0 + x ≤ cond b c 0 + y
within_one false true c x y h k = omega (arith, k)
within_one false false c x y h k = omega (arith, k)
within_one true true c x y h k = omega (arith, k)
within_one true false c x y h k = absurd (false≢true (h refl))

-- a sum over a set is at most that over another one that has its terms
within_terms : (p q : Literals) (ts : List NormalTerm) → ((k : ℕ) (d : NormalTerm) → k < length ts → p ((get_or ts k d).var.0) (get_or ts k d).negated ≡ true → q ((get_or ts k d).var.0) (get_or ts k d).negated ≡ true) → sum_over p ts ≤ sum_over q ts
within_terms p q [] h = omega arith
within_terms p q (t ∷ ts) h = within_one (p (t.var.0) t.negated) (q (t.var.0) t.negated) t.coef (sum_over p ts) (sum_over q ts) (h 0 t (omega arith)) (within_terms p q ts (λ k d low. h (suc k) d (omega (arith, low))))

only_same : (l m : Lit) → m ≡ l → only (l.var.0) l.negated (m.var.0) m.negated ≡ true
only_same l m e = subst (λ (x : Lit). only (l.var.0) l.negated (x.var.0) x.negated ≡ true) (sym e) (only_itself (l.var.0) l.negated)

not_not : (b : Bool) → not b ≡ true → b ≡ false
not_not true e = sym e
not_not false e = refl

-- where all other literals are made false, no more is open than the coefficient of the one that is left
left_open : (assigned : List Lit) (n : NormalConstraint) (l : Lit) → Rises 0 n.terms → ((m : Lit) → 0 < coefficient_of n m → (m ≡ l → ⊥) → lists assigned (opposite m) ≡ true) → open_sum assigned n ≤ coefficient_of n l
left_open assigned n l rises alone = within_terms (not_false assigned) (only (l.var.0) l.negated) n.terms (λ k d low counts.
    let t : NormalTerm = get_or n.terms k d in
    elim (literal_cases (literal_of t) l) [
      | inl e ↦ only_same l (literal_of t) e
      | inr other ↦ absurd (false≢true (sym (not_not (lists assigned (opposite (literal_of t))) counts) ∙ alone (literal_of t) (occurs_at n k t rises low (get_or_default n.terms k d t low)) other))
    ])

alone : (assigned : List Lit) (n : NormalConstraint) (p : Pair) (l other : Lit) → IsBeside (Some p) l other → lists assigned (opposite other) ≡ true → AreOthersFalse assigned n p
    → (m : Lit) → 0 < coefficient_of n m → (m ≡ l → ⊥) → lists assigned (opposite m) ≡ true
alone assigned n p l other (inl (f, s)) fell out m some differs = elim (literal_cases m other) [
  | inl e ↦ ap (λ (x : Lit). lists assigned (opposite x)) e ∙ fell
  | inr apart ↦ out m some (λ e. differs (e ∙ f)) (λ e. apart (e ∙ s))
]
alone assigned n p l other (inr (f, s)) fell out m some differs = elim (literal_cases m other) [
  | inl e ↦ ap (λ (x : Lit). lists assigned (opposite x)) e ∙ fell
  | inr apart ↦ out m some (λ e. apart (e ∙ s)) (λ e. differs (e ∙ f))
]

occurs_beside : (n : NormalConstraint) (p : Pair) (l other : Lit) → IsPairOf n p → IsBeside (Some p) l other → 0 < coefficient_of n l
occurs_beside n p l other of_it (inl (f, s)) = subst (λ (x : Lit). 0 < coefficient_of n x) f of_it.first
occurs_beside n p l other of_it (inr (f, s)) = subst (λ (x : Lit). 0 < coefficient_of n x) f of_it.second

last_forced : (assigned : List Lit) (n : NormalConstraint) (p : Pair) (l other : Lit) → Rises 0 n.terms → IsPairOf n p → Tell assigned n p → IsBeside (Some p) l other → IsFree assigned l → HasFallen assigned other → IsForced assigned l n
last_forced assigned n p l other rises of_it tell beside free fell =
    let out = others_fallen assigned n p l other tell beside free.0 fell.0 fell.1 in
    record {
      unset = free.0;
      opposite_unset = free.1;
      occurs = occurs_beside n p l other of_it beside;
      above = omega (arith, ints, of_it.asks, left_open assigned n l rises (alone assigned n p l other beside fell.1 out));
    }

other_sign : (b : Bool) → b ≡ not b → ⊥
other_sign true e = false≢true (sym e)
other_sign false e = false≢true e

last_quiet : (assigned : List Lit) (n : NormalConstraint) (p : Pair) (l other : Lit) → IsPairOf n p → IsBeside (Some p) l other → IsFree assigned l → IsQuiet (assigned ++ l ∷ []) n
last_quiet assigned n p l other of_it beside free =
    quiet_open (assigned ++ l ∷ []) n p l of_it (occurs_beside n p l other of_it beside)
    (open_after assigned l l (lists (assigned ++ l ∷ []) (opposite l)) free.1 (λ e. other_sign l.negated (ap (λ (x : Lit). x.negated) e)) refl)
    (among_right assigned (l ∷ []) (l.var.0) l.negated (among_head l []))

-- what the two literals tell is so
pub hint_holds : (assigned : List Lit) (n : NormalConstraint) (p : Pair) (h : Hint) → IsConsistent assigned → Rises 0 n.terms → IsPairOf n p → Tell assigned n p → IsHintOf assigned p h → IsHint assigned n h
hint_holds assigned n p hints.Quiet c rises of_it tell (inl t) = quiet_one assigned n p of_it c t
hint_holds assigned n p hints.Quiet c rises of_it tell (inr both) = quiet_two assigned n p of_it both.0 both.1
hint_holds assigned n p (hints.Forces l) c rises of_it tell (other, beside, free, fell) = (last_forced assigned n p l other rises of_it tell beside free fell, last_quiet assigned n p l other of_it beside free)
hint_holds assigned n p hints.Unknown c rises of_it tell h = tt
