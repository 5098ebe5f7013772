-- What two literals that watch a clause tell of it, when a literal falls and when one is backtracked.
use Rattle.std.proofs.Common.{◌≡◌, ◌⊎◌, inl, inr, ℕ, ◌+◌, ◌<◌, ◌≤◌, Bool, true, false, not, Contains, Option, None, Some, List, [], ◌∷◌, ◌++◌, length, length-append, get_or, take, refl, ap, sym, subst, ◌∙◌, arith}
use Rattle.std.proofs.lemmas.Bool.{false≢true, cases_eq, cases_lt}
use Rattle.std.proofs.lemmas.Int.{ints}
use Rattle.std.proofs.lemmas.List.{take-append-le}
use Rattle.std.proofs.Math.Seq.{take-length}
use Rattle.linear.specs.declared.term.Lit.{Lit}
use Rattle.normal_form.specs.Normal.{NormalConstraint, only}
use Rattle.normal_form.proofs.SetSums.{Within, only_is, sum_apart, sum_within}
use Rattle.linear.specs.Literal.{opposite}
use Rattle.propagate.specs.Literals.{IsConsistent, coefficient_of, lists}
use Rattle.propagate.specs.Slack.{IsForced, not_false}
use Rattle.propagate.specs.Walk.{IsQuiet}
use Rattle.propagate.proofs.Consistency.{only_here}
use Rattle.propagate.proofs.Assignments.{among_cases, among_left}
use Rattle.propagate.proofs.Occurrences.{same_literal}
use Rattle.ledger.specs.declared.pair.Pair.{Pair}
use Rattle.ledger.specs.Falls.{AreHandled, IsAt, IsBeside, IsHandled, IsOneOf, IsOneTrue}
use Rattle.ledger.specs.Ledgers.{open_sum}
use Rattle.linear.specs.Literal.{code}
use Rattle.trail.proofs.AssignedLiterals.{take_long}
use Rattle.occurrences.proofs.Entering.{same_code}
use Rattle.ledger.specs.Watched.{AreOthersFalse, AreWatched, IsOpen, IsPairOf, IsWatched, StandsIn, Tell, Watching}

abbrev Slots : Type 0
Slots = List (Option NormalConstraint)

-- two literals are the same or not
pub literal_cases : (l m : Lit) → (l ≡ m) ⊎ (l ≡ m → ⊥)
literal_cases l m = elim (cases_eq (code l) (code m)) [
  | inl e ↦ let same = same_code l m e in inl (same_literal l m same.0 same.1)
  | inr other ↦ inr (λ f. other (ap code f))
]

-- an open literal counts, and two open ones count both
counts_open : (assigned : List Lit) (l : Lit) → IsOpen assigned l → Within (only (l.var.0) l.negated) (not_false assigned)
counts_open assigned l o v s here = let same = only_is (l.var.0) v l.negated s here in ap not (here_too same.0 same.1)
  where
    here_too : v ≡ l.var.0 → s ≡ l.negated → lists assigned (record { var = record { 0 = v }; negated = not s }) ≡ false
    here_too e f = cc

pub one_open : (assigned : List Lit) (n : NormalConstraint) (l : Lit) → IsOpen assigned l → coefficient_of n l ≤ open_sum assigned n
one_open assigned n l o = sum_within (only (l.var.0) l.negated) (not_false assigned) (counts_open assigned l o) n.terms

only_other : (l m : Lit) (b : Bool) → (l ≡ m → ⊥) → only (l.var.0) l.negated (m.var.0) m.negated ≡ b → only (l.var.0) l.negated (m.var.0) m.negated ≡ false
only_other l m false other e = e
only_other l m true other e = let same = only_is (l.var.0) (m.var.0) l.negated m.negated e in absurd (other (same_literal l m (sym same.0) (sym same.1)))

pub two_open : (assigned : List Lit) (n : NormalConstraint) (l m : Lit) → IsOpen assigned l → IsOpen assigned m → (l ≡ m → ⊥) → coefficient_of n l + coefficient_of n m ≤ open_sum assigned n
two_open assigned n l m o r other =
    sum_apart (only (l.var.0) l.negated) (not_false assigned) (m.var.0) m.negated (counts_open assigned l o) (only_other l m (only (l.var.0) l.negated (m.var.0) m.negated) other refl) (ap not r) n.terms

-- a literal that is forced beside an open one of a clause
none_forced : (assigned : List Lit) (n : NormalConstraint) (p : Pair) (l m : Lit) → IsPairOf n p → 0 < coefficient_of n l → IsOpen assigned l → (l ≡ m → ⊥) → IsForced assigned m n → ⊥
none_forced assigned n p l m of_it some o other f =
    omega (arith, ints, f.above, of_it.clause l some, two_open assigned n l m o f.opposite_unset other)

not_falsified : (assigned : List Lit) (n : NormalConstraint) (p : Pair) (l : Lit) → IsPairOf n p → 0 < coefficient_of n l → IsOpen assigned l → open_sum assigned n < n.degree → ⊥
not_falsified assigned n p l of_it some o b = omega (arith, b, of_it.clause l some, one_open assigned n l o)

-- a clause with two open literals is quiet
pub quiet_two : (assigned : List Lit) (n : NormalConstraint) (p : Pair) → IsPairOf n p → IsOpen assigned p.first → IsOpen assigned p.second → IsQuiet assigned n
quiet_two assigned n p of_it a b = (
  λ falsified. not_falsified assigned n p p.first of_it of_it.first a (omega (arith, ints, falsified)),
  λ m f. elim (literal_cases p.first m) [
    | inr other ↦ none_forced assigned n p p.first m of_it of_it.first a other f
    | inl same ↦ none_forced assigned n p p.second m of_it of_it.second b (λ e. of_it.differ (same ∙ sym e)) f
  ],
)

not_both : (assigned : List Lit) (l : Lit) (b : Bool) → IsConsistent assigned → lists assigned l ≡ true → lists assigned (opposite l) ≡ b → IsOpen assigned l
not_both assigned l false c t e = e
not_both assigned l true c t e = absurd (c (l, t, e))

pub quiet_open : (assigned : List Lit) (n : NormalConstraint) (p : Pair) (l : Lit) → IsPairOf n p → 0 < coefficient_of n l → IsOpen assigned l → lists assigned l ≡ true → IsQuiet assigned n
quiet_open assigned n p l of_it some o t = (
  λ falsified. not_falsified assigned n p l of_it some o (omega (arith, ints, falsified)),
  λ m f. none_forced assigned n p l m of_it some o (λ e. false≢true (sym f.unset ∙ ap (lists assigned) (sym e) ∙ t)) f,
)

quiet_true : (assigned : List Lit) (n : NormalConstraint) (p : Pair) (l : Lit) → IsPairOf n p → IsConsistent assigned → 0 < coefficient_of n l → lists assigned l ≡ true → IsQuiet assigned n
quiet_true assigned n p l of_it c some t = quiet_open assigned n p l of_it some (not_both assigned l (lists assigned (opposite l)) c t refl) t

-- a clause one of whose two literals is true is quiet
pub quiet_one : (assigned : List Lit) (n : NormalConstraint) (p : Pair) → IsPairOf n p → IsConsistent assigned → IsOneTrue assigned p → IsQuiet assigned n
quiet_one assigned n p of_it c (inl t) = quiet_true assigned n p p.first of_it c of_it.first t
quiet_one assigned n p of_it c (inr t) = quiet_true assigned n p p.second of_it c of_it.second t

-- all of an assignment
pub whole : (assigned : List Lit) (n : NormalConstraint) (p : Pair) → ((h : ℕ) → Tell (take h assigned) n p) → Tell assigned n p
whole assigned n p t = subst (λ (xs : List Lit). Tell xs n p) (take-length assigned) (t (length assigned))

-- one literal more: what it leaves open, and what is so of it
pub open_after : (assigned : List Lit) (new l : Lit) (b : Bool) → IsOpen assigned l → (l ≡ opposite new → ⊥) → lists (assigned ++ new ∷ []) (opposite l) ≡ b → IsOpen (assigned ++ new ∷ []) l
open_after assigned new l false o other e = e
open_after assigned new l true o other e = elim (among_cases assigned (new ∷ []) (l.var.0) (not l.negated) e) [
  | inl before ↦ absurd (false≢true (sym o ∙ before))
  | inr here ↦
      let is = only_here new (l.var.0) (not l.negated) here in
      absurd (other (same_literal l (opposite new) is.0 (turned_back l.negated new.negated is.1)))
]
  where
    turned_back : (a b : Bool) → not a ≡ b → a ≡ not b
    turned_back true b e = ap not e
    turned_back false b e = ap not e

false_after : (assigned : List Lit) (new l : Lit) → lists assigned l ≡ true → lists (assigned ++ new ∷ []) l ≡ true
false_after assigned new l t = among_left assigned (new ∷ []) (l.var.0) l.negated t

one_after : (assigned : List Lit) (new : Lit) (p : Pair) → IsOneTrue assigned p → IsOneTrue (assigned ++ new ∷ []) p
one_after assigned new p (inl t) = inl (false_after assigned new p.first t)
one_after assigned new p (inr t) = inr (false_after assigned new p.second t)

others_after : (assigned : List Lit) (new : Lit) (n : NormalConstraint) (p : Pair) → AreOthersFalse assigned n p → AreOthersFalse (assigned ++ new ∷ []) n p
others_after assigned new n p out l some a b = false_after assigned new (opposite l) (out l some a b)

told_beside : (assigned : List Lit) (new : Lit) (n : NormalConstraint) (p : Pair) → (p.first ≡ opposite new → ⊥) → (p.second ≡ opposite new → ⊥) → Tell assigned n p → Tell (assigned ++ new ∷ []) n p
told_beside assigned new n p a b (inl (x, y)) = inl (open_after assigned new p.first (lists (assigned ++ new ∷ []) (opposite p.first)) x a refl, open_after assigned new p.second (lists (assigned ++ new ∷ []) (opposite p.second)) y b refl)
told_beside assigned new n p a b (inr (inl t)) = inr (inl (one_after assigned new p t))
told_beside assigned new n p a b (inr (inr out)) = inr (inr (others_after assigned new n p out))

told_handled : (assigned : List Lit) (new : Lit) (n : NormalConstraint) (p : Pair) (queue : List ℕ) (k : ℕ) → IsHandled assigned n p queue k → Tell (assigned ++ new ∷ []) n p
told_handled assigned new n p queue k (inl t) = inr (inl (one_after assigned new p t))
told_handled assigned new n p queue k (inr (out, waits)) = inr (inr (others_after assigned new n p out))

-- a literal is one of two, or neither
one_or_neither : (p : Pair) (l : Lit) → IsOneOf p l ⊎ ((p.first ≡ l → ⊥) × (p.second ≡ l → ⊥))
one_or_neither p l = elim (literal_cases p.first l) [
  | inl e ↦ inl (inl e)
  | inr a ↦ elim (literal_cases p.second l) [
    | inl e ↦ inl (inr e)
    | inr b ↦ inr (a, b)
  ]
]

-- the two literals tell of the clause when another literal is true, where those that it makes fall were handled
pub fallen_watched : (slots : Slots) (assigned : List Lit) (variables : ℕ) (w : Watching) (new fallen : Lit) (queue : List ℕ) → AreWatched slots assigned variables w → fallen ≡ opposite new → AreHandled slots assigned fallen w queue → AreWatched slots (assigned ++ new ∷ []) variables w
fallen_watched slots assigned variables w new fallen queue a is handled = record {
  size = a.size;
  within = a.within;
  there = a.there;
  each = λ k n p there pair.
      let i = a.each k n p there pair in
      record {
        of_it = i.of_it;
        first = i.first;
        second = i.second;
        tell = λ h. elim (cases_lt h (length assigned + 1)) [
          | inl low ↦ subst (λ (xs : List Lit). Tell xs n p) (sym (take-append-le h assigned (new ∷ []) (omega (arith, low)))) (i.tell h)
          | inr high ↦ subst (λ (xs : List Lit). Tell xs n p) (sym (take_long h (assigned ++ new ∷ []) (omega (arith, high, length-append assigned (new ∷ []))))) (now k n p there pair i)
        ];
      };
  listed = a.listed;
}
  where
    now : (k : ℕ) (n : NormalConstraint) (p : Pair) → get_or slots k None ≡ Some n → get_or w.pairs k None ≡ Some p → IsWatched w.rows assigned k n p → Tell (assigned ++ new ∷ []) n p
    now k n p there pair i = elim (one_or_neither p fallen) [
      | inl one ↦ told_handled assigned new n p queue k (handled k n p there pair one)
      | inr apart ↦ told_beside assigned new n p (λ e. apart.0 (e ∙ sym is)) (λ e. apart.1 (e ∙ sym is)) (whole assigned n p i.tell)
    ]

handled_quiet : (assigned : List Lit) (new : Lit) (n : NormalConstraint) (p : Pair) (queue : List ℕ) (k : ℕ) → IsPairOf n p → IsConsistent (assigned ++ new ∷ []) → IsHandled assigned n p queue k → IsQuiet (assigned ++ new ∷ []) n ⊎ Contains queue k
handled_quiet assigned new n p queue k of_it c (inl t) = inl (quiet_one (assigned ++ new ∷ []) n p of_it c (one_after assigned new p t))
handled_quiet assigned new n p queue k of_it c (inr (out, waits)) = inr waits

beside_quiet : (assigned : List Lit) (new : Lit) (n : NormalConstraint) (p : Pair) → IsPairOf n p → IsConsistent (assigned ++ new ∷ []) → lists assigned new ≡ false → 0 < coefficient_of n (opposite new) → (p.first ≡ opposite new → ⊥) → (p.second ≡ opposite new → ⊥) → Tell assigned n p → IsQuiet (assigned ++ new ∷ []) n
beside_quiet assigned new n p of_it c unset some a b (inl (x, y)) =
    quiet_two (assigned ++ new ∷ []) n p of_it (open_after assigned new p.first (lists (assigned ++ new ∷ []) (opposite p.first)) x a refl) (open_after assigned new p.second (lists (assigned ++ new ∷ []) (opposite p.second)) y b refl)
beside_quiet assigned new n p of_it c unset some a b (inr (inl t)) = quiet_one (assigned ++ new ∷ []) n p of_it c (one_after assigned new p t)
beside_quiet assigned new n p of_it c unset some a b (inr (inr out)) =
    let false_there : lists assigned (opposite (opposite new)) ≡ true = out (opposite new) some (λ e. a (sym e)) (λ e. b (sym e)) in
    absurd (false≢true (sym unset ∙ back ∙ false_there))
  where
    twice : (b : Bool) → b ≡ not (not b)
    twice true = refl
    twice false = refl

    back : lists assigned new ≡ lists assigned (opposite (opposite new))
    back = ap (λ (b : Bool). lists assigned (record { var = new.var; negated = b })) (twice new.negated)

-- each clause with the literal that falls is quiet then, or waits
pub fallen_queued : (slots : Slots) (assigned : List Lit) (variables : ℕ) (w : Watching) (new fallen : Lit) (queue : List ℕ) → AreWatched slots assigned variables w → fallen ≡ opposite new → AreHandled slots assigned fallen w queue → IsConsistent (assigned ++ new ∷ []) → lists assigned new ≡ false
    → (k : ℕ) (n : NormalConstraint) (p : Pair) → IsAt slots w.pairs k n p → 0 < coefficient_of n (opposite new) → IsQuiet (assigned ++ new ∷ []) n ⊎ Contains queue k
fallen_queued slots assigned variables w new fallen queue a is handled c unset k n p at some =
    let i = a.each k n p at.0 at.1 in
    elim (one_or_neither p fallen) [
      | inl one ↦ handled_quiet assigned new n p queue k i.of_it c (handled k n p at.0 at.1 one)
      | inr apart ↦ inl (beside_quiet assigned new n p i.of_it c unset some (λ e. apart.0 (e ∙ sym is)) (λ e. apart.1 (e ∙ sym is)) (whole assigned n p i.tell))
    ]

-- the two literals tell of the clause where the last literal is backtracked
pub watched_back : (slots : Slots) (longer assigned : List Lit) (variables : ℕ) (w : Watching) (l : Lit) → longer ≡ assigned ++ l ∷ [] → AreWatched slots longer variables w → AreWatched slots assigned variables w
watched_back slots longer assigned variables w l e a = record {
  size = a.size;
  within = a.within;
  there = a.there;
  each = λ k n p there pair.
      let i = a.each k n p there pair in
      record {
        of_it = i.of_it;
        first = i.first;
        second = i.second;
        tell = λ h. elim (cases_lt h (length assigned)) [
          | inl low ↦ subst (λ (xs : List Lit). Tell xs n p) (ap (take h) e ∙ take-append-le h assigned (l ∷ []) (omega (arith, low))) (i.tell h)
          | inr high ↦ subst (λ (xs : List Lit). Tell xs n p) (ap (take (length assigned)) e ∙ take-append-le (length assigned) assigned (l ∷ []) (omega arith) ∙ take-length assigned ∙ sym (take_long h assigned (omega (arith, high)))) (i.tell (length assigned))
        ];
      };
  listed = a.listed;
}

-- each clause with a literal that is open is quiet, or waits, where what that one watches was queued
pub last_queued : (slots : Slots) (assigned : List Lit) (variables : ℕ) (w : Watching) (l : Lit) (queue : List ℕ) → AreWatched slots assigned variables w → IsConsistent assigned → IsOpen assigned l
    → ((k : ℕ) (p : Pair) → StandsIn w.rows l k → get_or w.pairs k None ≡ Some p → (other : Lit) → IsBeside (Some p) l other → IsOpen assigned other ⊎ Contains queue k)
    → (k : ℕ) (n : NormalConstraint) (p : Pair) → IsAt slots w.pairs k n p → 0 < coefficient_of n l → IsQuiet assigned n ⊎ Contains queue k
last_queued slots assigned variables w l queue a c o queued k n p at some =
    let i = a.each k n p at.0 at.1 in
    elim (whole assigned n p i.tell) [
      | inl both ↦ inl (quiet_two assigned n p i.of_it both.0 both.1)
      | inr rest ↦ elim rest [
        | inl t ↦ inl (quiet_one assigned n p i.of_it c t)
        | inr out ↦ elim (one_or_neither p l) [
          | inr apart ↦ absurd (false≢true (sym o ∙ out l some (λ e. apart.0 (sym e)) (λ e. apart.1 (sym e))))
          | inl one ↦ elim one [
            | inl e ↦ elim (queued k p (subst (λ (m : Lit). StandsIn w.rows m k) e i.first) at.1 p.second (inl (e, refl))) [
              | inl other ↦ inl (quiet_two assigned n p i.of_it (subst (IsOpen assigned) (sym e) o) other)
              | inr waits ↦ inr waits
            ]
            | inr e ↦ elim (queued k p (subst (λ (m : Lit). StandsIn w.rows m k) e i.second) at.1 p.first (inr (e, refl))) [
              | inl other ↦ inl (quiet_two assigned n p i.of_it other (subst (IsOpen assigned) (sym e) o))
              | inr waits ↦ inr waits
            ]
          ]
        ]
      ]
    ]
