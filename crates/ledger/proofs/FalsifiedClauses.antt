-- A clause whose literals are all made false is falsified.
use Rattle.std.proofs.Common.{◌≡◌, inl, inr, ℕ, zero, suc, ◌+◌, ◌<◌, Bool, true, false, not, cond, is_some, Option, None, Some, MatchOption, List, [], ◌∷◌, length, get_or, refl, ap, sym, ◌∙◌, arith}
use Rattle.std.proofs.lemmas.Bool.{cases_lt, false≢true}
use Rattle.std.proofs.lemmas.Int.{ints}
use Rattle.std.proofs.lemmas.List.{get_or_default, length-map}
use Rattle.linear.specs.declared.term.Lit.{Lit}
use Rattle.normal_form.specs.declared.term.NormalTerm.{NormalTerm}
use Rattle.normal_form.specs.Normal.{NormalConstraint, only, sum_over}
use Rattle.normal_form.proofs.SetSums.{only_itself}
use Rattle.linear.specs.Literal.{opposite}
use Rattle.propagate.specs.Literals.{coefficient_of, lists}
use Rattle.propagate.specs.Passes.{literal_of}
use Rattle.propagate.specs.Slack.{IsFalsified, not_false}
use Rattle.ledger.specs.declared.pair.Pair.{Pair}
use Rattle.propagate.specs.Walk.{IsFalsifiedAt}
use Rattle.ledger.specs.Falls.{IsBeside, IsFalsifiedThere}
use Rattle.ledger.specs.Ledgers.{constraint_in, nothing, shown}
use Rattle.trail.specs.Trails.{on_trail}
use Rattle.ledger.specs.Watched.{AreOthersFalse}
use Rattle.ledger.proofs.FallingRows.{some_there}
use Rattle.ledger.proofs.Standing.{shown_at}
use Rattle.ledger.proofs.WatchedQuiet.{literal_cases}

-- the literal of a term that has a coefficient occurs
own_counts : (b : Bool) (c x : ℕ) → b ≡ true → 0 < c → 0 < cond b c 0 + x
own_counts true c x e h = omega (arith, h)
own_counts false c x e h = absurd (false≢true e)

rest_counts : (b : Bool) (c x : ℕ) → 0 < x → 0 < cond b c 0 + x
rest_counts true c x h = omega (arith, h)
rest_counts false c x h = omega (arith, h)

occurs_in : (ts : List NormalTerm) (k : ℕ) (d : NormalTerm) → k < length ts → 0 < (get_or ts k d).coef → 0 < sum_over (only ((get_or ts k d).var.0) (get_or ts k d).negated) ts
occurs_in [] k d low some = absurd (omega (arith, low))
occurs_in (t ∷ ts) zero d low some = own_counts (only (t.var.0) t.negated (t.var.0) t.negated) t.coef (sum_over (only (t.var.0) t.negated) ts) (only_itself (t.var.0) t.negated) some
occurs_in (t ∷ ts) (suc k) d low some =
    let u : NormalTerm = get_or ts k d in
    rest_counts (only (u.var.0) u.negated (t.var.0) t.negated) t.coef (sum_over (only (u.var.0) u.negated) ts) (occurs_in ts k d (omega (arith, low)) some)

skipped : (b : Bool) (c x : ℕ) → (0 < c → b ≡ true) → x ≡ 0 → cond (not b) c 0 + x ≡ 0
skipped true c x e f = omega (arith, f)
skipped false c x e f = elim (cases_lt 0 c) [
  | inl some ↦ absurd (false≢true (e some))
  | inr none ↦ omega (arith, none, f)
]

nothing_open : (assigned : List Lit) (ts : List NormalTerm) → ((k : ℕ) (d : NormalTerm) → k < length ts → 0 < (get_or ts k d).coef → lists assigned (opposite (literal_of (get_or ts k d))) ≡ true) → sum_over (not_false assigned) ts ≡ 0
nothing_open assigned [] h = refl
nothing_open assigned (t ∷ ts) h =
    skipped (lists assigned (opposite (literal_of t))) t.coef (sum_over (not_false assigned) ts) (h 0 t (omega arith)) (nothing_open assigned ts (λ k d low some. h (suc k) d (omega (arith, low)) some))

-- literals beside one that falls and its partner are those beside the two that watch
pub others_of : (assigned : List Lit) (n : NormalConstraint) (p : Pair) (fallen other : Lit) → IsBeside (Some p) fallen other → AreOthersFalse assigned n (record { first = fallen; second = other }) → AreOthersFalse assigned n p
others_of assigned n p fallen other (inl (f, s)) out l some a b = out l some (λ e. a (e ∙ sym f)) (λ e. b (e ∙ sym s))
others_of assigned n p fallen other (inr (f, s)) out l some a b = out l some (λ e. b (e ∙ sym f)) (λ e. a (e ∙ sym s))

pub falsified_others : (assigned : List Lit) (n : NormalConstraint) (fallen other : Lit) → 0 < n.degree → AreOthersFalse assigned n (record { first = fallen; second = other }) → lists assigned (opposite fallen) ≡ true → lists assigned (opposite other) ≡ true
    → IsFalsified assigned n
falsified_others assigned n fallen other asks out a b = omega (
  arith,
  ints,
  asks,
  nothing_open assigned n.terms (λ k d low some.
      let t : NormalTerm = get_or n.terms k d in
      let occurs : 0 < coefficient_of n (literal_of t) = occurs_in n.terms k d low some in
      elim (literal_cases (literal_of t) fallen) [
        | inl e ↦ ap (λ (m : Lit). lists assigned (opposite m)) e ∙ a
        | inr x ↦ elim (literal_cases (literal_of t) other) [
          | inl e ↦ ap (λ (m : Lit). lists assigned (opposite m)) e ∙ b
          | inr y ↦ out (literal_of t) occurs x y
        ]
      ]),
)

-- the constraint of a place that is falsified
pub falsified_there : (slots : List (Option NormalConstraint)) (trail : List Lit × ℕ × List Lit) (k : ℕ) → IsFalsifiedThere slots trail k → IsFalsifiedAt (shown slots) (on_trail trail) k
falsified_there slots trail k (n, slot, falsified) =
    let low : k < length (shown slots) = omega (arith, some_there slots k n slot, length-map slots constraint_in) in
    (n, (low, get_or_default (shown slots) k n nothing low ∙ shown_at slots k ∙ ap constraint_in slot), falsified)

-- what a row's end says where a place is there, and where none is
pub none_case : (A : Type 0) (B : ℕ → Type 0) (o : Option ℕ) → is_some o ≡ false → MatchOption o A B → A
none_case A B None e m = m
none_case A B (Some k) e m = absurd (false≢true (sym e))

pub some_case : (A C : Type 0) (B D : ℕ → Type 0) (o : Option ℕ) → is_some o ≡ true → ((k : ℕ) → B k → D k) → MatchOption o A B → MatchOption o C D
some_case A C B D None e f m = absurd (false≢true e)
some_case A C B D (Some k) e f m = f k m
