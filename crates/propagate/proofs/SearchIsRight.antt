-- What the slow search finds is so: a conflict that a chain leads to, or the closure, from which none does.
use Rattle.std.proofs.Common.{◌≡◌, ℕ, zero, suc, ◌+◌, ◌<◌, Bool, true, false, cond, not, ◌&&◌, List, [], ◌∷◌, ◌++◌, Option, Some, None, nat_lt, refl, sym, ap, subst, ◌∙◌, inl, inr, ◌⊎◌, append_assoc, arith}
use Rattle.std.specs.List.{list_any}
use Rattle.std.proofs.lemmas.Bool.{false≢true, ltb-true}
use Rattle.std.proofs.lemmas.Bool.Decides.{nat_tests}
use Rattle.std.proofs.lemmas.Int.{ints}
use Rattle.std.proofs.lemmas.List.{append-nil}
use Rattle.linear.specs.declared.term.Lit.{Lit}
use Rattle.normal_form.specs.declared.term.NormalTerm.{NormalTerm}
use Rattle.normal_form.specs.Normal.{NormalConstraint, sum_over, only}
use Rattle.linear.specs.Literal.{opposite}
use Rattle.propagate.specs.Literals.{coefficient_of, among, lists}
use Rattle.propagate.specs.Slack.{not_false, IsForced}
use Rattle.propagate.specs.Chain.{IsForcedByOne, IsConflict, IsChain, LeadsToConflict, IsFixpoint, IsClosure}
use Rattle.propagate.specs.Passes.{is_falsified, is_forced, literal_of, first_forced, or_else, next_forced, Conflict, Fixpoint, onward, outcome}
use Rattle.normal_form.proofs.SetSums.{only_is}
use Rattle.propagate.proofs.Assignments.{among_left, among_right, among_cases}
use Rattle.propagate.proofs.AnyOf.{any_here, any_there, any_split, any_none}
use Rattle.propagate.proofs.Chains.{chain_stays, no_conflict_from}
use Rattle.propagate.proofs.ChainEnds.{conflict_from, no_conflict_from_test, given_within}

both : (b d : Bool) → (b && d) ≡ true → (b ≡ true) × (d ≡ true)
both true d h = (refl, h)
both false d h = absurd (false≢true h)

all_four : (b d e f : Bool) → b ≡ false → d ≡ false → e ≡ true → f ≡ true → (not b && not d && e && f) ≡ true
all_four b d e f p q r s = rw (p, q, r, s) refl

not_true : (b : Bool) → not b ≡ true → b ≡ false
not_true true h = absurd (false≢true h)
not_true false h = refl

pub test_forced : (assigned : List Lit) (n : NormalConstraint) (l : Lit) → is_forced assigned n l ≡ true → IsForced assigned l n
test_forced assigned n l h =
    let three = both (not (lists assigned l) && not (lists assigned (opposite l)) && nat_lt 0 (coefficient_of n l)) (nat_lt (sum_over (not_false assigned) n.terms) (n.degree + coefficient_of n l)) h in
    let two = both (not (lists assigned l) && not (lists assigned (opposite l))) (nat_lt 0 (coefficient_of n l)) three.0 in
    let one = both (not (lists assigned l)) (not (lists assigned (opposite l))) two.0 in
    let less = ltb-true _ _ three.1 in
    record {
      unset = not_true (lists assigned l) one.0;
      opposite_unset = not_true (lists assigned (opposite l)) one.1;
      occurs = ltb-true _ _ two.1;
      above = omega (arith, ints, less);
    }

forced_test : (assigned : List Lit) (n : NormalConstraint) (l : Lit) → IsForced assigned l n → is_forced assigned n l ≡ true
forced_test assigned n l f =
    let occurs : nat_lt 0 (coefficient_of n l) ≡ true = let h = f.occurs in grind (arith, nat_tests) in
    let less : sum_over (not_false assigned) n.terms < n.degree + coefficient_of n l = omega (arith, ints, f.above) in
    let above : nat_lt (sum_over (not_false assigned) n.terms) (n.degree + coefficient_of n l) ≡ true = grind (arith, nat_tests) in
    all_four (lists assigned l) (lists assigned (opposite l)) (nat_lt 0 (coefficient_of n l)) (nat_lt (sum_over (not_false assigned) n.terms) (n.degree + coefficient_of n l)) f.unset f.opposite_unset occurs above

-- a literal that is looked for among terms
chosen : (b : Bool) (l m : Lit) (rest : Option Lit) → cond b (Some l) rest ≡ Some m → ((b ≡ true) × (l ≡ m)) ⊎ (rest ≡ Some m)
chosen true l m rest h = inl (refl, cc)
chosen false l m rest h = inr h

first_sound : (assigned : List Lit) (n : NormalConstraint) (ts : List NormalTerm) (l : Lit) → first_forced assigned n ts ≡ Some l → IsForced assigned l n
first_sound assigned n [] l h = absurd (cc)
first_sound assigned n (t ∷ ts) l h = elim (chosen (is_forced assigned n (literal_of t)) (literal_of t) l (first_forced assigned n ts) h) [
  | inl e ↦ subst (λ (m : Lit). IsForced assigned m n) e.1 (test_forced assigned n (literal_of t) e.0)
  | inr rest ↦ first_sound assigned n ts l rest
]

literal : ℕ → Bool → Lit
literal v s = record { var = record { 0 = v }; negated = s }

same_literal : (l m : Lit) → l.var.0 ≡ m.var.0 → l.negated ≡ m.negated → l ≡ m
unfolding literal
same_literal l m v s =
    let one : literal (l.var.0) l.negated ≡ literal (m.var.0) l.negated = ap (λ (x : ℕ). literal x l.negated) v in
    let two : literal (m.var.0) l.negated ≡ literal (m.var.0) m.negated = ap (λ (x : Bool). literal (m.var.0) x) s in
    one ∙ two

passed : (b : Bool) (l : Lit) (rest : Option Lit) → cond b (Some l) rest ≡ None → (b ≡ false) × (rest ≡ None)
passed true l rest h = absurd (cc)
passed false l rest h = (refl, h)

here_or_later : (o : Bool) (c rest : ℕ) → 0 < cond o c 0 + rest → (o ≡ true) ⊎ (0 < rest)
here_or_later true c rest h = inl refl
here_or_later false c rest h = inr (omega (arith, h))

first_complete : (assigned : List Lit) (n : NormalConstraint) (ts : List NormalTerm) (l : Lit) → first_forced assigned n ts ≡ None → IsForced assigned l n → 0 < sum_over (only (l.var.0) l.negated) ts → ⊥
first_complete assigned n [] l h f occurs = omega (arith, occurs)
first_complete assigned n (t ∷ ts) l h f occurs =
    let parts = passed (is_forced assigned n (literal_of t)) (literal_of t) (first_forced assigned n ts) h in
    elim (here_or_later (only (l.var.0) l.negated (t.var.0) t.negated) t.coef (sum_over (only (l.var.0) l.negated) ts) occurs) [
      | inl o ↦
          let same = only_is (l.var.0) (t.var.0) l.negated t.negated o in
          let is : literal_of t ≡ l = same_literal (literal_of t) l same.0 same.1 in
          let yes = forced_test assigned n (literal_of t) (subst (λ (m : Lit). IsForced assigned m n) (sym is) f) in
          let no = parts.0 in
          absurd (false≢true (sym no ∙ yes))
      | inr later ↦ first_complete assigned n ts l parts.1 f later
    ]

from_either : (one other : Option Lit) (l : Lit) → or_else one other ≡ Some l → (one ≡ Some l) ⊎ (other ≡ Some l)
from_either (Some m) other l h = inl h
from_either None other l h = inr h

from_neither : (one other : Option Lit) → or_else one other ≡ None → (one ≡ None) × (other ≡ None)
from_neither (Some m) other h = absurd (cc)
from_neither None other h = (refl, h)

pub next_sound : (assigned : List Lit) (ns : List NormalConstraint) (l : Lit) → next_forced assigned ns ≡ Some l → IsForcedByOne ns assigned l
next_sound assigned [] l h = absurd (cc)
next_sound assigned (n ∷ ns) l h = elim (from_either (first_forced assigned n n.terms) (next_forced assigned ns) l h) [
  | inl here ↦ any_here (IsForced assigned l) n ns (first_sound assigned n n.terms l here)
  | inr there ↦ any_there (IsForced assigned l) n ns (next_sound assigned ns l there)
]

next_complete : (assigned : List Lit) (ns : List NormalConstraint) → next_forced assigned ns ≡ None → (l : Lit) → IsForcedByOne ns assigned l → ⊥
next_complete assigned [] h l f = any_none (IsForced assigned l) f
next_complete assigned (n ∷ ns) h l f =
    let parts = from_neither (first_forced assigned n n.terms) (next_forced assigned ns) h in
    elim (any_split (IsForced assigned l) n ns f) [
      | inl here ↦ first_complete assigned n n.terms l parts.0 here here.occurs
      | inr there ↦ next_complete assigned ns parts.1 l there
    ]

-- a conflict that the search meets, after what it has listed
met : (steps : ℕ) (ns : List NormalConstraint) (given : List Lit) → ((l : Lit) → outcome steps ns (given ++ l ∷ []) ≡ Conflict → LeadsToConflict ns (given ++ l ∷ [])) → (b : Bool) → list_any (is_falsified given) ns ≡ b → (next : Option Lit) → next_forced given ns ≡ next → cond b Conflict (onward (outcome steps ns) given next) ≡ Conflict → LeadsToConflict ns given
met steps ns given later true e next f h = ([], tt, subst (λ (xs : List Lit). IsConflict ns xs) (sym (append-nil given)) (conflict_from ns given e))
met steps ns given later false e None f h = absurd (cc)
met steps ns given later false e (Some l) f h =
    let r = later l h in
    (l ∷ r.0, (next_sound given ns l f, r.1), subst (λ (xs : List Lit). IsConflict ns xs) (append_assoc given (l ∷ []) r.0) r.2)

pub conflict_met : (steps : ℕ) (ns : List NormalConstraint) (given : List Lit) → outcome steps ns given ≡ Conflict → LeadsToConflict ns given
conflict_met zero ns given h = absurd (cc)
conflict_met (suc steps) ns given h =
    met steps ns given (λ l e. conflict_met steps ns (given ++ l ∷ []) e) (list_any (is_falsified given) ns) refl (next_forced given ns) refl h

-- an assignment in which the search ends: it is a fixpoint, and what is given and one chain
abbrev pub FixpointBy : List NormalConstraint → List Lit → List Lit → List Lit → Type 0
FixpointBy ns given closed chain = IsChain ns given chain × (closed ≡ given ++ chain) × IsFixpoint ns closed

ended : (steps : ℕ) (ns : List NormalConstraint) (given closed : List Lit) → ((l : Lit) → outcome steps ns (given ++ l ∷ []) ≡ Fixpoint closed → (chain : List Lit) × FixpointBy ns (given ++ l ∷ []) closed chain) → (b : Bool) → list_any (is_falsified given) ns ≡ b → (next : Option Lit) → next_forced given ns ≡ next → cond b Conflict (onward (outcome steps ns) given next) ≡ Fixpoint closed → (chain : List Lit) × FixpointBy ns given closed chain
ended steps ns given closed later true e next f h = absurd (cc)
ended steps ns given closed later false e None f h =
    let is : given ≡ closed = cc in
    let fixpoint : IsFixpoint ns given = record { nothing_forced = next_complete given ns f; no_conflict = no_conflict_from_test ns given e } in
    ([], (tt, sym is ∙ sym (append-nil given), subst (λ (xs : List Lit). IsFixpoint ns xs) is fixpoint))
ended steps ns given closed later false e (Some l) f h =
    let r = later l h in
    (l ∷ r.0, ((next_sound given ns l f, r.1.0), r.1.1 ∙ append_assoc given (l ∷ []) r.0, r.1.2))

pub fixpoint_met : (steps : ℕ) (ns : List NormalConstraint) (given closed : List Lit) → outcome steps ns given ≡ Fixpoint closed → (chain : List Lit) × FixpointBy ns given closed chain
fixpoint_met zero ns given closed h = absurd (cc)
fixpoint_met (suc steps) ns given closed h =
    ended steps ns given closed (λ l e. fixpoint_met steps ns (given ++ l ∷ []) closed e) (list_any (is_falsified given) ns) refl (next_forced given ns) refl h

pub closure_by : (ns : List NormalConstraint) (given closed chain : List Lit) → FixpointBy ns given closed chain → IsClosure ns given closed
closure_by ns given closed chain s l =
    let v = l.var.0 in
    let b = l.negated in (
      λ e. elim (among_cases given chain v b (subst (λ (xs : List Lit). among xs v b ≡ true) s.1 e)) [
        | inl m ↦ inl m
        | inr m ↦ inr (chain, s.0, m)
      ],
      λ r. elim r [
        | inl m ↦ subst (λ (xs : List Lit). among xs v b ≡ true) (sym s.1) (among_left given chain v b m)
        | inr other ↦
            chain_stays ns closed s.2 given other.0
            (λ w d e. subst (λ (xs : List Lit). among xs w d ≡ true) (sym s.1) (given_within given chain w d e))
            other.1 v b (among_right given other.0 v b other.2)
      ],
    )

pub closure_met : (steps : ℕ) (ns : List NormalConstraint) (given closed : List Lit) → outcome steps ns given ≡ Fixpoint closed → IsClosure ns given closed
closure_met steps ns given closed h = let r = fixpoint_met steps ns given closed h in closure_by ns given closed r.0 r.1

pub no_conflict_met : (steps : ℕ) (ns : List NormalConstraint) (given closed : List Lit) → outcome steps ns given ≡ Fixpoint closed → LeadsToConflict ns given → ⊥
no_conflict_met steps ns given closed h =
    let r = fixpoint_met steps ns given closed h in
    no_conflict_from ns given closed r.1.2 (λ v s e. subst (λ (xs : List Lit). among xs v s ≡ true) (sym r.1.1) (given_within given r.0 v s e))
