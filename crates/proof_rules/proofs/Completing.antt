-- The completion of an assignment: an assignment is consistent or not, has a completion or a fault, and never two completions.
use Rattle.std.proofs.Common.{◌≡◌, ℕ, zero, suc, ◌<◌, ◌⊎◌, inl, inr, Bool, true, false, not, List, [], ◌∷◌, ◌++◌, length, get_or, refl, sym, ap, subst, ◌∙◌, arith}
use Rattle.std.proofs.lemmas.Bool.{cases_eq, false≢true}
use Rattle.std.proofs.lemmas.List.{length-append, get_or_append_left, same_lists}
use Rattle.std.proofs.Math.Seq.{get_or-append_seam}
use Rattle.linear.specs.declared.term.Lit.{Lit}
use Rattle.linear.specs.Opb.{Opb}
use Rattle.normal_form.specs.Normal.{NormalConstraint, only}
use Rattle.propagate.specs.Chain.{IsChain, LeadsToConflict, IsReached, IsClosure}
use Rattle.linear.specs.Literal.{opposite}
use Rattle.propagate.specs.Literals.{among, lists, IsConsistent}
use Rattle.propagate.proofs.Consistency.{push_consistent, chain_consistent}
use Rattle.propagate.proofs.SearchEnds.{Ends, one_outcome}
use Rattle.propagate.proofs.ChainEnds.{given_within}
use Rattle.propagate.proofs.JoinedChains.{joined}
use Rattle.propagate.proofs.Assignments.{among_left, among_right, among_head, among_tail, or_cases}
use Rattle.proof_rules.specs.declared.fault.StepFault.{StepFault}
use Rattle.proof_rules.specs.declared.fault.StepFault.TheVariants as faults
use Rattle.proof_rules.specs.Fault.{IsSolFault}
use Rattle.proof_rules.specs.Solution.{literal_for, NamesAll, value_at, SaysAll, ReachesAll, Completes}
use Rattle.proof_rules.specs.State.{State, constraints}
use Rattle.proof_rules.proofs.Deciding.{Decided}

-- an assignment is consistent or not

-- with the first literal moved behind the others
moved : (l : Lit) (ls : List Lit) (v : ℕ) (s : Bool) → among (l ∷ ls) v s ≡ true → among (ls ++ l ∷ []) v s ≡ true
moved l ls v s h = elim (or_cases (only (l.var.0) l.negated v s) (among ls v s) h) as (λ _. among (ls ++ l ∷ []) v s ≡ true) [
  | inl here ↦ among_right ls (l ∷ []) v s (rw here refl)
  | inr later ↦ among_left ls (l ∷ []) v s later
]

one_more : (l : Lit) (ls : List Lit) → Decided (IsConsistent ls) → (b : Bool) → lists ls (opposite l) ≡ b → Decided (IsConsistent (l ∷ ls))
one_more l ls (inr fails) b is = inr (λ h. fails (λ m. h (m.0, among_tail l ls (m.0.var.0) m.0.negated m.1, among_tail l ls (m.0.var.0) (not m.0.negated) m.2)))
one_more l ls (inl consistent) true is = inr (λ h. h (l, among_head l ls, among_tail l ls (l.var.0) (not l.negated) is))
one_more l ls (inl consistent) false is =
    inl (λ m. push_consistent ls l consistent is (m.0, moved l ls (m.0.var.0) m.0.negated m.1, moved l ls (m.0.var.0) (not m.0.negated) m.2))

pub consistent_decided : (assigned : List Lit) → Decided (IsConsistent assigned)
consistent_decided [] = inl (λ m. false≢true m.1)
consistent_decided (l ∷ ls) = one_more l ls (consistent_decided ls) (lists ls (opposite l)) refl

-- tables of values

-- the assignment gives each variable below a bound one of the values
abbrev Gives : (ℕ → Bool → Type 0) → List Bool → Type 0
Gives R g = (v : ℕ) → v < length g → R v (value_at g v)

abbrev TableOrGap : (ℕ → Bool → Type 0) → ℕ → Type 0
TableOrGap R count = ((g : List Bool) × (length g ≡ count) × Gives R g) ⊎ ((v : ℕ) × (v < count) × ((b : Bool) → R v b → ⊥))

gives_more : (R : ℕ → Bool → Type 0) (g : List Bool) (b : Bool) (n : ℕ) → length g ≡ n → Gives R g → R n b → Gives R (g ++ b ∷ [])
gives_more R g b n long all here v below = elim (cases_eq v (length g)) as (λ _. R v (value_at (g ++ b ∷ []) v)) [
  | inl is ↦
      let at : b ≡ value_at (g ++ b ∷ []) v = sym (ap (λ k. get_or (g ++ b ∷ []) k false) is ∙ get_or-append_seam g b [] false) in
      subst (R v) at (subst (λ k. R k b) (sym (is ∙ long)) here)
  | inr fails ↦
      let before : v < length g = omega (arith, below, length-append g (b ∷ []), fails) in
      subst (R v) (sym (get_or_append_left g (b ∷ []) false v before)) (all v before)
]

table_or_gap : (R : ℕ → Bool → Type 0) → ((v : ℕ) → ((b : Bool) × R v b) ⊎ ((b : Bool) → R v b → ⊥)) → (count : ℕ) → TableOrGap R count
table_or_gap R d zero = inl ([], refl, λ v below. absurd (omega (arith, below)))
table_or_gap R d (suc n) = elim (table_or_gap R d n) as (λ _. TableOrGap R (suc n)) [
  | inr gap ↦ inr (gap.0, omega (arith, gap.1), gap.2)
  | inl (g, long, all) ↦ elim (d n) as (λ _. TableOrGap R (suc n)) [
    | inr none ↦ inr (n, omega arith, none)
    | inl (b, here) ↦ inl (g ++ b ∷ [], omega (arith, long, length-append g (b ∷ [])), gives_more R g b n long all here)
  ]
]

-- a variable has a value in an assignment, or none
listed_value : (assigned : List Lit) (v : ℕ) (b d : Bool) → lists assigned (literal_for v true) ≡ b → lists assigned (literal_for v false) ≡ d
    → ((value : Bool) × (lists assigned (literal_for v value) ≡ true)) ⊎ ((value : Bool) → lists assigned (literal_for v value) ≡ true → ⊥)
listed_value assigned v true d for_true for_false = inl (true, for_true)
listed_value assigned v false true for_true for_false = inl (false, for_false)
listed_value assigned v false false for_true for_false = inr neither
  where
    neither : (value : Bool) → lists assigned (literal_for v value) ≡ true → ⊥
    neither true h = false≢true (sym for_true ∙ h)
    neither false h = false≢true (sym for_false ∙ h)

-- the values of an assignment, or a variable that it does not name
listed_table : (assigned : List Lit) (count : ℕ) → TableOrGap (λ v b. lists assigned (literal_for v b) ≡ true) count
listed_table assigned count =
    table_or_gap (λ v b. lists assigned (literal_for v b) ≡ true)
    (λ v. listed_value assigned v (lists assigned (literal_for v true)) (lists assigned (literal_for v false)) refl refl) count

named : (count : ℕ) (assigned : List Lit) (g : List Bool) → length g ≡ count → SaysAll assigned g → NamesAll count assigned
named count assigned g long all v below = (value_at g v, all v (subst (λ n. v < n) (sym long) below))

unnamed : (count : ℕ) (assigned : List Lit) (v : ℕ) → v < count → ((b : Bool) → lists assigned (literal_for v b) ≡ true → ⊥) → NamesAll count assigned → ⊥
unnamed count assigned v below none all = let h = all v below in none h.0 h.1

-- a consistent assignment gives at most one table

one_value : (assigned : List Lit) (v : ℕ) (b d : Bool) → IsConsistent assigned → lists assigned (literal_for v b) ≡ true → lists assigned (literal_for v d) ≡ true → b ≡ d
one_value assigned v true true consistent h k = refl
one_value assigned v true false consistent h k = absurd (consistent (literal_for v true, h, k))
one_value assigned v false true consistent h k = absurd (consistent (literal_for v true, k, h))
one_value assigned v false false consistent h k = refl

inside_or : (g : List Bool) (k : ℕ) (d e : Bool) → k < length g → get_or g k d ≡ get_or g k e
inside_or [] k d e h = absurd (omega (arith, h))
inside_or (x ∷ xs) zero d e h = refl
inside_or (x ∷ xs) (suc k) d e h = inside_or xs k d e (omega (arith, h))

one_table : (assigned : List Lit) (g h : List Bool) → IsConsistent assigned → length g ≡ length h → Gives (λ v b. lists assigned (literal_for v b) ≡ true) g
    → Gives (λ v b. lists assigned (literal_for v b) ≡ true) h → g ≡ h
one_table assigned g h consistent long left right =
    same_lists g h long (λ k d below.
    let other : k < length h = subst (λ n. k < n) long below in
    inside_or g k d false below ∙ one_value assigned k (value_at g k) (value_at h k) consistent (left k below) (right k other) ∙ inside_or h k false d other)

-- what chains reach from a consistent assignment is consistent, where none leads to a conflict

-- a chain after which a literal is listed
abbrev ChainWith : List NormalConstraint → List Lit → Lit → List Lit → Type 0
ChainWith ns given l chain = IsChain ns given chain × (lists (given ++ chain) l ≡ true)

chain_with : (ns : List NormalConstraint) (given : List Lit) (l : Lit) → IsReached ns given l → (chain : List Lit) × ChainWith ns given l chain
chain_with ns given l (inl listed) = ([], (tt, among_left given [] (l.var.0) l.negated listed))
chain_with ns given l (inr (chain, is_chain, there)) = (chain, (is_chain, among_right given chain (l.var.0) l.negated there))

chain_with_both : (ns : List NormalConstraint) (given : List Lit) (l m : Lit) → (LeadsToConflict ns given → ⊥) → (xs : List Lit) → ChainWith ns given l xs → IsReached ns given m
    → (chain : List Lit) × ChainWith ns given l chain × (lists (given ++ chain) m ≡ true)
chain_with_both ns given l m none xs first (inl listed) = (xs, first, among_left given xs (m.var.0) m.negated listed)
chain_with_both ns given l m none xs first (inr (ys, is_chain, there)) =
    let r = joined ns given none ys given xs first.0 (given_within given xs) is_chain in
    (r.0, (r.1.0, r.1.1 (l.var.0) l.negated first.1), r.1.2 (m.var.0) m.negated (among_right given ys (m.var.0) m.negated there))

closure_consistent : (ns : List NormalConstraint) (given closed : List Lit) → IsConsistent given → (LeadsToConflict ns given → ⊥) → IsClosure ns given closed → IsConsistent closed
closure_consistent ns given closed consistent none closure (l, there, opposite_there) =
    let first = chain_with ns given l ((closure l).0 there) in
    let both = chain_with_both ns given l (opposite l) none first.0 first.1 ((closure (opposite l)).0 opposite_there) in
    chain_consistent ns given both.0 consistent both.1.0 (l, both.1.1, both.2)

-- an assignment has a completion, or a fault

abbrev pub Completion : Opb → State → List Lit → Type 0
Completion p s assigned = ((g : List Bool) × Completes (constraints s) (length p.names) assigned g) ⊎ ((f : StepFault) × IsSolFault p s assigned f)

-- where a variable is reached with neither sign, nothing completes the assignment
pub gap_never : (live : List NormalConstraint) (count : ℕ) (assigned : List Lit) (v : ℕ) → v < count → ((b : Bool) → IsReached live assigned (literal_for v b) → ⊥)
    → (g : List Bool) → Completes live count assigned g → ⊥
gap_never live count assigned v below none g c = by c.completed
  where
    inside : v < length g
    inside = subst (λ n. v < n) (sym c.long) below

    by : (NamesAll count assigned × SaysAll assigned g) ⊎ ((NamesAll count assigned → ⊥) × (LeadsToConflict live assigned → ⊥) × ReachesAll live assigned g) → ⊥
    by (inl (all, says)) = none (value_at g v) (inl (says v inside))
    by (inr (fails, free, reaches)) = none (value_at g v) (reaches v inside)

reached_table : (p : Opb) (s : State) (assigned closed : List Lit) → IsConsistent assigned → (NamesAll (length p.names) assigned → ⊥) → (LeadsToConflict (constraints s) assigned → ⊥)
    → IsClosure (constraints s) assigned closed → TableOrGap (λ v b. lists closed (literal_for v b) ≡ true) (length p.names) → Completion p s assigned
reached_table p s assigned closed consistent not_all free closure (inl (g, long, all)) =
    inl (g, record { consistent = consistent; long = long; completed = inr (not_all, free, λ v below. (closure (literal_for v (value_at g v))).0 (all v below)) })
reached_table p s assigned closed consistent not_all free closure (inr (v, below, none)) =
    inr (faults.SolutionPartial, (consistent, free, (v, below, λ b reached. none b ((closure (literal_for v b)).1 reached))))

chains_end : (p : Opb) (s : State) (assigned : List Lit) → IsConsistent assigned → (NamesAll (length p.names) assigned → ⊥) → Ends (constraints s) assigned → Completion p s assigned
chains_end p s assigned consistent not_all (inl conflict) = inr (faults.SolutionConflict, inr (consistent, not_all, conflict))
chains_end p s assigned consistent not_all (inr (closed, closure, free)) =
    reached_table p s assigned closed consistent not_all free closure (listed_table closed (length p.names))

from_table : (p : Opb) (s : State) (assigned : List Lit) → IsConsistent assigned → TableOrGap (λ v b. lists assigned (literal_for v b) ≡ true) (length p.names) → Completion p s assigned
from_table p s assigned consistent (inl (g, long, all)) =
    inl (g, record { consistent = consistent; long = long; completed = inl (named (length p.names) assigned g long all, all) })
from_table p s assigned consistent (inr (v, below, none)) =
    chains_end p s assigned consistent (unnamed (length p.names) assigned v below none) (one_outcome (constraints s) assigned)

from_consistent : (p : Opb) (s : State) (assigned : List Lit) → Decided (IsConsistent assigned) → Completion p s assigned
from_consistent p s assigned (inl consistent) = from_table p s assigned consistent (listed_table assigned (length p.names))
from_consistent p s assigned (inr contradicts) = inr (faults.SolutionConflict, inl contradicts)

pub completion_judged : (p : Opb) (s : State) (assigned : List Lit) → Completion p s assigned
completion_judged p s assigned = from_consistent p s assigned (consistent_decided assigned)

-- and never two

reached_once : (live : List NormalConstraint) (assigned : List Lit) (g h : List Bool) → IsConsistent assigned → length g ≡ length h → ReachesAll live assigned g → ReachesAll live assigned h
    → (LeadsToConflict live assigned → ⊥) → Ends live assigned → g ≡ h
reached_once live assigned g h consistent long left right free (inl conflict) = absurd (free conflict)
reached_once live assigned g h consistent long left right free (inr (closed, closure, none)) =
    one_table closed g h (closure_consistent live assigned closed consistent free closure) long
    (λ v below. (closure (literal_for v (value_at g v))).1 (left v below)) (λ v below. (closure (literal_for v (value_at h v))).1 (right v below))

pub one_completion : (live : List NormalConstraint) (count : ℕ) (assigned : List Lit) (g h : List Bool) → Completes live count assigned g → Completes live count assigned h → g ≡ h
one_completion live count assigned g h c d = by c.completed d.completed
  where
    long : length g ≡ length h
    long = c.long ∙ sym d.long

    by : (NamesAll count assigned × SaysAll assigned g) ⊎ ((NamesAll count assigned → ⊥) × (LeadsToConflict live assigned → ⊥) × ReachesAll live assigned g)
        → (NamesAll count assigned × SaysAll assigned h) ⊎ ((NamesAll count assigned → ⊥) × (LeadsToConflict live assigned → ⊥) × ReachesAll live assigned h) → g ≡ h
    by (inl (all, says)) (inl (also, said)) = one_table assigned g h c.consistent long says said
    by (inl (all, says)) (inr (fails, free, reaches)) = absurd (fails all)
    by (inr (fails, free, reaches)) (inl (all, says)) = absurd (fails all)
    by (inr (fails, free, left)) (inr (also, none, right)) = reached_once live assigned g h c.consistent long left right free (one_outcome live assigned)
