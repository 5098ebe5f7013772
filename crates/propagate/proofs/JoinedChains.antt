-- Finitely many literals that chains reach stand in one chain; so a constraint that is there never bites.
use Rattle.std.proofs.Common.{◌≡◌, ℕ, Bool, true, List, [], ◌∷◌, ◌++◌, Contains, sym, subst, inl, inr, append_assoc}
use Rattle.std.proofs.lemmas.Bool.{false≢true}
use Rattle.std.proofs.lemmas.List.{append-nil}
use Rattle.linear.specs.declared.term.Lit.{Lit}
use Rattle.normal_form.specs.Normal.{NormalConstraint, only}
use Rattle.propagate.specs.Literals.{among, lists}
use Rattle.propagate.specs.Slack.{IsFalsified, IsForced}
use Rattle.propagate.specs.Chain.{IsForcedByOne, IsChain, LeadsToConflict, IsReached}
use Rattle.propagate.specs.Biting.{Bites}
use Rattle.normal_form.proofs.SetSums.{Within}
use Rattle.propagate.proofs.Assignments.{among_left, among_right, among_cases, among_head, among_tail, among_pushed, or_cases}
use Rattle.normal_form.proofs.SetSums.{only_is}
use Rattle.propagate.proofs.Chains.{another, along, falsified_more, forced_more}
use Rattle.propagate.proofs.ChainEnds.{given_within}

-- a chain with one more forced literal at its end
pub chain_push : (ns : List NormalConstraint) (given chain : List Lit) (l : Lit) → IsChain ns given chain → IsForcedByOne ns (given ++ chain) l → IsChain ns given (chain ++ l ∷ [])
chain_push ns given [] l c f = (subst (λ (xs : List Lit). IsForcedByOne ns xs l) (append-nil given) f, tt)
chain_push ns given (m ∷ ms) l c f =
    (c.0, chain_push ns (given ++ m ∷ []) ms l c.1 (subst (λ (xs : List Lit). IsForcedByOne ns xs l) (sym (append_assoc given (m ∷ []) ms)) f))

-- a chain from what is given that has what two such chains have
abbrev Joins : List NormalConstraint → List Lit → List Lit → List Lit → List Lit → Type 0
Joins ns given xs assigned zs = IsChain ns given zs × Within (among (given ++ xs)) (among (given ++ zs)) × Within (among assigned) (among (given ++ zs))

longer : (given xs : List Lit) (l : Lit) → Within (among (given ++ xs)) (among (given ++ (xs ++ l ∷ [])))
longer given xs l v s h = subst (λ (zs : List Lit). among zs v s ≡ true) (append_assoc given xs (l ∷ [])) (among_left (given ++ xs) (l ∷ []) v s h)

pushed_last : (given xs : List Lit) (l : Lit) → lists (given ++ (xs ++ l ∷ [])) l ≡ true
pushed_last given xs l = among_right given (xs ++ l ∷ []) (l.var.0) l.negated (among_right xs (l ∷ []) (l.var.0) l.negated (among_head l []))

pub joined : (ns : List NormalConstraint) (given : List Lit) → (LeadsToConflict ns given → ⊥) → (ys base xs : List Lit) → IsChain ns given xs → Within (among base) (among (given ++ xs)) → IsChain ns base ys → (zs : List Lit) × Joins ns given xs (base ++ ys) zs
joined ns given none [] base xs c h d = (xs, (c, λ v s e. e, along base (base ++ []) (sym (append-nil base)) (among (given ++ xs)) h))
joined ns given none (l ∷ ls) base xs c h d =
    elim (forced_more d.0.1 base (given ++ xs) l h d.0.4) [
      | inl m ↦
          let r = joined ns given none ls (base ++ l ∷ []) xs c (among_pushed (among (given ++ xs)) base l h m) d.1 in
          (r.0, (r.1.0, r.1.1, along ((base ++ l ∷ []) ++ ls) (base ++ l ∷ ls) (append_assoc base (l ∷ []) ls) (among (given ++ r.0)) r.1.2))
      | inr (inl f) ↦
          let pushed = chain_push ns given xs l c (another (IsForced base l) (IsForced (given ++ xs) l) ns d.0 (λ _. f)) in
          let inside : Within (among base) (among (given ++ (xs ++ l ∷ []))) = λ v s e. longer given xs l v s (h v s e) in
          let r = joined ns given none ls (base ++ l ∷ []) (xs ++ l ∷ []) pushed (among_pushed (among (given ++ (xs ++ l ∷ []))) base l inside (pushed_last given xs l)) d.1 in
          (r.0, (r.1.0, λ v s e. r.1.1 v s (longer given xs l v s e), along ((base ++ l ∷ []) ++ ls) (base ++ l ∷ ls) (append_assoc base (l ∷ []) ls) (among (given ++ r.0)) r.1.2))
      | inr (inr b) ↦ absurd (none (xs, c, another (IsForced base l) (IsFalsified (given ++ xs)) ns d.0 (λ _. b)))
    ]

abbrev Gathers : List NormalConstraint → List Lit → List Lit → List Lit → Type 0
Gathers ns given assigned zs = IsChain ns given zs × Within (among assigned) (among (given ++ zs))

with_head : (l : Lit) (ls : List Lit) (set : ℕ → Bool → Bool) → set (l.var.0) l.negated ≡ true → Within (among ls) set → Within (among (l ∷ ls)) set
with_head l ls set here h v s e = elim (or_cases (only (l.var.0) l.negated v s) (among ls v s) e) [
  | inl o ↦ let same = only_is (l.var.0) v l.negated s o in cc
  | inr o ↦ h v s o
]

-- one chain has all of finitely many reached literals
gathered : (ns : List NormalConstraint) (given : List Lit) → (LeadsToConflict ns given → ⊥) → (ls : List Lit) → ((l : Lit) → lists ls l ≡ true → IsReached ns given l) → (zs : List Lit) × Gathers ns given ls zs
gathered ns given none [] h = ([], (tt, λ v s e. absurd (false≢true e)))
gathered ns given none (l ∷ ls) h =
    let rest = gathered ns given none ls (λ m e. h m (among_tail l ls (m.var.0) m.negated e)) in
    elim (h l (among_head l ls)) [
      | inl g ↦ (rest.0, (rest.1.0, with_head l ls (among (given ++ rest.0)) (among_left given rest.0 (l.var.0) l.negated g) rest.1.1))
      | inr y ↦
          let r = joined ns given none y.0 given rest.0 rest.1.0 (given_within given rest.0) y.1 in
          (r.0, (r.1.0, with_head l ls (among (given ++ r.0)) (r.1.2 (l.var.0) l.negated (among_right given y.0 (l.var.0) l.negated y.2)) (λ v s e. r.1.1 v s (rest.1.1 v s e))))
    ]

literal : ℕ → Bool → Lit
literal v s = record { var = record { 0 = v }; negated = s }

-- a constraint that is there says no more than the closure
pub never_bites : (ns : List NormalConstraint) (n : NormalConstraint) → Contains ns n → Bites ns n → ⊥
unfolding literal
never_bites ns n here b =
    let given = b.0 in
    let closed = b.1 in
    let under = b.2 in
    let g = gathered ns given under.no_conflict closed (λ l e. (under.closure l).0 e) in
    let back : Within (among (given ++ g.0)) (among closed) = λ v s e. elim (among_cases given g.0 v s e) [
      | inl m ↦ (under.closure (literal v s)).1 (inl m)
      | inr m ↦ (under.closure (literal v s)).1 (inr (g.0, g.1.0, m))
    ] in
    elim under.bites [
      | inl falsified ↦ under.no_conflict (g.0, g.1.0, (here.0, n, here.1, here.2, falsified_more n closed (given ++ g.0) g.1.1 falsified))
      | inr f ↦ elim (forced_more n closed (given ++ g.0) f.0 g.1.1 f.1) [
        | inl m ↦ let e = back (f.0.var.0) f.0.negated m in let u = f.1.unset in absurd (false≢true (cc))
        | inr (inl again) ↦
            let pushed = chain_push ns given g.0 f.0 g.1.0 (here.0, n, here.1, here.2, again) in
            let e = (under.closure f.0).1 (inr (g.0 ++ f.0 ∷ [], pushed, among_right g.0 (f.0 ∷ []) (f.0.var.0) f.0.negated (among_head f.0 []))) in
            let u = f.1.unset in
            absurd (false≢true (cc))
        | inr (inr falsified) ↦ under.no_conflict (g.0, g.1.0, (here.0, n, here.1, here.2, falsified))
      ]
    ]
