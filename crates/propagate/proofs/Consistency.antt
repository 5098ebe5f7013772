-- A chain from a consistent assignment does not contradict itself.
use Rattle.std.proofs.Common.{◌≡◌, ℕ, Bool, true, false, not, List, [], ◌∷◌, ◌++◌, refl, sym, ap, subst, ◌∙◌, inl, inr, append_assoc}
use Rattle.std.proofs.lemmas.Bool.{false≢true}
use Rattle.std.proofs.lemmas.List.{append-nil}
use Rattle.linear.specs.declared.term.Lit.{Lit}
use Rattle.normal_form.specs.Normal.{NormalConstraint, only}
use Rattle.linear.specs.Literal.{opposite}
use Rattle.propagate.specs.Literals.{among, lists, IsConsistent}
use Rattle.propagate.specs.Chain.{IsChain, IsClosure}
use Rattle.normal_form.proofs.SetSums.{only_is}
use Rattle.propagate.proofs.Assignments.{among_cases, or_cases}

pub only_here : (l : Lit) (v : ℕ) (s : Bool) → among (l ∷ []) v s ≡ true → (v ≡ l.var.0) × (s ≡ l.negated)
only_here l v s h = elim (or_cases (only (l.var.0) l.negated v s) false h) [
  | inl o ↦ only_is (l.var.0) v l.negated s o
  | inr o ↦ absurd (false≢true o)
]

twice : (s : Bool) → s ≡ not (not s)
twice true = refl
twice false = refl

no_fixed : (s : Bool) → s ≡ not s → ⊥
no_fixed true h = false≢true (sym h)
no_fixed false h = false≢true h

pub at_literal : (xs : List Lit) (v w : ℕ) (s b : Bool) → v ≡ w → s ≡ b → among xs v s ≡ true → among xs w b ≡ true
at_literal xs v w s b e f h = cc

pub push_consistent : (xs : List Lit) (l : Lit) → IsConsistent xs → lists xs (opposite l) ≡ false → IsConsistent (xs ++ l ∷ [])
push_consistent xs l h free m =
    let v = m.0.var.0 in
    let s = m.0.negated in
    elim (among_cases xs (l ∷ []) v s m.1) [
      | inl a ↦ elim (among_cases xs (l ∷ []) v (not s) m.2) [
        | inl b ↦ h (m.0, a, b)
        | inr b ↦
            let at = only_here l v (not s) b in
            false≢true (sym free ∙ at_literal xs v (l.var.0) s (not l.negated) at.0 (twice s ∙ ap not at.1) a)
      ]
      | inr a ↦
          let here = only_here l v s a in
          elim (among_cases xs (l ∷ []) v (not s) m.2) [
            | inl b ↦ false≢true (sym free ∙ at_literal xs v (l.var.0) (not s) (not l.negated) here.0 (ap not here.1) b)
            | inr b ↦ no_fixed s (here.1 ∙ sym (only_here l v (not s) b).1)
          ]
    ]

pub chain_consistent : (ns : List NormalConstraint) (given chain : List Lit) → IsConsistent given → IsChain ns given chain → IsConsistent (given ++ chain)
chain_consistent ns given [] h c = subst (λ (xs : List Lit). IsConsistent xs) (sym (append-nil given)) h
chain_consistent ns given (l ∷ ls) h c =
    subst (λ (xs : List Lit). IsConsistent xs) (append_assoc given (l ∷ []) ls)
    (chain_consistent ns (given ++ l ∷ []) ls (push_consistent given l h c.0.4.opposite_unset) c.1)

same_bool : (b d : Bool) → (b ≡ true → d ≡ true) → (d ≡ true → b ≡ true) → b ≡ d
same_bool true d f g = sym (f refl)
same_bool false true f g = g refl
same_bool false false f g = refl

pub one_closure : (ns : List NormalConstraint) (given closed other : List Lit) → IsClosure ns given closed → IsClosure ns given other → (l : Lit) → lists closed l ≡ lists other l
one_closure ns given closed other f g l = same_bool (lists closed l) (lists other l) (λ e. (g l).1 ((f l).0 e)) (λ e. (f l).1 ((g l).0 e))
