-- A walk from the kept literals and some given ones, against chains from what is given alone.
use Rattle.std.proofs.Common.{inl, inr, List, [], ◌++◌, subst, sym}
use Rattle.std.proofs.lemmas.Bool.{false≢true}
use Rattle.linear.specs.declared.term.Lit.{Lit}
use Rattle.normal_form.specs.Normal.{NormalConstraint}
use Rattle.normal_form.proofs.SetSums.{Within}
use Rattle.propagate.specs.Literals.{among}
use Rattle.propagate.specs.Slack.{IsFalsified}
use Rattle.propagate.specs.Chain.{IsConflict, IsFixpoint, IsClosure, LeadsToConflict}
use Rattle.propagate.proofs.Assignments.{among_cases}
use Rattle.propagate.proofs.Chains.{another, falsified_more, chain_stays, no_conflict_from}
use Rattle.propagate.proofs.ChainEnds.{by_set, fixpoint_stays}
use Rattle.propagate.proofs.SearchEnds.{one_end_or_conflict}
use Rattle.watch.specs.Looking.{IsContinued}

-- a walk from literals within a fixpoint stays within it
pub stays_within : (ns : List NormalConstraint) (xs ys ms : List Lit) → IsFixpoint ns ms → Within (among xs) (among ms) → IsContinued ns xs ys → Within (among ys) (among ms)
stays_within ns xs ys ms q h g = subst (λ (zs : List Lit). Within (among zs) (among ms)) (sym g.2) (chain_stays ns ms q xs g.0 h g.1)

from_nothing : (ms : List Lit) → Within (among []) (among ms)
from_nothing ms v s e = absurd (false≢true e)

both_within : (xs ys ms : List Lit) → Within (among xs) (among ms) → Within (among ys) (among ms) → Within (among (xs ++ ys)) (among ms)
both_within xs ys ms h k v s e = elim (among_cases xs ys v s e) [
  | inl a ↦ h v s a
  | inr b ↦ k v s b
]

-- kept literals, then given ones that are new, then a walk: within each fixpoint assignment that has what is given
pub all_within : (ns : List NormalConstraint) (given root added assigned ms : List Lit) → IsFixpoint ns ms → Within (among given) (among ms) → IsContinued ns [] root → Within (among added) (among given) → IsContinued ns (root ++ added) assigned → Within (among assigned) (among ms)
all_within ns given root added assigned ms q h r a g =
    stays_within ns (root ++ added) assigned ms q (both_within root added ms (stays_within ns [] root ms q (from_nothing ms) r) (λ v s e. h v s (a v s e))) g

-- a conflict there is one that chains from what is given lead to
pub conflict_kept : (ns : List NormalConstraint) (given root added assigned : List Lit) → IsContinued ns [] root → Within (among added) (among given) → IsContinued ns (root ++ added) assigned → IsConflict ns assigned → LeadsToConflict ns given
conflict_kept ns given root added assigned r a g b = elim (one_end_or_conflict ns given) [
  | inl c ↦ c
  | inr e ↦
      let given_in : Within (among given) (among e.0) = by_set given e.0 (λ l h. (e.2 l).1 (inl h)) in
      absurd (e.1.no_conflict (another (IsFalsified assigned) (IsFalsified e.0) ns b (falsified_more b.1 assigned e.0 (all_within ns given root added assigned e.0 e.1 given_in r a g))))
]

-- an end in a fixpoint is exactly what is given or forced
pub closure_kept : (ns : List NormalConstraint) (given root added assigned : List Lit) → IsContinued ns [] root → Within (among added) (among given) → IsContinued ns (root ++ added) assigned → IsFixpoint ns assigned → Within (among given) (among assigned) → IsClosure ns given assigned
closure_kept ns given root added assigned r a g q h = elim (one_end_or_conflict ns given) [
  | inl c ↦ absurd (no_conflict_from ns given assigned q h c)
  | inr e ↦ λ l. (
    λ m. (e.2 l).0 (all_within ns given root added assigned e.0 e.1 (by_set given e.0 (λ k f. (e.2 k).1 (inl f))) r a g (l.var.0) l.negated m),
    λ reached. elim reached [
      | inl m ↦ h (l.var.0) l.negated m
      | inr c ↦ fixpoint_stays ns assigned given c.0 q (λ k f. h (k.var.0) k.negated f) c.1 l c.2
    ],
  )
]
