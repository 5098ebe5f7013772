-- What is given or forced, without a conflict, is a fixpoint; and more literals lead to no fewer conflicts.
use Rattle.std.proofs.Common.{◌≡◌, true, List, sym, ◌∙◌, inl, inr}
use Rattle.std.proofs.lemmas.Bool.{false≢true}
use Rattle.linear.specs.declared.term.Lit.{Lit}
use Rattle.normal_form.specs.Normal.{NormalConstraint}
use Rattle.propagate.specs.Literals.{among, lists}
use Rattle.propagate.specs.Slack.{IsFalsified, IsForced}
use Rattle.propagate.specs.Chain.{LeadsToConflict, IsFixpoint, IsClosure}
use Rattle.normal_form.proofs.SetSums.{Within}
use Rattle.propagate.proofs.Chains.{another, falsified_more, forced_more, no_conflict_from}
use Rattle.propagate.proofs.ChainEnds.{by_set}
use Rattle.propagate.proofs.SearchEnds.{one_end_or_conflict}

-- an assignment with the literals of a fixpoint
pub same_fixpoint : (ns : List NormalConstraint) (closed ms : List Lit) → IsFixpoint ns ms → Within (among closed) (among ms) → Within (among ms) (among closed) → IsFixpoint ns closed
same_fixpoint ns closed ms q in' out = record {
  nothing_forced = λ l f. elim (forced_more f.1 closed ms l in' f.4) [
    | inl m ↦ false≢true (sym f.4.unset ∙ out (l.var.0) l.negated m)
    | inr (inl again) ↦ q.nothing_forced l (another (IsForced closed l) (IsForced ms l) ns f (λ _. again))
    | inr (inr b) ↦ q.no_conflict (another (IsForced closed l) (IsFalsified ms) ns f (λ _. b))
  ];
  no_conflict = λ b. q.no_conflict (another (IsFalsified closed) (IsFalsified ms) ns b (falsified_more b.1 closed ms in'));
}

pub closure_fixpoint : (ns : List NormalConstraint) (given closed : List Lit) → IsClosure ns given closed → (LeadsToConflict ns given → ⊥) → IsFixpoint ns closed
closure_fixpoint ns given closed f none = elim (one_end_or_conflict ns given) [
  | inl r ↦ absurd (none r)
  | inr e ↦ same_fixpoint ns closed e.0 e.1
      (by_set closed e.0 (λ l h. (e.2 l).1 ((f l).0 h)))
      (by_set e.0 closed (λ l h. (f l).1 ((e.2 l).0 h)))
]

pub more_literals : (ns : List NormalConstraint) (given more : List Lit) → ((l : Lit) → lists given l ≡ true → lists more l ≡ true) → LeadsToConflict ns given → LeadsToConflict ns more
more_literals ns given more h r = elim (one_end_or_conflict ns more) [
  | inl s ↦ s
  | inr e ↦ absurd (no_conflict_from ns given e.0 e.1 (by_set given e.0 (λ l k. (e.2 l).1 (inl (h l k)))) r)
]
