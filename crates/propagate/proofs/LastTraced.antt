-- What a trace leaves out follows from what stands before the last literal, and stays within whatever is a fixpoint above that.
use Rattle.std.proofs.Common.{◌≡◌, ℕ, true, List, [], ◌∷◌, ◌++◌, Some, None, sym, ◌∙◌, ap, append-nil, subst, inl, inr}
use Rattle.std.specs.FinMap as fin
use Rattle.linear.specs.declared.term.Lit.{Lit}
use Rattle.normal_form.specs.Normal.{NormalConstraint}
use Rattle.normal_form.proofs.SetSums.{Within}
use Rattle.propagate.specs.declared.trace.Trace.{Trace}
use Rattle.propagate.specs.Chain.{IsChain, IsReached, IsFixpoint, LeadsToConflict, IsClosure}
use Rattle.propagate.specs.Content.{Content, IsEnd, IsTrace, IsTraceOfLast, traced}
use Rattle.propagate.specs.Literals.{among, lists}
use Rattle.propagate.proofs.ChainEnds.{by_set, fixpoint_stays}
use Rattle.propagate.proofs.Chains.{chain_stays, no_conflict_from}
use Rattle.propagate.proofs.Closure.{closure_fixpoint, more_literals}
use Rattle.propagate.proofs.Assignments.{among_cases, among_head, among_left, among_pushed, among_right, among_tail}
use Rattle.propagate.proofs.SearchEnds.{one_end_or_conflict}
use Rattle.propagate.proofs.TraceMeaning.{chain_traced, conflict_traced, end_traced}

-- nothing is left out of a whole trace
pub whole_last : (content : Content) (before given : List Lit) (last : Lit) (t : Trace) → given ≡ before ++ last ∷ [] → IsTrace content given t → IsTraceOfLast content before last t
whole_last content before given last t is h = record {
  left_out = [];
  chain = tt;
  trace = subst (λ (xs : List Lit). IsTrace content xs t) (is ∙ ap (λ (xs : List Lit). xs ++ last ∷ []) (sym (append-nil before))) h;
}

-- all of the chain stays within what is a fixpoint, with the last literal
longer_within : (ns : List NormalConstraint) (fixpoint before chain : List Lit) (last : Lit) → IsFixpoint ns fixpoint → Within (among (before ++ last ∷ [])) (among fixpoint) → IsChain ns before chain → Within (among ((before ++ chain) ++ last ∷ [])) (among fixpoint)
longer_within ns fixpoint before chain last q h c =
    among_pushed (among fixpoint) (before ++ chain) last
    (chain_stays ns fixpoint q before chain (λ v s e. h v s (among_left before (last ∷ []) v s e)) c)
    (h (last.var.0) last.negated (among_right before (last ∷ []) (last.var.0) last.negated (among_head last [])))

shorter_within : (before chain : List Lit) (last : Lit) → (l : Lit) → lists (before ++ last ∷ []) l ≡ true → lists ((before ++ chain) ++ last ∷ []) l ≡ true
shorter_within before chain last l h = elim (among_cases before (last ∷ []) (l.var.0) l.negated h) [
  | inl x ↦ among_left (before ++ chain) (last ∷ []) (l.var.0) l.negated (among_left before chain (l.var.0) l.negated x)
  | inr x ↦ among_right (before ++ chain) (last ∷ []) (l.var.0) l.negated x
]

pub conflict_of_last : (content : Content) (before : List Lit) (last : Lit) (t : Trace) (id : ℕ) → IsTraceOfLast content before last t → t.conflict ≡ Some id → LeadsToConflict (fin.values content) (before ++ last ∷ [])
conflict_of_last content before last t id h is =
    let ns = fin.values content in
    let chain = traced h.left_out in
    let given = before ++ last ∷ [] in
    elim (one_end_or_conflict ns given) [
      | inl r ↦ r
      | inr e ↦ absurd (no_conflict_from ns ((before ++ chain) ++ last ∷ []) e.0 e.1
          (longer_within ns e.0 before chain last e.1 (by_set given e.0 (λ l k. (e.2 l).1 (inl k))) (chain_traced content before h.left_out h.chain))
          (conflict_traced content ((before ++ chain) ++ last ∷ []) t id h.trace is))
    ]

-- what is given or stands in a chain from it is in whatever is a fixpoint above it
reached_within : (ns : List NormalConstraint) (fixpoint given : List Lit) (l : Lit) → IsFixpoint ns fixpoint → ((m : Lit) → lists given m ≡ true → lists fixpoint m ≡ true) → IsReached ns given l → lists fixpoint l ≡ true
reached_within ns fixpoint given l q h (inl e) = h l e
reached_within ns fixpoint given l q h (inr c) = fixpoint_stays ns fixpoint given c.0 q h c.1 l c.2

-- nothing that is listed lies outside what follows from all
listed_fixpoint : (ns : List NormalConstraint) (fixpoint before assigned chain forced : List Lit) (last l : Lit) → IsFixpoint ns fixpoint → ((m : Lit) → lists (before ++ last ∷ []) m ≡ true → lists fixpoint m ≡ true)
    → IsChain ns before chain → IsClosure ns before assigned → IsChain ns ((before ++ chain) ++ last ∷ []) forced → lists (assigned ++ last ∷ forced) l ≡ true → lists fixpoint l ≡ true
listed_fixpoint ns fixpoint before assigned chain forced last l q h c f g e =
    let low : (m : Lit) → lists before m ≡ true → lists fixpoint m ≡ true = λ m k. h m (among_left before (last ∷ []) (m.var.0) m.negated k) in
    let longer = longer_within ns fixpoint before chain last q (by_set (before ++ last ∷ []) fixpoint h) c in
    elim (among_cases assigned (last ∷ forced) (l.var.0) l.negated e) [
      | inl x ↦ reached_within ns fixpoint before l q low ((f l).0 x)
      | inr x ↦ elim (among_cases (last ∷ []) forced (l.var.0) l.negated x) [
        | inl y ↦ h l (among_right before (last ∷ []) (l.var.0) l.negated y)
        | inr y ↦ fixpoint_stays ns fixpoint ((before ++ chain) ++ last ∷ []) forced q (λ m k. longer (m.var.0) m.negated k) g l y
      ]
    ]

-- nothing that follows from all is left out
followed_listed : (ns : List NormalConstraint) (before assigned chain forced : List Lit) (last l : Lit) → IsChain ns before chain → IsClosure ns before assigned
    → lists (((before ++ chain) ++ last ∷ []) ++ forced) l ≡ true → lists (assigned ++ last ∷ forced) l ≡ true
followed_listed ns before assigned chain forced last l c f e =
    let v = l.var.0 in
    let s = l.negated in
    elim (among_cases ((before ++ chain) ++ last ∷ []) forced v s e) [
      | inl x ↦ elim (among_cases (before ++ chain) (last ∷ []) v s x) [
        | inl y ↦ among_left assigned (last ∷ forced) v s (elim (among_cases before chain v s y) [
          | inl z ↦ (f l).1 (inl z)
          | inr z ↦ (f l).1 (inr (chain, c, z))
        ])
        | inr y ↦ among_right assigned (last ∷ forced) v s (among_left (last ∷ []) forced v s y)
      ]
      | inr x ↦ among_right assigned (last ∷ forced) v s (among_tail last forced v s x)
    ]

pub end_of_last : (content : Content) (before assigned : List Lit) (last : Lit) (t : Trace) → IsEnd content before assigned → IsTraceOfLast content before last t → t.conflict ≡ None → IsEnd content (before ++ last ∷ []) (assigned ++ last ∷ traced t.forced)
end_of_last content before assigned last t below h is =
    let ns = fin.values content in
    let chain = traced h.left_out in
    let forced = traced t.forced in
    let given = before ++ last ∷ [] in
    let longer = (before ++ chain) ++ last ∷ [] in
    let end = end_traced content longer t h.trace is in
    let c = chain_traced content before h.left_out h.chain in
    let g = chain_traced content longer t.forced h.trace.chain in
    let none : LeadsToConflict ns given → ⊥ = λ r. end.no_conflict (more_literals ns given longer (shorter_within before chain last) r) in
    let q = closure_fixpoint ns longer (longer ++ forced) end.closure end.no_conflict in
    let above : (m : Lit) → lists given m ≡ true → lists (longer ++ forced) m ≡ true = λ m k. among_left longer forced (m.var.0) m.negated (shorter_within before chain last m k) in
    record {
      no_conflict = none;
      closure = λ l. elim (one_end_or_conflict ns given) [
        | inl r ↦ absurd (none r)
        | inr e ↦ (
          (λ k. (e.2 l).0 (listed_fixpoint ns e.0 before assigned chain forced last l e.1 (λ m j. (e.2 m).1 (inl j)) c below.closure g k)),
          (λ r. followed_listed ns before assigned chain forced last l c below.closure (reached_within ns (longer ++ forced) given l q above r)),
        )
      ];
    }
