-- A trace told by places is one told by ids, where the ids stand beside the constraints.
use Rattle.std.proofs.Common.{◌≡◌, ℕ, T, List, [], ◌∷◌, ◌++◌, map, get_or, Option, Some, None, MatchOption, refl, sym, ap, subst, ◌∙◌}
use Rattle.std.specs.Ordering.{nat_cmp}
use Rattle.std.specs.Option.{option_map}
use Rattle.std.specs.FinMap as fin
use Rattle.std.proofs.lemmas.Cmp.{nat_cmp_total}
use Rattle.linear.specs.declared.term.Lit.{Lit}
use Rattle.normal_form.specs.Normal.{NormalConstraint}
use Rattle.propagate.specs.declared.forced.Forced.{Forced}
use Rattle.propagate.specs.declared.trace.Trace.{Trace}
use Rattle.propagate.specs.Chain.{LeadsToConflict, IsFixpoint, IsClosure}
use Rattle.propagate.specs.Content.{Content, IsFalsifiedIn, AreForcedIn, traced, IsEnd, IsTrace}
use Rattle.propagate.specs.Literals.{SameLiterals}
use Rattle.propagate.specs.TraceByPlaces.{named, IsTraceByPlaces}
use Rattle.propagate.specs.Walk.{StandsAt, IsFalsifiedAt, IsReasonedChain, literals_of}
use Rattle.propagate.proofs.ChainEnds.{given_within}
use Rattle.propagate.proofs.Chains.{no_conflict_from}
use Rattle.propagate.proofs.Closure.{same_fixpoint}
use Rattle.propagate.proofs.Entries.{Entries, ids_of, values_of, content_of, values_are, found_at}
use Rattle.propagate.proofs.SameAssignments.{within_same, turned_same, same_falsified, same_pushed, same_chain}
use Rattle.propagate.proofs.WalkEnds.{walk_closure}

-- the constraint at a place is that of the id at the place
stands : (es : Entries) → T (fin.is_sorted nat_cmp es) → (place : ℕ) (n : NormalConstraint) → StandsAt (values_of es) place n → fin.get (content_of es) (get_or (ids_of es) place 0) ≡ Some n
stands es rises place n s = fin.get-from_entries nat_cmp_total es (get_or (ids_of es) place 0) ∙ found_at es place 0 n rises s.0 s.1

forced_by_id : (es : Entries) → T (fin.is_sorted nat_cmp es) → (given : List Lit) (steps : List Forced) → IsReasonedChain (values_of es) given steps → AreForcedIn (content_of es) given (map (named (ids_of es)) steps)
forced_by_id es rises given [] c = tt
forced_by_id es rises given (s ∷ ss) c =
    ((c.0.0, stands es rises s.reason c.0.0 c.0.1, c.0.2), forced_by_id es rises (given ++ s.literal ∷ []) ss c.1)

literals_named : (ids : List ℕ) (steps : List Forced) → traced (map (named ids) steps) ≡ literals_of steps
literals_named ids [] = refl
literals_named ids (s ∷ ss) = ap (λ (ls : List Lit). s.literal ∷ ls) (literals_named ids ss)

ended : (es : Entries) → T (fin.is_sorted nat_cmp es) → (given : List Lit) (steps : List Forced) → IsReasonedChain (values_of es) given steps → IsFixpoint (values_of es) (given ++ literals_of steps) → IsEnd (content_of es) given (given ++ literals_of steps)
ended es rises given steps c q =
    let assigned = given ++ literals_of steps in
    let back = sym (values_are es rises) in
    record {
      no_conflict = subst (λ (ns : List NormalConstraint). LeadsToConflict ns given → ⊥) back
          (no_conflict_from (values_of es) given assigned q (given_within given (literals_of steps)));
      closure = subst (λ (ns : List NormalConstraint). IsClosure ns given assigned) back (walk_closure (values_of es) given assigned steps c refl q);
    }

at_end : (es : Entries) → T (fin.is_sorted nat_cmp es) → (start given : List Lit) (steps : List Forced) → SameLiterals start given → IsReasonedChain (values_of es) given steps
    → (falsified : Option ℕ) → MatchOption falsified (IsFixpoint (values_of es) (start ++ literals_of steps)) (IsFalsifiedAt (values_of es) (start ++ literals_of steps))
    → MatchOption (option_map (λ place. get_or (ids_of es) place 0) falsified) (IsEnd (content_of es) given (given ++ literals_of steps)) (IsFalsifiedIn (content_of es) (given ++ literals_of steps))
at_end es rises start given steps same c None q =
    let all = same_pushed start given (literals_of steps) same in
    let xs = start ++ literals_of steps in
    let ys = given ++ literals_of steps in
    ended es rises given steps c (same_fixpoint (values_of es) ys xs q (within_same ys xs (turned_same xs ys all)) (within_same xs ys all))
at_end es rises start given steps same c (Some place) b =
    (b.0, stands es rises place b.0 b.1, same_falsified (start ++ literals_of steps) (given ++ literals_of steps) b.0 (same_pushed start given (literals_of steps) same) b.2)

abbrev TraceOf : Content → List Lit → List (Lit × ℕ) → Option ℕ → Type 0
TraceOf content given forced conflict =
    AreForcedIn content given forced × MatchOption conflict (IsEnd content given (given ++ traced forced)) (IsFalsifiedIn content (given ++ traced forced))

by_id : (es : Entries) → T (fin.is_sorted nat_cmp es) → (start given : List Lit) (steps : List Forced) (falsified : Option ℕ) → SameLiterals start given → IsReasonedChain (values_of es) start steps
    → MatchOption falsified (IsFixpoint (values_of es) (start ++ literals_of steps)) (IsFalsifiedAt (values_of es) (start ++ literals_of steps))
    → TraceOf (content_of es) given (map (named (ids_of es)) steps) (option_map (λ place. get_or (ids_of es) place 0) falsified)
by_id es rises start given steps falsified same chain end =
    let c = same_chain (values_of es) start given steps same chain in (
      forced_by_id es rises given steps c,
      subst (λ (ls : List Lit). MatchOption (option_map (λ place. get_or (ids_of es) place 0) falsified) (IsEnd (content_of es) given (given ++ ls)) (IsFalsifiedIn (content_of es) (given ++ ls)))
          (sym (literals_named (ids_of es) steps)) (at_end es rises start given steps same c falsified end),
    )

pub trace_by_id : (es : Entries) → T (fin.is_sorted nat_cmp es) → (given : List Lit) (t : Trace) → IsTraceByPlaces (values_of es) (ids_of es) given t → IsTrace (content_of es) given t
trace_by_id es rises given t p =
    let made = by_id es rises p.start given p.steps p.falsified p.same p.chain p.end in
    let both = subst (λ (o : Option ℕ). TraceOf (content_of es) given t.forced o) (sym p.conflict)
    (subst (λ (fs : List (Lit × ℕ)). TraceOf (content_of es) given fs (option_map (λ place. get_or (ids_of es) place 0) p.falsified)) (sym p.forced) made) in
    record { chain = both.0; end = both.1 }

-- the same, where constraints and ids are known by other names
pub trace_from : (es : Entries) → T (fin.is_sorted nat_cmp es) → (ns : List NormalConstraint) (ids : List ℕ) (given : List Lit) (t : Trace) → ns ≡ fin.values (content_of es) → ids ≡ ids_of es → IsTraceByPlaces ns ids given t → IsTrace (content_of es) given t
trace_from es rises ns ids given t e f p =
    trace_by_id es rises given t
    (subst (λ (ms : List NormalConstraint). IsTraceByPlaces ms (ids_of es) given t) (e ∙ values_are es rises)
    (subst (λ (ks : List ℕ). IsTraceByPlaces ns ks given t) f p))
