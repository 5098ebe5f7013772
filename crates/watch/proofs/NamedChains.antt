-- A chain told by places is one told by ids, where each place with a constraint has its id.
use Rattle.std.proofs.Common.{◌≡◌, ℕ, ◌<◌, All, IfSome, List, [], ◌∷◌, ◌++◌, map, length, get_or, Option, Some, None, MatchOption, refl, sym, ap, subst, ◌∙◌, arith}
use Rattle.std.proofs.lemmas.List.{get_or_default, length-map}
use Rattle.std.proofs.lemmas.List.Elements.{All-nil, All-cons}
use Rattle.std.specs.FinMap as fin
use Rattle.std.specs.Option.{option_map}
use Rattle.linear.specs.declared.term.Lit.{Lit}
use Rattle.normal_form.specs.Normal.{NormalConstraint}
use Rattle.propagate.specs.declared.trace.Trace.{Trace}
use Rattle.propagate.specs.Chain.{IsChain, IsFixpoint}
use Rattle.propagate.specs.Content.{AreForcedIn, IsFalsifiedIn, IsEnd, IsTrace, IsTraceOfLast, traced}
use Rattle.propagate.specs.Slack.{IsFalsified, IsForced}
use Rattle.propagate.specs.Walk.{IsFalsifiedAt}
use Rattle.propagate.proofs.ChainEnds.{given_within}
use Rattle.propagate.proofs.Chains.{no_conflict_from}
use Rattle.propagate.proofs.SearchIsRight.{closure_by}
use Rattle.propagate.proofs.TraceMeaning.{chain_traced}
use Rattle.watch.specs.declared.chain.Step.{Step}
use Rattle.watch.specs.declared.chain.Chain.{Chain}
use Rattle.ledger.specs.Ledgers.{constraint_at, constraint_in, nothing, shown}
use Rattle.watch.specs.Named.{AreNamed, content_at}
use Rattle.watch.specs.Steps.{AreSteps, IsFound, IsFoundOfLast, IsTraceOf, literals_of, step_named}
use Rattle.watch.proofs.LiveContent.{live_content}
use Rattle.watch.proofs.LiveOnes.{live_fixpoint}
use Rattle.watch.proofs.NamedPlaces.{got, shows}
use Rattle.ledger.proofs.Standing.{quiet_nothing, shown_at}

abbrev Slots : Type 0
Slots = List (Option NormalConstraint)

abbrev Places : Type 0
Places = List (ℕ × ℕ)

-- what is true of the constraint at a place, and not of what says nothing, is true of the constraint of an id
named_one : (P : NormalConstraint → Type 0) (slots : Slots) (es : Places) (ids : List ℕ) (k : ℕ) (o : Option NormalConstraint) → AreNamed es ids slots → (P nothing → ⊥) → get_or slots k None ≡ o → P (constraint_at (shown slots) k)
    → (n : NormalConstraint) × (fin.get (content_at slots es) (get_or ids k 0) ≡ Some n) × P n
named_one P slots es ids k None a none e p = absurd (none (subst P (shown_at slots k ∙ ap constraint_in e) p))
named_one P slots es ids k (Some n) a none e p =
    (n, sym (got slots es ids (get_or ids k 0) k a (a.named k n e)) ∙ e, subst P (shows slots k n e) p)

steps_named : (slots : Slots) (es : Places) (ids : List ℕ) → AreNamed es ids slots → (given : List Lit) (steps : List Step) → AreSteps (shown slots) given steps → AreForcedIn (content_at slots es) given (map (step_named ids) steps)
steps_named slots es ids a given [] c = tt
steps_named slots es ids a given (s ∷ ss) c = (
  named_one (IsForced given s.literal) slots es ids s.place (get_or slots s.place None) a ((quiet_nothing given).1 s.literal) refl c.0.1,
  steps_named slots es ids a (given ++ s.literal ∷ []) ss c.1,
)

literals_named : (ids : List ℕ) (steps : List Step) → traced (map (step_named ids) steps) ≡ literals_of steps
literals_named ids [] = refl
literals_named ids (s ∷ ss) = ap (λ (ls : List Lit). s.literal ∷ ls) (literals_named ids ss)

-- an end in a fixpoint is one of the constraints by their ids
ended : (slots : Slots) (es : Places) (ids : List ℕ) → AreNamed es ids slots → (given chain : List Lit) → IsChain (fin.values (content_at slots es)) given chain → IsFixpoint (shown slots) (given ++ chain) → IsEnd (content_at slots es) given (given ++ chain)
ended slots es ids a given chain c q =
    let values = fin.values (content_at slots es) in
    let fixpoint = live_fixpoint (shown slots) values (live_content slots es ids a) (given ++ chain) q in
    record {
      no_conflict = no_conflict_from values given (given ++ chain) fixpoint (given_within given chain);
      closure = closure_by values given (given ++ chain) chain (c, refl, fixpoint);
    }

-- the place of what is falsified, and the id
falsified_named : (slots : Slots) (es : Places) (ids : List ℕ) (assigned : List Lit) (k : ℕ) → AreNamed es ids slots → IsFalsifiedAt (shown slots) assigned k → IsFalsifiedIn (content_at slots es) assigned (get_or ids k 0)
falsified_named slots es ids assigned k a b =
    let here : constraint_at (shown slots) k ≡ b.0 = same_default (shown slots) k b.0 b.1.0 b.1.1 in
    named_one (IsFalsified assigned) slots es ids k (get_or slots k None) a (quiet_nothing assigned).0 refl (subst (IsFalsified assigned) (sym here) b.2)
  where
    same_default : (ns : List NormalConstraint) (k : ℕ) (n : NormalConstraint) → k < length ns → get_or ns k n ≡ n → constraint_at ns k ≡ n
    same_default ns k n low e = get_or_default ns k nothing n low ∙ e

end_named : (slots : Slots) (es : Places) (ids : List ℕ) (given : List Lit) (steps : List Step) → AreNamed es ids slots → AreSteps (shown slots) given steps → (falsified : Option ℕ) → MatchOption falsified (IsFixpoint (shown slots) (given ++ literals_of steps)) (IsFalsifiedAt (shown slots) (given ++ literals_of steps))
    → MatchOption (option_map (λ place. get_or ids place 0) falsified) (IsEnd (content_at slots es) given (given ++ literals_of steps)) (IsFalsifiedIn (content_at slots es) (given ++ literals_of steps))
end_named slots es ids given steps a c None q =
    let content = content_at slots es in
    let chain = chain_traced content given (map (step_named ids) steps) (steps_named slots es ids a given steps c) in
    ended slots es ids a given (literals_of steps) (subst (λ (ls : List Lit). IsChain (fin.values content) given ls) (literals_named ids steps) chain) q
end_named slots es ids given steps a c (Some k) b = falsified_named slots es ids (given ++ literals_of steps) k a b

-- the chain that was found is a trace of the constraints by their ids
pub trace_named : (slots : Slots) (es : Places) (ids : List ℕ) (given : List Lit) (c : Chain) (t : Trace) → AreNamed es ids slots → IsFound (shown slots) given c → IsTraceOf ids c t → IsTrace (content_at slots es) given t
trace_named slots es ids given c t a f n =
    let content = content_at slots es in
    let steps = c.steps.items in
    let same : traced t.forced ≡ literals_of steps = ap traced n.forced ∙ literals_named ids steps in
    let end = end_named slots es ids given steps a f.chain c.falsified f.end in
    record {
      chain = subst (λ (ps : List (Lit × ℕ)). AreForcedIn content given ps) (sym n.forced) (steps_named slots es ids a given steps f.chain);
      end =
          subst (λ (o : Option ℕ). MatchOption o (IsEnd content given (given ++ traced t.forced)) (IsFalsifiedIn content (given ++ traced t.forced))) (sym n.conflict)
          (subst (λ (ls : List Lit). MatchOption (option_map (λ place. get_or ids place 0) c.falsified) (IsEnd content given (given ++ ls)) (IsFalsifiedIn content (given ++ ls))) (sym same) end);
    }

-- and one that leaves out what stands before the last literal
pub last_named : (slots : Slots) (es : Places) (ids : List ℕ) (before : List Lit) (last : Lit) (c : Chain) (t : Trace) → AreNamed es ids slots → IsFoundOfLast (shown slots) before last c → IsTraceOf ids c t → IsTraceOfLast (content_at slots es) before last t
last_named slots es ids before last c t a f n =
    let content = content_at slots es in
    record {
      left_out = map (step_named ids) f.left_out;
      chain = steps_named slots es ids a before f.left_out f.chain;
      trace =
          subst (λ (ls : List Lit). IsTrace content ((before ++ ls) ++ last ∷ []) t) (sym (literals_named ids f.left_out))
          (trace_named slots es ids ((before ++ literals_of f.left_out) ++ last ∷ []) c t a f.found n);
    }

-- each place of a chain has an id
steps_below : (ns : List NormalConstraint) (given : List Lit) (steps : List Step) (count : ℕ) → length ns ≡ count → AreSteps ns given steps → All (λ s. s.place < count) steps
steps_below ns given [] count e c = All-nil (λ s. s.place < count)
steps_below ns given (s ∷ ss) count e c =
    All-cons (λ s. s.place < count) s ss (omega (arith, c.0.0, e)) (steps_below ns (given ++ s.literal ∷ []) ss count e c.1)

as_many : (slots : Slots) (es : Places) (ids : List ℕ) → AreNamed es ids slots → length (shown slots) ≡ length ids
as_many slots es ids a = length-map slots constraint_in ∙ sym a.as_many

-- the same for as many ids as places
pub places_below : (slots : Slots) (ids : List ℕ) (given : List Lit) (c : Chain) → length ids ≡ length slots → IsFound (shown slots) given c → All (λ s. s.place < length ids) c.steps.items
places_below slots ids given c many f = steps_below (shown slots) given c.steps.items (length ids) (length-map slots constraint_in ∙ sym many) f.chain

pub places_named : (slots : Slots) (es : Places) (ids : List ℕ) (given : List Lit) (c : Chain) → AreNamed es ids slots → IsFound (shown slots) given c → All (λ s. s.place < length ids) c.steps.items
places_named slots es ids given c a f = steps_below (shown slots) given c.steps.items (length ids) (as_many slots es ids a) f.chain

end_below : (ns : List NormalConstraint) (assigned : List Lit) (count : ℕ) (o : Option ℕ) → length ns ≡ count → MatchOption o (IsFixpoint ns assigned) (IsFalsifiedAt ns assigned) → IfSome o (λ place. place < count)
end_below ns assigned count None e q = tt
end_below ns assigned count (Some k) e b = omega (arith, b.1.0, e)

pub falsified_place_below : (slots : Slots) (ids : List ℕ) (given : List Lit) (c : Chain) → length ids ≡ length slots → IsFound (shown slots) given c → IfSome c.falsified (λ place. place < length ids)
falsified_place_below slots ids given c many f = end_below (shown slots) (given ++ literals_of c.steps.items) (length ids) c.falsified (length-map slots constraint_in ∙ sym many) f.end

pub falsified_place_named : (slots : Slots) (es : Places) (ids : List ℕ) (given : List Lit) (c : Chain) → AreNamed es ids slots → IsFound (shown slots) given c → IfSome c.falsified (λ place. place < length ids)
falsified_place_named slots es ids given c a f = end_below (shown slots) (given ++ literals_of c.steps.items) (length ids) c.falsified (as_many slots es ids a) f.end
