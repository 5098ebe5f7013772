-- Steps of a chain with their reasons.
use Rattle.std.proofs.Common.{◌≡◌, ◌↔◌, ℕ, ◌<◌, ◌≤◌, List, [], ◌∷◌, ◌++◌, All, length, map, refl, ap, sym, subst, ◌∙◌, append_assoc, append-nil, Bool, true, Option, None, Some, is_some, MatchOption, arith}
use Rattle.std.proofs.lemmas.List.Elements.{All-nil, All-cons, All-map, All-contains}
use Rattle.linear.specs.declared.term.Lit.{Lit}
use Rattle.normal_form.specs.Normal.{NormalConstraint, variable_bound}
use Rattle.propagate.specs.declared.forced.Forced.{Forced}
use Rattle.std.proofs.lemmas.Bool.{false≢true}
use Rattle.propagate.specs.Chain.{IsForcedByOne, IsConflict, IsChain, IsRefuted, IsFixpoint}
use Rattle.propagate.proofs.Chains.{no_conflict_from}
use Rattle.propagate.specs.Walk.{IsFalsifiedAt, IsForcedStep, IsReasonedChain, literals_of, IsQuiet}
use Rattle.propagate.proofs.SearchEnds.{unset_below, bound_of, occurs_below, forced_below, fewer_unset}

pub forced_by_one : (ns : List NormalConstraint) (assigned : List Lit) (s : Forced) → IsForcedStep ns assigned s → IsForcedByOne ns assigned s.literal
forced_by_one ns assigned s f = (s.reason, f.0, f.1.0, f.1.1, f.2)

pub conflict_at : (ns : List NormalConstraint) (assigned : List Lit) (place : ℕ) → IsFalsifiedAt ns assigned place → IsConflict ns assigned
conflict_at ns assigned place b = (place, b.0, b.1.0, b.1.1, b.2)

-- a chain with its reasons is a chain
pub chain_of : (ns : List NormalConstraint) (given : List Lit) (steps : List Forced) → IsReasonedChain ns given steps → IsChain ns given (literals_of steps)
chain_of ns given [] c = tt
chain_of ns given (s ∷ ss) c = (forced_by_one ns given s c.0, chain_of ns (given ++ s.literal ∷ []) ss c.1)

literals_push : (ss : List Forced) (s : Forced) → literals_of (ss ++ s ∷ []) ≡ literals_of ss ++ s.literal ∷ []
literals_push [] s = refl
literals_push (x ∷ xs) s = ap (λ (ls : List Lit). x.literal ∷ ls) (literals_push xs s)

reasoned_push : (ns : List NormalConstraint) (given : List Lit) (ss : List Forced) (s : Forced) → IsReasonedChain ns given ss → IsForcedStep ns (given ++ literals_of ss) s → IsReasonedChain ns given (ss ++ s ∷ [])
reasoned_push ns given [] s c f = (subst (λ (xs : List Lit). IsForcedStep ns xs s) (append-nil given) f, tt)
reasoned_push ns given (x ∷ xs) s c f =
    (c.0, reasoned_push ns (given ++ x.literal ∷ []) xs s c.1 (subst (λ (ls : List Lit). IsForcedStep ns ls s) (sym (append_assoc given (x.literal ∷ []) (literals_of xs))) f))

-- one step more, of a walk whose assignment is what was given and the literals of its steps
pub chain_more : (ns : List NormalConstraint) (given assigned : List Lit) (old new : List Forced) (s : Forced) → IsReasonedChain ns given old → assigned ≡ given ++ literals_of old → IsForcedStep ns assigned s → new ≡ old ++ s ∷ [] → IsReasonedChain ns given new
chain_more ns given assigned old new s c e f g =
    subst (λ (ss : List Forced). IsReasonedChain ns given ss) (sym g) (reasoned_push ns given old s c (subst (λ (ls : List Lit). IsForcedStep ns ls s) e f))

pub assigned_more : (given assigned pushed : List Lit) (old new : List Forced) (s : Forced) → assigned ≡ given ++ literals_of old → pushed ≡ assigned ++ s.literal ∷ [] → new ≡ old ++ s ∷ [] → pushed ≡ given ++ literals_of new
assigned_more given assigned pushed old new s e f g =
    f ∙ ap (λ (ls : List Lit). ls ++ s.literal ∷ []) e ∙ append_assoc given (literals_of old) (s.literal ∷ [])
    ∙ ap (λ (ls : List Lit). given ++ ls) (sym (literals_push old s)) ∙ ap (λ (ss : List Forced). given ++ literals_of ss) (sym g)

-- a forced literal is of a variable of the constraints
pub forced_variable : {X : Type 0} (f : X → NormalConstraint) (xs : List X) (bound : ℕ) (assigned : List Lit) (s : Forced) → All (λ x. variable_bound (f x).terms ≤ bound) xs → IsForcedStep (map f xs) assigned s → s.literal.var.0 < bound
forced_variable f xs bound assigned s all step =
    let within = All-contains (λ (n : NormalConstraint). variable_bound n.terms ≤ bound) (map f xs) step.0 (All-map (λ (n : NormalConstraint). variable_bound n.terms ≤ bound) f xs all) (s.reason, step.1.0, step.1.1) in
    omega (arith, within, occurs_below step.0.terms (s.literal.var.0) s.literal.negated step.2.occurs)

pub fewer_left : (ns : List NormalConstraint) (assigned pushed : List Lit) (s : Forced) → IsForcedStep ns assigned s → pushed ≡ assigned ++ s.literal ∷ [] → unset_below (bound_of ns) pushed < unset_below (bound_of ns) assigned
fewer_left ns assigned pushed s step e =
    let less = fewer_unset (bound_of ns) assigned s.literal (forced_below ns assigned s.literal (forced_by_one ns assigned s step)) step.2.unset step.2.opposite_unset in
    omega (arith, less, ap (unset_below (bound_of ns)) e)

pub fixpoint_from_quiet : (ns : List NormalConstraint) (assigned : List Lit) → All (IsQuiet assigned) ns → IsFixpoint ns assigned
fixpoint_from_quiet ns assigned all = record {
  nothing_forced = λ l f. (All-contains (IsQuiet assigned) ns f.1 all (f.0, f.2, f.3)).1 l f.4;
  no_conflict = λ b. (All-contains (IsQuiet assigned) ns b.1 all (b.0, b.2, b.3)).0 b.4;
}

-- a walk from nothing that ends in a falsified constraint refutes, and one that ends quietly shows that nothing does
pub refuted_by : (ns : List NormalConstraint) (steps : List Forced) (assigned : List Lit) (place : ℕ) → IsReasonedChain ns [] steps → assigned ≡ literals_of steps → IsFalsifiedAt ns assigned place → IsRefuted ns
refuted_by ns steps assigned place c e b =
    (literals_of steps, chain_of ns [] steps c, subst (λ (ls : List Lit). IsConflict ns ls) e (conflict_at ns assigned place b))

pub not_refuted : (ns : List NormalConstraint) (assigned : List Lit) → IsFixpoint ns assigned → IsRefuted ns → ⊥
not_refuted ns assigned q r = no_conflict_from ns [] assigned q (λ v s e. absurd (false≢true e)) r

pub decided_by : (ns : List NormalConstraint) (given assigned : List Lit) (steps : List Forced) (falsified : Option ℕ) (b : Bool) → given ≡ [] → b ≡ is_some falsified → IsReasonedChain ns given steps → assigned ≡ given ++ literals_of steps → MatchOption falsified (IsFixpoint ns assigned) (IsFalsifiedAt ns assigned) → (b ≡ true) ↔ IsRefuted ns
decided_by ns given assigned steps None b e f c g end =
    (λ h. absurd (false≢true (sym f ∙ h)), λ r. absurd (not_refuted ns assigned end r))
decided_by ns given assigned steps (Some place) b e f c g end =
    (λ h. refuted_by ns steps assigned place (subst (λ (ls : List Lit). IsReasonedChain ns ls steps) e c) (g ∙ ap (λ (ls : List Lit). ls ++ literals_of steps) e) end, λ r. f)

-- the reasons are places of constraints
pub reasons_below : (ns : List NormalConstraint) (given : List Lit) (steps : List Forced) (count : ℕ) → length ns ≡ count → IsReasonedChain ns given steps → All (λ s. s.reason < count) steps
reasons_below ns given [] count e c = All-nil (λ s. s.reason < count)
reasons_below ns given (s ∷ ss) count e c =
    All-cons (λ s. s.reason < count) s ss (omega (arith, c.0.1.0, e)) (reasons_below ns (given ++ s.literal ∷ []) ss count e c.1)
