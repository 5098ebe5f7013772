-- Forced literals more: one, and all that one constraint forces.
use Rattle.std.proofs.Common.{◌≡◌, ℕ, zero, suc, ◌<◌, ◌⊎◌, inl, inr, Option, Some, List, [], ◌∷◌, ◌++◌, length, map, refl, ap, sym, subst, ◌∙◌, append-nil, append_assoc, arith}
use Rattle.std.proofs.lemmas.List.{get_or_default, length-map, map-append}
use Rattle.linear.specs.declared.term.Lit.{Lit}
use Rattle.normal_form.specs.Normal.{NormalConstraint}
use Rattle.propagate.specs.Slack.{IsForced}
use Rattle.propagate.specs.Chain.{IsForcedByOne, IsChain}
use Rattle.ledger.specs.Forcing.{AreForced, IsForcedOn}
use Rattle.ledger.specs.Ledgers.{State, constraint_at, constraint_in, shown}
use Rattle.watch.specs.Looking.{GoesOn, IsContinued}

pub none_or_some : (n : ℕ) → (n ≡ 0) ⊎ (0 < n)
none_or_some zero = inl refl
none_or_some (suc n) = inr (omega arith)

pub forced_there : (ns : List NormalConstraint) (assigned : List Lit) (l : Lit) (place : ℕ) → place < length ns → IsForced assigned l (constraint_at ns place) → IsForcedByOne ns assigned l
forced_there ns assigned l place low f = (place, constraint_at ns place, low, get_or_default ns place (constraint_at ns place) _ low, f)

pub goes_on_by_one : (ns : List NormalConstraint) (assigned : List Lit) (l : Lit) (place : ℕ) → place < length ns → IsForced assigned l (constraint_at ns place) → IsContinued ns assigned (assigned ++ l ∷ [])
goes_on_by_one ns assigned l place low f = (l ∷ [], (forced_there ns assigned l place low f, tt), refl)

chain_joined : (ns : List NormalConstraint) (given xs ys : List Lit) → IsChain ns given xs → IsChain ns (given ++ xs) ys → IsChain ns given (xs ++ ys)
chain_joined ns given [] ys c d = subst (λ (zs : List Lit). IsChain ns zs ys) (append-nil given) d
chain_joined ns given (l ∷ ls) ys c d = (c.0, chain_joined ns (given ++ l ∷ []) ls ys c.1 (subst (λ (zs : List Lit). IsChain ns zs ys) (sym (append_assoc given (l ∷ []) ls)) d))

pub goes_on_further : (ns : List NormalConstraint) (a b c : List Lit) → IsContinued ns a b → IsContinued ns b c → IsContinued ns a c
goes_on_further ns a b c g h =
    (g.0 ++ h.0, chain_joined ns a g.0 h.0 g.1 (subst (λ (xs : List Lit). IsChain ns xs h.0) g.2 h.1), h.2 ∙ ap (λ (xs : List Lit). xs ++ h.0) g.2 ∙ append_assoc a g.0 h.0)

-- one literal is added, with its reason
pub goes_by_one : (s t : State) (place : ℕ) → t.slots ≡ s.slots → t.variables ≡ s.variables → IsContinued (shown s.slots) s.assigned t.assigned → t.reasons ≡ s.reasons ++ Some place ∷ [] → GoesOn s t
goes_by_one s t place a b c d = record { slots = a; variables = b; assigned = c; reasons = (place ∷ [], d) }

-- what one constraint forces is a chain
chain_of_forced : (ns : List NormalConstraint) (place : ℕ) (given ls : List Lit) → place < length ns → AreForced (constraint_at ns place) given ls → IsChain ns given ls
chain_of_forced ns place given [] low f = tt
chain_of_forced ns place given (l ∷ ls) low f = (forced_there ns given l place low f.0, chain_of_forced ns place (given ++ l ∷ []) ls low f.1)

one_reason : (place : ℕ) (ls : List Lit) → map (λ (l : Lit). Some place) ls ≡ map Some (map (λ (l : Lit). place) ls)
one_reason place [] = refl
one_reason place (l ∷ ls) = ap (λ (os : List (Option ℕ)). Some place ∷ os) (one_reason place ls)

-- all that one constraint forces is added, with its reasons
pub goes_by_forced : (s t : State) (place : ℕ) → place < length s.slots → t ≡ record s { assigned = t.assigned; reasons = t.reasons } → IsForcedOn (constraint_at (shown s.slots) place) place s.assigned s.reasons t.assigned t.reasons → GoesOn s t
goes_by_forced s t place low same f = record {
  slots = ap (λ (x : State). x.slots) same;
  variables = ap (λ (x : State). x.variables) same;
  assigned = (f.literals, chain_of_forced (shown s.slots) place s.assigned f.literals (omega (arith, low, length-map s.slots constraint_in)) f.forced, f.longer);
  reasons = (map (λ (l : Lit). place) f.literals, f.reasoned ∙ ap (λ (os : List (Option ℕ)). s.reasons ++ os) (one_reason place f.literals));
}

-- one after another
pub goes_both : (a b c : State) → GoesOn a b → GoesOn b c → GoesOn a c
goes_both a b c g h = record {
  slots = h.slots ∙ g.slots;
  variables = h.variables ∙ g.variables;
  assigned = goes_on_further (shown a.slots) a.assigned b.assigned c.assigned g.assigned (subst (λ (os : List (Option NormalConstraint)). IsContinued (shown os) b.assigned c.assigned) g.slots h.assigned);
  reasons = (
    g.reasons.0 ++ h.reasons.0,
    h.reasons.1 ∙ ap (λ (rs : List (Option ℕ)). rs ++ map Some h.reasons.0) g.reasons.1 ∙ append_assoc a.reasons (map Some g.reasons.0) (map Some h.reasons.0)
        ∙ ap (λ (rs : List (Option ℕ)). a.reasons ++ rs) (sym (map-append Some g.reasons.0 h.reasons.0)),
  );
}
