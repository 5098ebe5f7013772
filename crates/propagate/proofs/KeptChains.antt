-- What chains lead to, with a chain kept, with other constraints, and from an assignment that others reach.
use Rattle.std.proofs.Common.{◌≡◌, ◌↔◌, ◌<◌, true, List, [], ◌∷◌, ◌++◌, Contains, refl, sym, subst, inl, inr, append_assoc, arith}
use Rattle.std.proofs.lemmas.Int.{ints}
use Rattle.std.proofs.lemmas.List.{append-nil}
use Rattle.std.proofs.lemmas.List.Elements.{Contains-append_left, Contains-push}
use Rattle.linear.specs.declared.term.Lit.{Lit}
use Rattle.normal_form.specs.Normal.{NormalConstraint, sum_over, total}
use Rattle.propagate.specs.Literals.{coefficient_of, among, lists}
use Rattle.propagate.specs.Slack.{not_false, IsForced}
use Rattle.propagate.specs.Chain.{IsConflict, IsChain, LeadsToConflict, IsRefuted, IsReached}
use Rattle.normal_form.proofs.SetSums.{Within}
use Rattle.propagate.proofs.Assignments.{among_left, among_right, among_cases, among_head}
use Rattle.propagate.proofs.Chains.{chain_stays, no_conflict_from, chain_of_more, conflict_of_more}
use Rattle.propagate.proofs.ChainEnds.{given_within, by_set}
use Rattle.propagate.proofs.Closure.{more_literals}
use Rattle.propagate.proofs.SearchEnds.{one_end_or_conflict}

-- a chain continued by another is a chain
pub chains_join : (ns : List NormalConstraint) (given xs ys : List Lit) → IsChain ns given xs → IsChain ns (given ++ xs) ys → IsChain ns given (xs ++ ys)
chains_join ns given [] ys c d = subst (λ (ls : List Lit). IsChain ns ls ys) (append-nil given) d
chains_join ns given (x ∷ xs) ys c d =
    (c.0, chains_join ns (given ++ x ∷ []) xs ys c.1 (subst (λ (ls : List Lit). IsChain ns ls ys) (sym (append_assoc given (x ∷ []) xs)) d))

pub conflict_kept : (ns : List NormalConstraint) (given chain : List Lit) → IsChain ns given chain → LeadsToConflict ns (given ++ chain) ↔ LeadsToConflict ns given
conflict_kept ns given chain c = (
  λ r. (chain ++ r.0, chains_join ns given chain r.0 c r.1, subst (λ (ls : List Lit). IsConflict ns ls) (append_assoc given chain r.0) r.2),
  λ r. more_literals ns given (given ++ chain) (λ l h. among_left given chain (l.var.0) l.negated h) r,
)

-- what the longer assignment reaches, and what the shorter one does
reached_back : (ns : List NormalConstraint) (given chain : List Lit) → IsChain ns given chain → (l : Lit) → IsReached ns (given ++ chain) l → IsReached ns given l
reached_back ns given chain c l (inl h) = elim (among_cases given chain (l.var.0) l.negated h) [
  | inl m ↦ inl m
  | inr m ↦ inr (chain, c, m)
]
reached_back ns given chain c l (inr r) =
    inr (chain ++ r.0, chains_join ns given chain r.0 c r.1, among_right chain r.0 (l.var.0) l.negated r.2)

reached_on : (ns : List NormalConstraint) (given more : List Lit) → Within (among given) (among more) → (LeadsToConflict ns more → ⊥) → (l : Lit) → IsReached ns given l → IsReached ns more l
reached_on ns given more h none l r = elim (one_end_or_conflict ns more) [
  | inl conflict ↦ absurd (none conflict)
  | inr e ↦
      let inside : Within (among more) (among e.0) = by_set more e.0 (λ m k. (e.2 m).1 (inl k)) in
      elim r [
        | inl m ↦ inl (h (l.var.0) l.negated m)
        | inr chain ↦
            (e.2 l).0 (chain_stays ns e.0 e.1 given chain.0 (λ v s k. inside v s (h v s k)) chain.1 (l.var.0) l.negated (among_right given chain.0 (l.var.0) l.negated chain.2))
      ]
]

pub reached_kept : (ns : List NormalConstraint) (given chain : List Lit) → IsChain ns given chain → (LeadsToConflict ns given → ⊥) → (l : Lit) → IsReached ns (given ++ chain) l ↔ IsReached ns given l
reached_kept ns given chain c none l = (
  reached_back ns given chain c l,
  reached_on ns given (given ++ chain) (given_within given chain) (λ r. none ((conflict_kept ns given chain c).0 r)) l,
)

reached_of_more : (ns ms : List NormalConstraint) → ((n : NormalConstraint) → Contains ns n → Contains ms n) → (given : List Lit) (l : Lit) → IsReached ns given l → IsReached ms given l
reached_of_more ns ms h given l (inl m) = inl m
reached_of_more ns ms h given l (inr r) = inr (r.0, chain_of_more ns ms h given r.0 r.1, r.2)

pub same_conflicts : (ns ms : List NormalConstraint) → ((n : NormalConstraint) → Contains ns n ↔ Contains ms n) → (given : List Lit) → LeadsToConflict ns given ↔ LeadsToConflict ms given
same_conflicts ns ms h given = (conflict_of_more ns ms (λ n. (h n).0) given, conflict_of_more ms ns (λ n. (h n).1) given)

pub same_reached : (ns ms : List NormalConstraint) → ((n : NormalConstraint) → Contains ns n ↔ Contains ms n) → (given : List Lit) → (l : Lit) → IsReached ns given l ↔ IsReached ms given l
same_reached ns ms h given l = (reached_of_more ns ms (λ n. (h n).0) given l, reached_of_more ms ns (λ n. (h n).1) given l)

-- constraints that reach a whole assignment are refuted where fewer lead from it to a conflict
pub reached_refutes : (fewer more : List NormalConstraint) → ((n : NormalConstraint) → Contains fewer n → Contains more n) → (assigned : List Lit) → ((l : Lit) → lists assigned l ≡ true → IsReached more [] l) → LeadsToConflict fewer assigned → IsRefuted more
reached_refutes fewer more h assigned reached r = elim (one_end_or_conflict more []) [
  | inl refuted ↦ refuted
  | inr e ↦ absurd (no_conflict_from more assigned e.0 e.1 (by_set assigned e.0 (λ l k. (e.2 l).1 (reached l k))) (conflict_of_more fewer more h assigned r))
]

all_open : (n : NormalConstraint) → sum_over (not_false []) n.terms ≡ total n.terms
all_open n = refl

-- a constraint that asks for all its literals forces each from nothing
pub asked_forced : (n : NormalConstraint) (l : Lit) → n.degree ≡ total n.terms → 0 < coefficient_of n l → IsForced [] l n
asked_forced n l e h = record { unset = refl; opposite_unset = refl; occurs = h; above = omega (arith, ints, e, h, all_open n) }

pub asked_refutes : (ns : List NormalConstraint) (assigned : List Lit) (all : NormalConstraint) → all.degree ≡ total all.terms → ((l : Lit) → lists assigned l ≡ true → 0 < coefficient_of all l) → LeadsToConflict ns assigned → IsRefuted (ns ++ all ∷ [])
asked_refutes ns assigned all e h r =
    let there = Contains-push ns all in
    reached_refutes ns (ns ++ all ∷ []) (λ n c. Contains-append_left ns (all ∷ []) n c) assigned
    (λ l k. inr (l ∷ [], ((there.0, all, there.1, there.2, asked_forced all l e (h l k)), tt), among_head l [])) r
