-- Where a closure lists the opposite of the last decision, those before it lead to that; where it does not, a conflict takes the last one.
use Rattle.std.proofs.Common.{◌≡◌, ◌-◌, List, ℕ, inl, inr, false, true, get_or, take, sym, subst, ◌∙◌, arith}
use Rattle.std.proofs.lemmas.Bool.{true≢false}
use Rattle.std.proofs.lemmas.List.{get_or_default}
use Rattle.linear.specs.Literal.{opposite}
use Rattle.linear.specs.declared.term.Lit.{Lit}
use Rattle.propagate.specs.Chain.{IsImpossible, IsReached}
use Rattle.propagate.specs.Literals.{lists}
use Rattle.propagate.specs.Reach.{IsReach}
use Rattle.propagate.specs.declared.reach.Reach.TheVariants as reaches
use Rattle.proof_rules.specs.State.{constraints}
use Rattle.search.proofs.overtaken.left_of.Goals as goal

abbrev first : Lit
first = record { var = record { 0 = 0 }; negated = false }

pub returns-then-count-eq0-clause-enough : goal.returns-then-count-eq0-clause-enough
returns-then-count-eq0-clause-enough g c =
    inl (subst (λ (n : ℕ). IsImpossible (constraints c.args.log.now.state) (take n c.args.decisions.now)) c.if-count-eq0.true c.requires.conflict)

pub returns-then-is_listed-clause-enough : goal.returns-then-is_listed-clause-enough
returns-then-is_listed-clause-enough g c =
    let live = constraints c.args.log.now.state in
    let decisions : List Lit = c.args.decisions.now in
    let before : ℕ = c.args.count - 1 in
    let last : Lit = get_or decisions before first in
    let reach : IsReach live (take before decisions) (reaches.Closed c.in-Closed.closed) = subst (IsReach live (take before decisions)) c.in-Closed.is c.in_ok-closed.ensures.answer in
    let listed : lists c.in-Closed.closed (opposite last) ≡ true =
    subst (λ (xs : List Lit). lists xs (opposite last) ≡ true) c.as_slice.ensures
    (subst (λ (l : Lit). lists c.as_slice.result.now l ≡ true) c.opposite.ensures (sym c.is_listed.ensures ∙ c.if-is_listed.true)) in
    inr (λ d. subst (λ (l : Lit). IsReached live (take before decisions) (opposite l))
    (get_or_default decisions before first d (omega (arith, c.if-count-eq0.false, c.requires.within)))
    ((reach.1 (opposite last)).0 listed))

pub returns-clause-takes : goal.returns-clause-takes
returns-clause-takes g c all k is_last =
    let live = constraints c.args.log.now.state in
    let decisions : List Lit = c.args.decisions.now in
    let before : ℕ = c.args.count - 1 in
    let last : Lit = get_or decisions before first in
    let same : k ≡ before = omega (arith, all, is_last, c.if-count-eq0.false) in
    let reach : IsReach live (take before decisions) (reaches.Closed c.in-Closed.closed) = subst (IsReach live (take before decisions)) c.in-Closed.is c.in_ok-closed.ensures.answer in
    let unlisted : lists c.in-Closed.closed (opposite last) ≡ false =
    subst (λ (xs : List Lit). lists xs (opposite last) ≡ false) c.as_slice.ensures
    (subst (λ (l : Lit). lists c.as_slice.result.now l ≡ false) c.opposite.ensures (sym c.is_listed.ensures ∙ c.if-is_listed.false)) in (
      λ impossible. c.requires.least (omega (arith, c.if-count-eq0.false)) (subst (λ (n : ℕ). IsImpossible live (take n decisions)) same impossible),
      λ overtaken. true≢false (sym ((reach.1 (opposite last)).1 (subst (λ (n : ℕ). IsReached live (take n decisions) (opposite (get_or decisions n first))) same (overtaken first))) ∙ unlisted),
    )
