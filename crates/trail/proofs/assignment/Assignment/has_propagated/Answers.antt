-- A literal was propagated where its place is below their count.
use Rattle.std.proofs.Common.{◌≡◌, ◌<◌, ◌≤◌, ℕ, inl, inr, true, false, List, take, nat_lt, refl, ap, sym, ◌∙◌, arith}
use Rattle.std.proofs.lemmas.Bool.{cases_lt}
use Rattle.std.proofs.lemmas.Bool.Decides.{nat_tests}
use Rattle.linear.specs.declared.term.Lit.{Lit}
use Rattle.propagate.specs.Literals.{lists}
use Rattle.trail.proofs.AssignedLiterals.{listed_before, not_before, not_listed_before}
use Rattle.trail.proofs.assignment.Assignment.has_propagated.Goals as goal

abbrev Whole : Type 0
Whole = List Lit × ℕ × List Lit

pub returns-then-has : goal.returns-then-has
returns-then-has c =
    let a = c.self.inside in
    let xs : List Lit = a.trail.0 in
    let l : Lit = c.args.literal in
    let there : lists xs l ≡ true = sym c.has.ensures ∙ c.if-has.true in
    let same : lists (take a.propagated xs) l ≡ lists c.args.self.now.0 l = ap (λ (w : Whole). lists w.0 l) c.self.view_is in
    elim (cases_lt c.position.result a.propagated) [
      | inl low ↦ lt_true c.position.result a.propagated low ∙ sym (listed_before xs a.propagated c.position.result l c.position.ensures there low) ∙ same
      | inr high ↦ lt_false c.position.result a.propagated high ∙ sym (not_listed_before xs a.propagated c.position.result l c.position.ensures high (lists (take a.propagated xs) l) refl) ∙ same
    ]
  where
    lt_true : (k p : ℕ) → k < p → nat_lt k p ≡ true
    lt_true k p h = grind (arith, nat_tests)

    lt_false : (k p : ℕ) → p ≤ k → nat_lt k p ≡ false
    lt_false k p h = grind (arith, nat_tests)

pub returns-else-has : goal.returns-else-has
returns-else-has c =
    let a = c.self.inside in
    c.if-has.false ∙ sym (not_before a.trail.0 a.propagated c.args.literal (sym c.has.ensures ∙ c.if-has.false)) ∙ ap (λ (w : Whole). lists w.0 c.args.literal) c.self.view_is
