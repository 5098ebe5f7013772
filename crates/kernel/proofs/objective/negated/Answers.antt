-- Each coefficient is small enough to change its sign.
use Rattle.std.proofs.Common.{◌≡◌, ◌+◌, false, List, [], ◌∷◌, ◌++◌, get_or, map, take, sym, ap, ◌∙◌, arith}
use Rattle.std.specs.Prelude.{ℤ, pos, neg_ℤ}
use Rattle.std.proofs.lemmas.Int.{ints}
use Rattle.std.proofs.lemmas.List.{map_more}
use Rattle.linear.specs.declared.term.Lit.{Lit}
use Rattle.linear.specs.declared.term.Term.{Term}
use Rattle.normal_form.proofs.Runs.{size_at}
use Rattle.normal_form.specs.NormalOf.{sign_changed}
use Rattle.substitution.proofs.Opposites.{opposite_kept}
use Rattle.kernel.proofs.objective.negated.Goals as goal

abbrev first : Term
first = record { coef = pos 0; var = record { 0 = 0 }; negated = false }

pub overflow_sub-term : goal.overflow_sub-term
overflow_sub-term c = omega (arith, ints, size_at c.args.terms.now c.loop-term.term-index first (omega arith), c.requires)

next_changed : (new old before after : List Term) (z : ℤ) (t : Term) → new ≡ old ++ record { coef = z; var = t.var; negated = t.negated } ∷ [] → old ≡ before
    → z ≡ neg_ℤ t.coef → after ≡ before ++ sign_changed t ∷ [] → new ≡ after
next_changed new old before after z t e f h k =
    e ∙ ap (λ xs. xs ++ record { coef = z; var = t.var; negated = t.negated } ∷ []) f
    ∙ ap (λ (y : ℤ). before ++ record { coef = y; var = t.var; negated = t.negated } ∷ []) h ∙ sym k

made : (m : Term) (z : ℤ) (l : Lit) (t : Term) → m ≡ record { coef = z; var = l.var; negated = l.negated } → l ≡ record { var = t.var; negated = t.negated } → m ≡ record { coef = z; var = t.var; negated = t.negated }
made m z l t e f = e ∙ ap (λ (k : Lit). of_literal k) f
  where
    of_literal : Lit → Term
    of_literal k = record { coef = z; var = k.var; negated = k.negated }

pub loop-term-preserved : goal.loop-term-preserved
loop-term-preserved c =
    let ts : List Term = c.args.terms.now in
    let i = c.loop-term.term-index in
    let t : Term = get_or ts i first in
    let size = size_at ts i first (omega arith) in
    let same = opposite_kept t.coef (omega (arith, size, c.requires)) in
    next_changed c.push.new.self.items c.loop-term.negated.items (map sign_changed (take i ts)) (map sign_changed (take (i + 1) ts)) _ t
    (c.in_ok-push.ensures.items ∙ ap (λ (u : Term). c.loop-term.negated.items ++ u ∷ []) (made c.new.result _ c.literal.result t c.new.ensures c.literal.ensures)) c.loop-term.invariant same (map_more sign_changed ts i first c.loop-term-test.true)
