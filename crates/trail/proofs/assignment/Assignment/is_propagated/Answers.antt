-- Nothing is behind the last one.
use Rattle.std.proofs.Common.{ℕ, List, ap, sym, ◌∙◌, arith}
use Rattle.std.proofs.lemmas.Bool.Decides.{nat_tests}
use Rattle.linear.specs.declared.term.Lit.{Lit}
use Rattle.trail.proofs.AssignedLiterals.{at_end, none_left}
use Rattle.trail.proofs.assignment.Assignment.is_propagated.Goals as goal

pub returns : goal.returns
returns c =
    let a = c.self.inside in
    let pending = ap (λ (w : List Lit × ℕ × List Lit). w.2) c.self.view_is in
    (λ yes. sym pending ∙ none_left a.trail.0 a.propagated (grind (arith, nat_tests, yes, c.len.ensures)), λ none. grind (arith, nat_tests, c.len.ensures, at_end a.trail.0 a.propagated c.self.invariant (pending ∙ none)))
