-- The line goes on from where it was, and derives the sum.
use Rattle.proof_rules.specs.Expression.{Given, IsPostfixOf}
use Rattle.analysis.specs.Lines.{GoesOnFrom}
use Rattle.analysis.proofs.resolvent.Resolvent.give_up_all.Given as goal

abbrev pub invariant-loop-variable : goal.invariant-loop-variable
invariant-loop-variable l = record {
  more : GoesOnFrom l.fn.self.items.items l.self.items.items;
  derived : (given : Given) → IsPostfixOf given l.fn.self.items.items l.fn.self.sum → IsPostfixOf given l.self.items.items l.self.sum;
}
