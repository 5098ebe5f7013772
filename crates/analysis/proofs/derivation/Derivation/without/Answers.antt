use Rattle.std.proofs.Common.{rules, sym, ap, subst, get_or, ◌∙◌, ◌≡◌, ◌≢◌, ℕ, arith, if◌then◌else◌, ◌==◌}
use Rattle.std.proofs.lemmas.Bool.Decides.{nat_tests}
use Rattle.std.proofs.lemmas.List.Elements.{All-get_or}
use Rattle.linear.specs.declared.term.Var.{Var}
use Rattle.normal_form.specs.Normal.{NormalConstraint, coefficient}
use Rattle.proof_rules.specs.Expression.{IsPostfixOf}
use Rattle.analysis.proofs.Expressions.{weakens}
use Rattle.analysis.proofs.derivation.Derivation.without.Goals as goal

abbrev first : Var
first = record { 0 = 0 }

other_stays : (v x n : ℕ) → x ≢ v → (if v == x then 0 else n) ≡ n
other_stays v x n h = grind (arith, nat_tests)

pub loop-variable-preserved : goal.loop-variable-preserved
loop-variable-preserved c =
    let at = c.loop-variable in
    let x : Var = get_or c.args.variables.now at.variable-index first in
    record {
      derived = λ given p. weakens given at.items.items c.push.new.self.items x at.sum c.weaken.new.self (search rules) c.weaken.ensures.weakening (at.invariant.derived given p);
      others = λ v s h. c.weaken.ensures.weakening.coefficients v s ∙ other_stays v (x.0) (coefficient at.sum v s) (All-get_or (λ (y : Var). y.0 ≢ v) c.args.variables.now at.variable-index first (omega arith) h) ∙ at.invariant.others v s h;
    }

pub returns-clause-derived : goal.returns-clause-derived
returns-clause-derived c given p = subst (IsPostfixOf given c.loop-variable.items.items) (sym c.in_ok-constraint.ensures.value) (c.loop-variable.invariant.derived given p)

pub returns-clause-others : goal.returns-clause-others
returns-clause-others c v s h = ap (λ (n : NormalConstraint). coefficient n v s) c.in_ok-constraint.ensures.value ∙ c.loop-variable.invariant.others v s h
