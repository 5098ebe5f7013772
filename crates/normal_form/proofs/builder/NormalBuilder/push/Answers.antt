-- One more term at the end: the variables still rise, and the capped sum is that of all.
use Rattle.std.proofs.Common.{◌≡◌, ◌+◌, ◌-◌, ◌^◌, ◌≤◌, ◌<◌, ◌++◌, ◌∷◌, [], true, List, ℕ, min, arith, rules}
use Rattle.normal_form.specs.declared.term.NormalTerm.{NormalTerm}
use Rattle.normal_form.specs.Normal.{variable_bound, total, Rises}
use Rattle.normal_form.proofs.Sums.{rises_push, bound_push, sum_over_push}
use Rattle.normal_form.proofs.builder.NormalBuilder.push.Goals as goal

grown : (ts us : List NormalTerm) (t : NormalTerm) (capped sum : ℕ) → us ≡ ts ++ t ∷ [] → Rises 0 ts → variable_bound ts ≤ t.var.0 → 0 < t.coef → capped ≡ min (total ts) (2 ^ 128 - 1) → sum ≡ min (capped + t.coef) (2 ^ 128 - 1) → Rises 0 us × (sum ≡ min (total us) (2 ^ 128 - 1))
grown ts us t capped sum e r b p c s = rw e (rises_push 0 ts t r (omega arith) b p, omega (arith, sum_over_push (λ _ _. true) ts t, c, s))

bound_grown : (ts us : List NormalTerm) (t : NormalTerm) → us ≡ ts ++ t ∷ [] → variable_bound ts ≤ t.var.0 → variable_bound us ≡ t.var.0 + 1
bound_grown ts us t e b = rw e (omega (arith, bound_push ts t, b))

pub invariant_of-self-2 : goal.invariant_of-self-2
invariant_of-self-2 c = grown c.self.inside.terms c.push.new.self c.args.term c.self.inside.capped_sum c.saturating_add-self-inside.result c.in_ok-push.ensures.ok c.self.invariant.0 (search (rules, c.requires.variable, c.self.view_is)) c.requires.coefficient c.self.invariant.1 c.saturating_add-self-inside.ensures

pub returns-clause-bound : goal.returns-clause-bound
returns-clause-bound c = bound_grown c.self.inside.terms c.push.new.self c.args.term c.in_ok-push.ensures.ok (search (rules, c.requires.variable, c.self.view_is))
