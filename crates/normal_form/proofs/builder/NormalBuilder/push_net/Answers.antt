-- The term at the end gives its variable the net coefficient.
use Rattle.std.proofs.Common.{◌≡◌, ℕ, Bool, ◌+◌, ◌++◌, ◌∷◌, [], ◌<◌, ◌≤◌, List, true, cond, ap, sym, subst, ◌∙◌, arith, rules, ℤ, pos, ◌+ℤ◌, to_z, of_z}
use mir.Syntax.{w128}
use Rattle.std.specs.Prelude.{unsigned_abs, int_lt}
use Rattle.std.proofs.lemmas.Result.{on_ok_weaker}
use Rattle.std.proofs.lemmas.Int.{to_z-of_z}
use Rattle.normal_form.specs.declared.term.NormalTerm.{NormalTerm}
use Rattle.normal_form.specs.Normal.{total, Rises, variable_bound}
use Rattle.normal_form.specs.Balance.{rises_of}
use Rattle.normal_form.proofs.Runs.{rises_of_push, rise_of_net}
use Rattle.normal_form.proofs.Sums.{sum_over_push, rises_push}
use Rattle.normal_form.proofs.builder.NormalBuilder.push_net.Goals as goal

given : (set : ℕ → Bool) (ts us : List NormalTerm) (t : NormalTerm) (net : ℤ) → us ≡ ts ++ t ∷ [] → t.negated ≡ int_lt net (pos 0) → t.coef ≡ unsigned_abs net → rises_of set us ≡ rises_of set ts +ℤ cond (set (t.var.0)) net (pos 0)
given set ts us t net e n c = ap (rises_of set) e ∙ rises_of_push set ts t ∙ ap (λ (z : ℤ). rises_of set ts +ℤ cond (set (t.var.0)) z (pos 0)) (rise_of_net net t.negated t.coef n c)

pub returns-clause-gives : goal.returns-clause-gives
returns-clause-gives c =
    let back : to_z w128 (of_z w128 c.args.net) ≡ c.args.net = to_z-of_z w128 c.args.net c.ranges.net in
    on_ok_weaker c.push.result (λ e set. given set c.args.self.now c.push.new.self _ c.args.net e (ap (λ (z : ℤ). int_lt z (pos 0)) back) (c.unsigned_abs.ensures.value ∙ ap unsigned_abs back)) c.push.ensures.ok

more : (ts us : List NormalTerm) (t : NormalTerm) (net : ℤ) → us ≡ ts ++ t ∷ [] → t.coef ≡ unsigned_abs net → total us ≡ total ts + unsigned_abs net
more ts us t net e c = omega (arith, ap total e, sum_over_push (λ _ _. true) ts t, c)

pub returns-clause-total : goal.returns-clause-total
returns-clause-total c =
    let back : to_z w128 (of_z w128 c.args.net) ≡ c.args.net = to_z-of_z w128 c.args.net c.ranges.net in
    on_ok_weaker c.push.result (λ e. more c.args.self.now c.push.new.self _ c.args.net e (c.unsigned_abs.ensures.value ∙ ap unsigned_abs back)) c.push.ensures.ok

up : (ts us : List NormalTerm) (t : NormalTerm) → us ≡ ts ++ t ∷ [] → variable_bound ts ≤ t.var.0 → 0 < t.coef → Rises 0 ts → Rises 0 us
up ts us t e b p r = subst (λ (xs : List NormalTerm). Rises 0 xs) (sym e) (rises_push 0 ts t r (omega arith) b p)

pub returns-clause-rises : goal.returns-clause-rises
returns-clause-rises c =
    let p : 0 < c.unsigned_abs.result = search rules in
    on_ok_weaker c.push.result (λ e. up c.args.self.now c.push.new.self _ e c.requires p) c.push.ensures.ok
