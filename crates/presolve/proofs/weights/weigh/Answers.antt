use Rattle.std.proofs.Common.{rules, ◌≡◌, ◌==◌, if◌then◌else◌, ℕ, List, max, false, get_or, ap, subst, ◌∙◌}
use Rattle.normal_form.specs.declared.term.NormalTerm.{NormalTerm}
use Rattle.presolve.specs.Weights.{weight_at}
use Rattle.presolve.proofs.Weighing.{terms_weighed}
use Rattle.presolve.proofs.weights.weigh.Goals as goal

none : NormalTerm
none = record { coef = 0; var = record { 0 = 0 }; negated = false }

pub loop-term-preserved : goal.loop-term-preserved
unfolding none
loop-term-preserved c v h =
    let form = c.args.form.now in
    let ts : List NormalTerm = c.as_slice-term-items.result.now in
    let i = c.loop-term.term-index in
    let t = get_or ts i none in
    let old : ℕ = get_or c.loop-term.table v 0 in
    let new : ℕ = get_or c.raise.new.table v 0 in
    let here : new ≡ max old (weight_at form.degree t v) =
    c.raise.ensures v (search rules) ∙ ap (λ w. max old (if t.var.0 == v then w else 0)) c.weight.ensures in
    terms_weighed form.degree form.terms.items i none v old (get_or c.args.table.now v 0) new (search rules) (c.loop-term.invariant v h) (subst (λ us. new ≡ max old (weight_at form.degree (get_or us i none) v)) c.as_slice-term-items.ensures.value here)
