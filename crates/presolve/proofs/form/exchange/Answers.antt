use Rattle.std.proofs.Common.{ℕ, List, [], ◌∷◌, ◌++◌, false, get_or, sym, ap, ◌∙◌}
use Rattle.normal_form.specs.declared.term.NormalTerm.{NormalTerm}
use Rattle.presolve.specs.Forms.{term_exchanged}
use Rattle.presolve.proofs.Exchanging.{exchanged_more}
use Rattle.presolve.proofs.form.exchange.Goals as goal

placed : NormalTerm → ℕ → NormalTerm
placed t v = record t { var = record { 0 = v } }

pub loop-term-preserved : goal.loop-term-preserved
unfolding placed
loop-term-preserved c =
    let i = c.loop-term.term-index in
    let ts : List NormalTerm = c.args.terms.now in
    let made : List NormalTerm = c.loop-term.made.items in
    let none : NormalTerm = record { coef = 0; var = record { 0 = 0 }; negated = false } in
    let here : NormalTerm = get_or ts i none in
    c.in_ok-push.ensures.items
    ∙ ap (λ v. made ++ placed here v ∷ []) c.in_exchange.ensures
    ∙ ap (λ us. us ++ term_exchanged (c.args.x.0) (c.args.y.0) here ∷ []) c.loop-term.invariant
    ∙ sym (exchanged_more (c.args.x.0) (c.args.y.0) ts i none c.loop-term-test.true)
