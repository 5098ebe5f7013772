use Rattle.std.proofs.Common.{◌≡◌, ℕ, ◌<◌, ◌||◌, Bool, length, subst}
use Rattle.normal_form.specs.Normal.{only}
use Rattle.normal_form.specs.declared.term.NormalTerm.{NormalTerm}
use Rattle.presolve.specs.Uses.{stands}
use Rattle.presolve.proofs.Noting.{form_more}
use Rattle.presolve.proofs.uses.note_form.Goals as goal

pub loop-place-preserved : goal.loop-place-preserved
loop-place-preserved c =
    let terms = c.args.form.now.terms in
    let i = c.loop-place.place in
    let t = c.term-term.result in
    let old = c.loop-place.table in
    let new = c.note.new.table in
    let noted = subst (λ (x : NormalTerm). (v : ℕ) (s : Bool) → v < length old → stands new v s ≡ stands old v s || only v s (x.var.0) x.negated) c.term-term.ensures.value c.note.ensures in
    form_more terms i t c.args.table.now old new c.len-place-end.ensures.normal.rises (subst (λ n. i < n) c.len-place-end.ensures.value c.loop-place-test.true) c.loop-place.auto.table noted c.loop-place.invariant
