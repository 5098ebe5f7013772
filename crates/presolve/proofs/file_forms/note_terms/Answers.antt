use Rattle.std.proofs.Common.{false, subst}
use Rattle.std.proofs.lemmas.List.{take_all}
use Rattle.normal_form.specs.declared.term.NormalTerm.{NormalTerm}
use Rattle.presolve.specs.Forms.{NotesTerms}
use Rattle.presolve.proofs.Places.{terms_more}
use Rattle.presolve.proofs.file_forms.note_terms.Goals as goal

none : NormalTerm
none = record { coef = 0; var = record { 0 = 0 }; negated = false }

pub loop-term-preserved : goal.loop-term-preserved
unfolding none
loop-term-preserved c =
    terms_more c.args.terms.now c.loop-term.term-index none c.args.place c.args.places.now c.loop-term.places c.note_variable.new.places c.loop-term-test.true c.loop-term.auto.places c.loop-term.invariant c.in_ok-note_variable.ensures

pub returns : goal.returns
returns c = subst (λ ts. NotesTerms ts c.args.place c.args.places.now c.loop-term.places) (take_all c.loop-term.term-index c.args.terms.now c.loop-term-test.false) c.loop-term.invariant
