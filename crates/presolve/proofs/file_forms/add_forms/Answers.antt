use Rattle.normal_form.proofs.NormalForm.{small_never}
use Rattle.presolve.proofs.Keys.{form_added, forms_added}
use Rattle.presolve.proofs.file_forms.add_forms.Goals as goal

pub returns-in_ok-add-in-AtLeast : goal.returns-in_ok-add-in-AtLeast
returns-in_ok-add-in-AtLeast c =
    form_added c.args.constraint.now c.in_ok-normalize_fitting-in-AtLeast.field-0 c.args.keys.now.keys c.add-in-AtLeast.new.keys.keys c.in-AtLeast.is c.in_ok-normalize_fitting-in-AtLeast.ensures.form c.in_ok-add-in-AtLeast.ensures

pub returns-in_ok-add-in-Equal-2 : goal.returns-in_ok-add-in-Equal-2
returns-in_ok-add-in-Equal-2 c =
    forms_added c.args.constraint.now c.in_ok-at_least-in-Equal.at_least c.in_ok-at_least-in-Equal.at_most c.args.keys.now.keys c.add-in-Equal.new.keys.keys c.add-in-Equal-2.new.keys.keys c.in-Equal.is
    c.in_ok-at_least-in-Equal.ensures.form c.in_ok-add-in-Equal.ensures c.in_ok-add-in-Equal-2.ensures

pub normalize_fitting-requires-clause-fits : goal.normalize_fitting-requires-clause-fits
normalize_fitting-requires-clause-fits c = small_never c.args.constraint.now c.requires.small
