use Rattle.presolve.proofs.Places.{place_noted}
use Rattle.presolve.proofs.file_forms.note_variable.Goals as goal

pub returns-in_ok-push : goal.returns-in_ok-push
returns-in_ok-push c = place_noted c.args.places.now (c.args.variable.0) c.args.place c.index-places-number.result c.push.new.self c.if-number-places.true c.in_ok-push.ensures.items
