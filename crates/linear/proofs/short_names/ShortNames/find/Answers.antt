use Rattle.linear.proofs.ShortPlaces.{short_place}
use Rattle.linear.proofs.short_names.ShortNames.find.Goals as goal

pub returns : goal.returns
returns c = short_place c.args.self.now c.args.name.now c.in_ok-short_number.field-0 c.place.result c.in_ok-short_number.ensures c.place.ensures
