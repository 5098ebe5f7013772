use Rattle.checker.proofs.OneWalk.{one_line_of_stop}
use Rattle.checker.proofs.laws.one_line_where_judging_stops.Goals as goal

pub returns : goal.returns
returns c p proof line other code why x y = one_line_of_stop p proof line other code why x y
