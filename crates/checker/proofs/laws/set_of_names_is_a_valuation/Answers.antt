use Rattle.std.proofs.Common.{ap}
use Rattle.checker.proofs.NamesThere.{name_there}
use Rattle.checker.proofs.laws.set_of_names_is_a_valuation.Goals as goal

pub returns : goal.returns
returns c names members name there = ap members (name_there names name there)
