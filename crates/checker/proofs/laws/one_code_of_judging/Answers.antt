use Rattle.checker.proofs.OneWalk.{one_code_of_stop}
use Rattle.checker.proofs.laws.one_code_of_judging.Goals as goal

pub returns : goal.returns
returns c p proof line other code why closed x y = one_code_of_stop p proof line other code why closed x y
