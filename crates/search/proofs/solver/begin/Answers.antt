-- The log of the file is presolved, and nothing comes behind that yet.
use Rattle.std.proofs.Common.{refl}
use Rattle.search.proofs.GoingOn.{goes_on_same}
use Rattle.search.proofs.solver.begin.Goals as goal

pub returns-clause-presolved : goal.returns-clause-presolved
returns-clause-presolved g c = record {
  first = c.in_ok-log.log;
  presolved = c.presolve.new.log;
  of_file = record { problem = c.in_ok-log.ensures.problem; text = c.in_ok-log.ensures.text; start = c.in_ok-log.ensures.start };
  tried = c.in_ok-presolve.ensures.tried;
  goes_on = goes_on_same c.presolve.new.log c.presolve.new.log refl;
}
