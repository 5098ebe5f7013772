use Rattle.std.proofs.Common.{subst}
use Rattle.search.specs.Solving.{BearsOut}
use Rattle.pb_main.proofs.BestSolutions.{sat_is_no_optimum}
use Rattle.pb_main.proofs.finding.finding_of.Goals as goal

pub returns-in-Optimum : goal.returns-in-Optimum
returns-in-Optimum g c limit bears = c.optimum.ensures limit (subst (BearsOut limit c.args.log.now) c.in-Optimum.is bears)

pub returns-in-Sat : goal.returns-in-Sat
returns-in-Sat g c limit bears =
    c.best_so_far.ensures limit (sat_is_no_optimum limit c.args.log.now (subst (BearsOut limit c.args.log.now) c.in-Sat.is bears))
