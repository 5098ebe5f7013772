-- What is above a level is above a lower one.
use Rattle.accumulate.proofs.Levels.{marked_higher}
use Rattle.accumulate.proofs.capping.cap_all.Goals as goal

pub cap-requires-clause-marks : goal.cap-requires-clause-marks
cap-requires-clause-marks c = marked_higher c.args.level c.args.most c.args.recent.now.items c.args.nets.now.items c.if-level-most.true c.requires.recent

pub returns-then-level-most-clause-marks : goal.returns-then-level-most-clause-marks
returns-then-level-most-clause-marks c = c.cap.ensures.marks 0 c.args.touched.now.items c.requires.touched

pub returns-else-level-most-clause-marks : goal.returns-else-level-most-clause-marks
returns-else-level-most-clause-marks c = c.cap-else-level-most.ensures.marks 0 c.tidy.new.touched.items c.tidy.ensures.marks
