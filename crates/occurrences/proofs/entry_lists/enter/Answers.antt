-- What was put in is taken off again.
use Rattle.occurrences.specs.Occurrences.{entries_of}
use Rattle.occurrences.proofs.entry_lists.enter.Goals as goal

pub returns-then-count-len-clause-err : goal.returns-then-count-len-clause-err
returns-then-count-len-clause-err c = c.leave.ensures.fewer (entries_of c.args.table.now) c.args.place c.enter_some-count.ensures.more
