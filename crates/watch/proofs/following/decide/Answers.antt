-- The level that was opened is kept, and what is forced above it.
use Rattle.watch.proofs.following.decide.Goals as goal

pub returns-in_err-open_level-clause-kept : goal.returns-in_err-open_level-clause-kept
returns-in_err-open_level-clause-kept c = c.open_level.ensures.kept

pub propagate_kept-requires-clause-looked_at : goal.propagate_kept-requires-clause-looked_at
propagate_kept-requires-clause-looked_at c = c.open_level.ensures.kept.looked_at

pub returns-clause-kept : goal.returns-clause-kept
returns-clause-kept c = c.propagate_kept.ensures.kept c.open_level.new.levels c.open_level.ensures.kept
