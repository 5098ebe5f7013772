-- The place is there already, or one entry more.
use Rattle.ledger.proofs.RowPlaces.{put_as_many, put_ok, put_or_not}
use Rattle.ledger.proofs.watchers.Watchers.put_once.Goals as goal

pub returns-clause-kept : goal.returns-clause-kept
returns-clause-kept c = put_or_not c.put.result c.args.self.now.rows c.put.new.self.rows c.args.literal c.args.place c.requires c.put.ensures.ok c.put.ensures.err

pub returns-clause-there : goal.returns-clause-there
returns-clause-there c = put_ok c.put.result c.args.self.now.rows c.put.new.self.rows c.args.literal c.args.place c.requires c.put.ensures.ok

pub returns-clause-length : goal.returns-clause-length
returns-clause-length c = put_as_many c.put.result c.args.self.now.rows c.put.new.self.rows c.args.literal c.args.place c.put.ensures.ok c.put.ensures.err
