use Rattle.std.proofs.Common.{rules}
use Rattle.analysis.proofs.Expressions.{adds}
use Rattle.analysis.proofs.resolvent.Resolvent.add.Goals as goal

pub returns-clause-derived : goal.returns-clause-derived
returns-clause-derived c given p q =
    adds given c.args.self.now.items.items c.args.other.items.items c.extend_from_slice.new.self.items c.push.new.self.items c.args.self.now.sum c.args.other.constraint c.add.new.self
    (search rules) (search rules) c.in_ok-add.ensures.sum c.in_ok-add.ensures.normal.fits p q
