use Rattle.std.proofs.Common.{rules, pos, [], ◌∷◌, refl}
use Rattle.proof_steps.specs.declared.step.Item.TheVariants as items
use Rattle.analysis.proofs.Expressions.{adds, cites}
use Rattle.analysis.proofs.resolvent.Resolvent.add_cited.Goals as goal

pub returns-clause-derived : goal.returns-clause-derived
returns-clause-derived c given p is =
    adds given c.args.self.now.items.items (items.Id (pos c.args.id) ∷ []) c.push.new.self.items c.push-2.new.self.items c.args.self.now.sum c.args.constraint.now c.add.new.self
    (search rules) (search rules) c.in_ok-add.ensures.sum c.in_ok-add.ensures.normal.fits p (cites given (items.Id (pos c.args.id) ∷ []) (pos c.args.id) c.args.constraint.now c.args.constraint.now refl refl is)
