-- One note is changed, or there is no room for it.
use Rattle.std.proofs.Common.{◌==◌, ℕ, ap, ◌∙◌, get_or, List, arith}
use Rattle.ledger.proofs.Notes.{at_most, noted_other, noted_there}
use Rattle.ledger.proofs.passed.Passed.set.Goals as goal

pub returns-then-place-len-clause-others : goal.returns-then-place-len-clause-others
returns-then-place-len-clause-others c k apart =
    noted_other c.self.inside.round c.self.inside.notes.items c.args.place k (record { count = c.min.result; round = c.self.inside.round }) apart ∙ ap (λ (ns : List ℕ). get_or ns k 0) c.self.view_is

pub returns-then-place-len-clause-most : goal.returns-then-place-len-clause-most
returns-then-place-len-clause-most c =
    omega (arith, noted_there c.self.inside.round c.self.inside.notes.items c.args.place (record { count = c.min.result; round = c.self.inside.round }) (omega (arith, c.if-place-len.true, c.len.ensures)), at_most (c.self.inside.round == c.self.inside.round) c.min.result c.args.count (omega (arith, c.min.ensures)))
