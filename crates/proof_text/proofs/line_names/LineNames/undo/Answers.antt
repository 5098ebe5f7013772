use Rattle.proof_text.proofs.NamesBehind.{table_without}
use Rattle.std.proofs.Common.{arith}
use Rattle.proof_text.proofs.line_names.LineNames.undo.Goals as goal

pub invariant_of-self : goal.invariant_of-self
invariant_of-self c =
    let inside = c.self.inside in (
      omega (arith, c.len-self-inside.ensures.len),
      table_without inside.before inside.file.now inside.added c.truncate.new.self c.self.invariant.1 c.truncate.ensures,
      λ e. cc,
    )
