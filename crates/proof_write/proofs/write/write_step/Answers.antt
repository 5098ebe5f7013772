use Rattle.std.proofs.Common.{refl}
use Rattle.proof_write.specs.Writing.{line_text, step_words}
use Rattle.proof_write.proofs.StepsBack.{step_back, placed_back}
use Rattle.proof_write.proofs.write.write_step.Goals as goal

pub returns-in-Ok-clause-line : goal.returns-in-Ok-clause-line
returns-in-Ok-clause-line c =
    let names = c.args.names.now in
    let step = c.args.step.now in
    let e = c.in-Ok.ensures in
    let b = step_back names step e.table c.requires e.proper in
    record {
      line = line_text (step_words names step);
      text = refl;
      appended = e.ok;
      one = b.one;
      says = b.says;
      at = λ section stands. placed_back section names step e.table c.requires e.proper stands;
    }
