use Rattle.std.proofs.Common.{refl, ap, ◌∙◌, codes, ◌∷◌, ◌++◌, append_assoc}
use Rattle.proof_write.specs.Writing.{spaced, line_text, conclusion_words}
use Rattle.proof_write.proofs.ConclusionsBack.{end_back}
use Rattle.proof_write.proofs.write.write_end.Goals as goal

pub returns-in-Ok-clause-lines : goal.returns-in-Ok-clause-lines
returns-in-Ok-clause-lines c =
    let names = c.args.names.now in
    let x = c.args.conclusion.now in
    let e = c.in-Ok.ensures in
    let b = end_back names x e.table c.requires in
    let text = spaced (conclusion_words names x) in
    record {
      line = line_text (codes "conclusion" ∷ conclusion_words names x);
      text = refl;
      appended = e.ok ∙ ap (λ t. t ++ codes "\nend pseudo-Boolean proof\n") (append_assoc (c.args.out.now.items ++ codes "output NONE\n") (codes "conclusion") text);
      one = b.one;
      says = b.says;
    }
