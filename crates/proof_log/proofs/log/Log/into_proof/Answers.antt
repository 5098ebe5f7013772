use Rattle.std.proofs.Common.{◌≡◌, ◌++◌, ap, subst, ◌∙◌}
use Rattle.proof_write.specs.Whole.{last_lines}
use Rattle.proof_write.proofs.TextGrows.{end_appended}
use Rattle.proof_log.specs.Log.{Logbook, IsProof}
use Rattle.proof_log.proofs.Growing.{spells}
use Rattle.proof_log.proofs.log.Log.into_proof.Given.{Over}
use Rattle.proof_log.proofs.log.Log.into_proof.Goals as goal
use Rattle.proof_log.proofs.log.Log.into_proof.Goals.{After-drop-self-inside-2}

appended : (g : Over) (c : After-drop-self-inside-2 g) → c.write_end.new.out.items ≡ c.args.self.text ++ last_lines c.args.self.problem.names c.args.self.conclusion
appended g c =
    let log = c.self.inside in
    let all : c.write_end.new.out.items ≡ log.text.items ++ last_lines log.source.now.names log.conclusion =
    end_appended c.names.result.now log.text.items log.conclusion c.write_end.new.out.items c.in_ok-write_end.ensures.lines
    ∙ ap (λ names. log.text.items ++ last_lines names log.conclusion) c.names.ensures.names in
    subst (λ (l : Logbook). c.write_end.new.out.items ≡ l.text ++ last_lines l.problem.names l.conclusion) c.self.view_is all

pub returns-clause-text : goal.returns-clause-text
returns-clause-text g c = appended g c

pub returns-clause-spelled : goal.returns-clause-spelled
returns-clause-spelled g c =
    let proof : IsProof c.args.self = subst IsProof c.self.view_is c.self.invariant.1 in
    spells c.args.self c.write_end.new.out.items proof c.requires (appended g c)
