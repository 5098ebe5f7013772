use Rattle.std.proofs.Common.{◌≡◌, sym, ap, ◌∙◌}
use Rattle.pb_text.specs.TokensOf.{texts_of}
use Rattle.proof_text.specs.Faults.{DeniesLine}
use Rattle.proof_text.proofs.LinesOfSections.{fresh, conclusion_placed, conclusion_full, conclusion_denied}
use Rattle.proof_text.proofs.proof_names.ProofNames.conclusion_line.Goals as goal

pub returns-then-is_full-clause-denies : goal.returns-then-is_full-clause-denies
unfolding DeniesLine
returns-then-is_full-clause-denies c =
    let k = c.begin.new.self in
    let new = c.conclusion.new.table in
    let start : k ≡ fresh c.args.self.now = c.begin.ensures ∙ ap fresh c.self.view_is in
    (tt, conclusion_full c.args.self.now k new (texts_of c.args.words) c.in-Ok.conclusion start c.in-Ok.ensures.read (sym c.is_full.ensures ∙ c.if-is_full.true))

pub returns-else-is_full-clause-line : goal.returns-else-is_full-clause-line
returns-else-is_full-clause-line c =
    let k = c.begin.new.self in
    let new = c.conclusion.new.table in
    let start : k ≡ fresh c.args.self.now = c.begin.ensures ∙ ap fresh c.self.view_is in
    conclusion_placed c.args.self.now k new (texts_of c.args.words) c.in-Ok.conclusion start c.in-Ok.ensures.read (sym c.is_full.ensures ∙ c.if-is_full.false) c.reveal.ensures

pub returns-in-Err-clause-denies : goal.returns-in-Err-clause-denies
unfolding DeniesLine
returns-in-Err-clause-denies c = (c.in-Err.ensures.plain, conclusion_denied c.in-Err.fault c.args.self.now (texts_of c.args.words) c.in-Err.ensures.denies)
