use Rattle.std.proofs.Common.{◌∷◌, refl, sym}
use Rattle.pb_text.specs.TokensOf.{texts_of}
use Rattle.proof_text.proofs.LinesOfSections.{unruled_denied}
use Rattle.proof_text.proofs.read.step_of_words.Goals as goal

pub returns-in-None-clause-denies : goal.returns-in-None-clause-denies
returns-in-None-clause-denies c =
    let w = c.args.first.text.now in
    let rest = texts_of c.args.behind in
    unruled_denied c.rule_fault.result c.args.names.now w (w ∷ rest) rest refl (sym c.in-None.ensures) c.rule_fault.ensures
