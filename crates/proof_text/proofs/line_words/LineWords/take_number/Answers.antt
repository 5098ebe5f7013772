use Rattle.std.proofs.Common.{rules, ℤ, sym, subst, FitsSigned}
use mir.Syntax.{w64}
use Rattle.std.proofs.lemmas.Int.{to_z-of_z}
use Rattle.pb_text.specs.TokensOf.{texts_of}
use Rattle.proof_text.specs.Next.{IsFirst, IsNumber}
use Rattle.proof_text.specs.Words.{unclosed}
use Rattle.proof_text.proofs.NextWord.{number_in_line}
use Rattle.proof_text.proofs.line_words.LineWords.take_number.Goals as goal

pub returns : goal.returns
returns c =
    let n = c.in_ok-number.number in
    let fits : FitsSigned w64 n = search rules in
    let left = unclosed (texts_of c.take_number.new.self) in
    subst (λ (z : ℤ). IsFirst (IsNumber z) c.args.self.now left) (sym (to_z-of_z w64 n fits))
    (subst (λ ws. IsFirst (IsNumber n) ws left) c.self.view_is (number_in_line n c.self.inside.left c.take_number.new.self fits c.in_ok-number.ensures))
