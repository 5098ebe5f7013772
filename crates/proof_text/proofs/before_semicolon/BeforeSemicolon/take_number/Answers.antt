use Rattle.std.proofs.Common.{rules, ℤ, sym, ap, subst, ◌∙◌, FitsSigned}
use mir.Syntax.{w64}
use Rattle.std.proofs.lemmas.Int.{to_z-of_z}
use Rattle.pb_text.specs.TokensOf.{texts_of}
use Rattle.proof_text.specs.Next.{IsFirst, IsNumber}
use Rattle.proof_text.specs.Words.{Halves, halves}
use Rattle.proof_text.proofs.NextWord.{number_in_front, number_behind}
use Rattle.proof_text.proofs.before_semicolon.BeforeSemicolon.take_number.Goals as goal

pub returns-clause-word : goal.returns-clause-word
returns-clause-word c =
    let n = c.in_ok-number.number in
    let fits : FitsSigned w64 n = search rules in
    let left = (halves (texts_of c.take_number.new.self)).front in
    subst (λ (z : ℤ). IsFirst (IsNumber z) c.args.self.now.front left) (sym (to_z-of_z w64 n fits))
    (subst (λ (h : Halves). IsFirst (IsNumber n) h.front left) c.self.view_is (number_in_front n c.self.inside.left c.take_number.new.self fits c.in_ok-number.ensures))

pub returns-clause-behind : goal.returns-clause-behind
returns-clause-behind c =
    number_behind c.in_ok-number.number c.self.inside.left c.take_number.new.self c.in_ok-number.ensures ∙ ap (λ (h : Halves). h.behind) c.self.view_is
