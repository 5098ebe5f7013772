use Rattle.std.proofs.Common.{rules, ℤ, sym, subst, ◌∙◌, FitsSigned}
use mir.Syntax.{w64}
use Rattle.std.proofs.lemmas.Int.{to_z-of_z}
use Rattle.pb_text.specs.Cursor.{ahead}
use Rattle.pb_text.specs.Taken.{IsNumberTaken}
use Rattle.pb_text.proofs.Takings.{number_taken}
use Rattle.pb_text.proofs.tokens.Tokens.take_number.Goals as goal

pub returns : goal.returns
returns c =
    let number : ℤ = c.in_ok-found.found.number in
    let fits : FitsSigned w64 number = search rules in
    subst (λ (z : ℤ). IsNumberTaken z c.args.self.now (ahead c.past_token-self-inside.result)) (sym (to_z-of_z w64 number fits))
    (number_taken c.past_gaps-here.result c.past_token-self-inside.result c.args.self.now c.in_ok-found.found.size number
    (c.past_gaps-here.ensures.same ∙ c.self.view_is) c.past_gaps-here.ensures.at_token c.in_ok-found.ensures
    (record { rest = c.past_token-self-inside.ensures.rest; start = c.past_token-self-inside.ensures.start; breaks = c.past_token-self-inside.ensures.breaks; spot = c.past_token-self-inside.ensures.spot }))
