use Rattle.std.proofs.Common.{ap, ◌∙◌}
use Rattle.pb_text.specs.Word.{is_negated, name_of}
use Rattle.pb_text.proofs.Takings.{literal_taken}
use Rattle.pb_text.proofs.tokens.Tokens.take_literal.Goals as goal

pub returns : goal.returns
returns c =
    let literal = c.split_literal-literal.result in
    literal_taken c.past_gaps-here.result c.past_token-self-inside.result c.args.self.now c.in_ok-found.found.size c.in_ok-found.found.said literal.negated literal.name.now
    (c.past_gaps-here.ensures.same ∙ c.self.view_is) c.past_gaps-here.ensures.at_token c.in_ok-found.ensures
    (c.split_literal-literal.ensures.negated ∙ ap is_negated c.split_at.ensures.front) (c.split_literal-literal.ensures.name ∙ ap name_of c.split_at.ensures.front)
    (record { rest = c.past_token-self-inside.ensures.rest; start = c.past_token-self-inside.ensures.start; breaks = c.past_token-self-inside.ensures.breaks; spot = c.past_token-self-inside.ensures.spot })
