use Rattle.std.proofs.Common.{◌∙◌}
use Rattle.pb_text.proofs.Takings.{symbol_taken}
use Rattle.pb_text.proofs.tokens.Tokens.take_symbol.Goals as goal

pub returns : goal.returns
returns c =
    symbol_taken c.past_gaps-here.result c.past_token-self-inside.result c.args.self.now c.in_ok-found.found c.in-Symbol.symbol
    (c.past_gaps-here.ensures.same ∙ c.self.view_is) c.past_gaps-here.ensures.at_token c.in_ok-found.ensures c.in-Symbol.is
    (record { rest = c.past_token-self-inside.ensures.rest; start = c.past_token-self-inside.ensures.start; breaks = c.past_token-self-inside.ensures.breaks; spot = c.past_token-self-inside.ensures.spot })
