use Rattle.std.proofs.Common.{sym, subst}
use Rattle.pb_text.specs.TokensOf.{AreTokensOf}
use Rattle.pb_text.proofs.TokensExist.{lexemes_are_tokens}
use Rattle.pb_text.proofs.TokensUnique.{tokens_are_lexemes}
use Rattle.pb_text.proofs.laws.one_list_of_tokens.Goals as goal

pub returns : goal.returns
returns c text ts = (tokens_are_lexemes text ts, λ e. subst (AreTokensOf text) (sym e) (lexemes_are_tokens text))
