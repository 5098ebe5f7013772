use Rattle.pb_text.proofs.KindTests.{integer_kind, integer_is, literal_kind, literal_is, misspelt_kind, misspelt_is}
use Rattle.pb_text.proofs.laws.kinds_of_words.Goals as goal

pub returns-clause-integer : goal.returns-clause-integer
returns-clause-integer c text = (integer_kind text, integer_is text)

pub returns-clause-literal : goal.returns-clause-literal
returns-clause-literal c text = (literal_kind text, literal_is text)

pub returns-clause-misspelt : goal.returns-clause-misspelt
returns-clause-misspelt c text = (misspelt_kind text, misspelt_is text)
