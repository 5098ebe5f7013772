-- A fault says of the text what it says of all that goes on as the text does.
use Rattle.std.proofs.Common.{◌≡◌, ℕ, Option, Some, None, List, ◌++◌, refl, sym, ap, ◌∙◌}
use Rattle.pb_text.specs.Lexeme.{Lexeme, lexemes}
use Rattle.linear.specs.Opb.{Opb}
use Rattle.opb_read.specs.Spells.{Spells, problem_of}
use Rattle.opb_read.specs.Faults.{Denies}
use Rattle.opb_read.specs.FaultLine.{GoesOnAs, IsFaultAt}
use Rattle.opb_read.specs.declared.fault.OpbCode.{OpbCode}
use Rattle.opb_read.specs.declared.fault.OpbCode.TheVariants.{BadToken, NoRelation, NoSemicolon, BadName, ObjectiveLate, UnsupportedForm, IntegerTooLarge, TooMany, OutOfMemory}

same_tokens : (before rest : List Lexeme) → GoesOnAs before rest rest
same_tokens before rest = record { token = refl; front = refl }

no_spelling : (text : List ℕ) (before rest : List Lexeme) (p : Opb) → lexemes text ≡ before ++ rest → problem_of (before ++ rest) ≡ None → Spells text p → ⊥
unfolding Spells
no_spelling text before rest p split none h = let both : ◌≡◌ {A = Option Opb} None (Some p) = sym none ∙ ap problem_of (sym split) ∙ h in cc

spelling : (text : List ℕ) (before rest : List Lexeme) (p : Opb) → lexemes text ≡ before ++ rest → Spells text p → problem_of (before ++ rest) ≡ Some p
unfolding Spells
spelling text before rest p split h = ap problem_of (sym split) ∙ h

pub fault_denies : (code : OpbCode) (text : List ℕ) (line : ℕ) → IsFaultAt text code line → Denies code text
fault_denies IntegerTooLarge text line f = λ p h. f.stops.none f.rest (same_tokens f.before f.rest) p (spelling text f.before f.rest p f.split h)
fault_denies TooMany text line f = λ p h. f.stops.none f.rest (same_tokens f.before f.rest) p (spelling text f.before f.rest p f.split h)
fault_denies OutOfMemory text line f = tt
fault_denies BadToken text line f = λ p h. no_spelling text f.before f.rest p f.split (f.stops f.rest (same_tokens f.before f.rest)) h
fault_denies NoRelation text line f = λ p h. no_spelling text f.before f.rest p f.split (f.stops f.rest (same_tokens f.before f.rest)) h
fault_denies NoSemicolon text line f = λ p h. no_spelling text f.before f.rest p f.split (f.stops f.rest (same_tokens f.before f.rest)) h
fault_denies BadName text line f = λ p h. no_spelling text f.before f.rest p f.split (f.stops f.rest (same_tokens f.before f.rest)) h
fault_denies ObjectiveLate text line f = λ p h. no_spelling text f.before f.rest p f.split (f.stops f.rest (same_tokens f.before f.rest)) h
fault_denies UnsupportedForm text line f = λ p h. no_spelling text f.before f.rest p f.split (f.stops f.rest (same_tokens f.before f.rest)) h
