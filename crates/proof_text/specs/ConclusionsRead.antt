-- Of the code, not of the format: what a function that reads a conclusion, or a part of one, leaves, the names that are met on
-- the way included.
use Rattle.std.specs.Prelude.{◌≡◌, ℕ, ◌||◌, not, Bool, true, Option, Some, List, [], ◌∷◌, drop}
use Rattle.pb_text.specs.Lexeme.{kind_of}
use Rattle.linear.specs.declared.term.Lit.{Lit}
use Rattle.proof_steps.specs.declared.conclusion.Conclusion.{Conclusion}
use Rattle.proof_text.specs.declared.keyword.ConclusionKind.{ConclusionKind}
use Rattle.proof_text.specs.Kinds.{is_colon}
use Rattle.proof_text.specs.Words.{unclosed, begins_integer, AreSmall}
use Rattle.proof_text.specs.NamesMet.{NamesMet, met_in}
use Rattle.proof_text.specs.Conclusions.{is_hint, hint_of, hinted, conclusion_by, literals_by, conclusion_of, conclusion_literals}

-- no `:` stands first without an integer behind it
abbrev pub begins_right : List (List ℕ) → Bool
begins_right [] = true
begins_right (w ∷ rest) = not (is_colon (kind_of w)) || begins_integer rest

-- a hint of literals, as it is read
pub record IsHintRead (k : NamesMet) (ws : List (List ℕ)) (hint : Option (List Lit)) (new : NamesMet) : Type 0 where
  pub form : is_hint ws ≡ true
  pub value : hint ≡ hint_of new.names ws
  pub known : new ≡ met_in k (hinted ws)
  pub small : AreSmall ws

-- the words behind its first one are this conclusion, as it is read
pub record IsConclusionRead (kind : ConclusionKind) (k : NamesMet) (ws : List (List ℕ)) (c : Conclusion) (new : NamesMet) : Type 0 where
  pub says : conclusion_by kind new.names ws ≡ Some c
  pub known : new ≡ met_in k (literals_by kind ws)
  pub small : AreSmall ws

-- the words of a line are this conclusion, as it is read
pub record IsConclusionLineRead (k : NamesMet) (ws : List (List ℕ)) (c : Conclusion) (new : NamesMet) : Type 0 where
  pub says : conclusion_of new.names ws ≡ Some c
  pub known : new ≡ met_in k (conclusion_literals ws)
  pub small : AreSmall (drop 1 (unclosed (drop 1 ws)))
