-- The table of the automaton, row by row: what holds of each of its rows holds of each token that may stand.
use Rattle.std.proofs.Common.{◌≡◌, Option, Some, None, subst}
use Rattle.pb_text.specs.declared.kind.Kind.{Kind}
use Rattle.pb_text.specs.declared.kind.Kind.TheVariants.{Symbol, Integer, Literal as Name}
use Rattle.pb_text.specs.declared.kind.Symbol.TheVariants.{Semicolon, AtLeast, Equals}
use Rattle.opb_read.specs.Spots.{next_spot}
use Rattle.opb_read.specs.declared.spot.Spot.{Spot}
use Rattle.opb_read.specs.declared.spot.Spot.TheVariants.{Start, ObjectiveMark, ObjectiveCoefficient, ObjectiveLiteral, Coefficient, Literal, Relation, RightSide}

-- a fact of each row: a spot, a kind that may stand there, and the spot to which it leads
pub record Rows (G : Spot → Kind → Spot → Type 0) : Type 0 where
  pub first_term : G Start Integer Coefficient
  pub first_at_least : G Start (Symbol AtLeast) Relation
  pub first_equals : G Start (Symbol Equals) Relation
  pub next_term : G Literal Integer Coefficient
  pub at_least : G Literal (Symbol AtLeast) Relation
  pub equals : G Literal (Symbol Equals) Relation
  pub literal : G Coefficient Name Literal
  pub right : G Relation Integer RightSide
  pub end : G RightSide (Symbol Semicolon) Start
  pub objective_first : G ObjectiveMark Integer ObjectiveCoefficient
  pub objective_next : G ObjectiveLiteral Integer ObjectiveCoefficient
  pub objective_literal : G ObjectiveCoefficient Name ObjectiveLiteral
  pub objective_empty : G ObjectiveMark (Symbol Semicolon) Start
  pub objective_end : G ObjectiveLiteral (Symbol Semicolon) Start

led : (G : Spot → Type 0) (p q : Spot) → G p → ◌≡◌ {A = Option Spot} (Some p) (Some q) → G q
led G p q g e = let same : p ≡ q = cc in subst G same g

pub every : (G : Spot → Kind → Spot → Type 0) → Rows G → (p : Spot) (k : Kind) (q : Spot) → next_spot p k ≡ Some q → G p k q
every G r Start Integer q e = led (G Start Integer) Coefficient q r.first_term e
every G r Start (Symbol AtLeast) q e = led (G Start (Symbol AtLeast)) Relation q r.first_at_least e
every G r Start (Symbol Equals) q e = led (G Start (Symbol Equals)) Relation q r.first_equals e
every G r Literal Integer q e = led (G Literal Integer) Coefficient q r.next_term e
every G r Literal (Symbol AtLeast) q e = led (G Literal (Symbol AtLeast)) Relation q r.at_least e
every G r Literal (Symbol Equals) q e = led (G Literal (Symbol Equals)) Relation q r.equals e
every G r Coefficient Name q e = led (G Coefficient Name) Literal q r.literal e
every G r Relation Integer q e = led (G Relation Integer) RightSide q r.right e
every G r RightSide (Symbol Semicolon) q e = led (G RightSide (Symbol Semicolon)) Start q r.end e
every G r ObjectiveMark Integer q e = led (G ObjectiveMark Integer) ObjectiveCoefficient q r.objective_first e
every G r ObjectiveLiteral Integer q e = led (G ObjectiveLiteral Integer) ObjectiveCoefficient q r.objective_next e
every G r ObjectiveCoefficient Name q e = led (G ObjectiveCoefficient Name) ObjectiveLiteral q r.objective_literal e
every G r ObjectiveMark (Symbol Semicolon) q e = led (G ObjectiveMark (Symbol Semicolon)) Start q r.objective_empty e
every G r ObjectiveLiteral (Symbol Semicolon) q e = led (G ObjectiveLiteral (Symbol Semicolon)) Start q r.objective_end e
every G r p k q e = let none : ◌≡◌ {A = Option Spot} None (Some q) = e in absurd cc
