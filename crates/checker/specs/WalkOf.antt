-- The position at which the walk of the code stands, and what its parts do.
use Rattle.std.specs.Prelude.{◌≡◌, ℕ}
use Rattle.proof_lines.specs.Lines.{Numbered}
use Rattle.proof_text.specs.declared.line.Line.{Line}
use Rattle.checker.specs.Stopped.{LeadsNowhere, Refuses}
use Rattle.checker.specs.StopsBy.{StopsBy}
use Rattle.checker.specs.Walk.{Accepts, Advances, Position, Next}
use Rattle.checker.specs.declared.stop.Stop.{Stop}
use Rattle.checker.specs.declared.walk.Walk.{Walk}

abbrev pub position_of : {P : Type 0} → Walk P → Position
position_of walk = record {
  section = walk.section;
  names = walk.names;
  state = walk.kernel.state;
  concluded = walk.concluded;
}

-- a line is read, and says this; nothing is judged
pub record Reads (line : Numbered) (old new : Position) (said : Line) : Type 0 where
  pub next : Next old line
  pub said_is : said ≡ next.said
  pub now_at : new ≡ record old { names = next.names }

-- what a line says is accepted
abbrev pub AcceptsOn : {P : Type 0} → Walk P → Line → Walk P → Type 0
AcceptsOn old said new = Accepts old.kernel.problem (position_of old) said (position_of new)

-- a line is read, and accepted
abbrev pub AdvancesOn : {P : Type 0} → Numbered → Walk P → Walk P → Type 0
AdvancesOn line old new = Advances old.kernel.problem line (position_of old) (position_of new)

-- what a line says is refused, its number being this one
abbrev pub IsRefusal : {P : Type 0} → ℕ → Walk P → Line → Stop → Type 0
IsRefusal number walk said stop =
    StopsBy (λ line code. (line ≡ number) × Refuses walk.kernel.problem walk.kernel.state said code) stop

-- a line leads nowhere from where the walk stands
abbrev pub IsStopOf : {P : Type 0} → Numbered → Walk P → Stop → Type 0
IsStopOf line walk stop = StopsBy (λ number code. (number ≡ line.number) × LeadsNowhere walk.kernel.problem (position_of walk) line code) stop
