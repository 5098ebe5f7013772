-- What the two literals that watch a clause tell of it.
use Rattle.std.specs.Prelude.{◌≡◌, ◌⊎◌, ℕ, ◌<◌, true, false, List, [], ◌∷◌, ◌++◌, Some}
use Rattle.linear.specs.declared.term.Lit.{Lit}
use Rattle.normal_form.specs.Normal.{NormalConstraint}
use Rattle.linear.specs.Literal.{opposite}
use Rattle.propagate.specs.Literals.{lists}
use Rattle.propagate.specs.Slack.{IsForced}
use Rattle.propagate.specs.Walk.{IsQuiet}
use Rattle.ledger.specs.declared.hint.Hint.{Hint}
use Rattle.ledger.specs.declared.hint.Hint.TheVariants as hints
use Rattle.ledger.specs.declared.pair.Pair.{Pair}
use Rattle.ledger.specs.Falls.{IsBeside, IsOneTrue}
use Rattle.propagate.specs.Trails.{IsFree}
use Rattle.ledger.specs.Watched.{IsOpen}

-- a literal that is made false
abbrev pub HasFallen : List Lit → Lit → Type 0
HasFallen assigned l = (lists assigned l ≡ false) × (lists assigned (opposite l) ≡ true)

-- what two literals tell: quiet, where one is true or both are open; forced is the free one beside one that has fallen
abbrev pub IsHintOf : List Lit → Pair → Hint → Type 0
IsHintOf assigned p hints.Quiet = IsOneTrue assigned p ⊎ (IsOpen assigned p.first × IsOpen assigned p.second)
IsHintOf assigned p (hints.Forces l) = (other : Lit) × IsBeside (Some p) l other × IsFree assigned l × HasFallen assigned other
IsHintOf assigned p hints.Unknown = HasFallen assigned p.first × HasFallen assigned p.second

-- the literal that is forced is of the variables
abbrev pub IsHintWithin : ℕ → Hint → Type 0
IsHintWithin variables hints.Quiet = Unit {0}
IsHintWithin variables (hints.Forces l) = l.var.0 < variables
IsHintWithin variables hints.Unknown = Unit {0}

-- what is so of a constraint then: with what it forces it is quiet
abbrev pub IsHint : List Lit → NormalConstraint → Hint → Type 0
IsHint assigned n hints.Quiet = IsQuiet assigned n
IsHint assigned n (hints.Forces l) = IsForced assigned l n × IsQuiet (assigned ++ l ∷ []) n
IsHint assigned n hints.Unknown = Unit {0}
