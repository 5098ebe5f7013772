-- Constraints that say more than propagation over the others shows.
use Rattle.std.specs.Prelude.{◌⊎◌, List}
use Rattle.linear.specs.declared.term.Lit.{Lit}
use Rattle.normal_form.specs.Normal.{NormalConstraint}
use Rattle.propagate.specs.Literals.{IsConsistent}
use Rattle.propagate.specs.Slack.{IsFalsified, IsForced}
use Rattle.propagate.specs.Chain.{LeadsToConflict, IsClosure}

-- under these literals and all that chains from them force, without a conflict, the constraint has negative slack
-- or forces a literal
pub record BitesUnder (constraints : List NormalConstraint) (n : NormalConstraint) (given closed : List Lit) : Type 0 where
  pub consistent : IsConsistent given
  pub no_conflict : LeadsToConflict constraints given → ⊥
  pub closure : IsClosure constraints given closed
  pub bites : IsFalsified closed n ⊎ ((l : Lit) × IsForced closed l n)

-- the constraint adds to what propagation over the others shows
abbrev pub Bites : List NormalConstraint → NormalConstraint → Type 0
Bites constraints n = (given : List Lit) × (closed : List Lit) × BitesUnder constraints n given closed
