-- A trail of a search, and the constraints that would have said something sooner on it.
use Rattle.std.specs.Prelude.{ℕ, max, ◌⊎◌, List, [], ◌∷◌, nat_lt, if◌then◌else◌}
use Rattle.linear.specs.declared.term.Lit.{Lit}
use Rattle.normal_form.specs.Normal.{NormalConstraint}
use Rattle.propagate.specs.Slack.{IsFalsified, IsForced}
use Rattle.analysis.specs.declared.entry.Entry.{Entry}

-- the literals that stood on the trail while no more than so many decisions were open
abbrev pub literals_up_to : ℕ → List Entry → List Lit
literals_up_to level [] = []
literals_up_to level (e ∷ es) = if nat_lt level e.level then literals_up_to level es else e.literal ∷ literals_up_to level es

-- the decisions that are open: the greatest level on the trail
abbrev pub greatest_level : List Entry → ℕ
greatest_level [] = 0
greatest_level (e ∷ es) = max e.level (greatest_level es)

-- under the literals of an assignment the constraint has negative slack or forces a literal
abbrev pub Bites : List Lit → NormalConstraint → Type 0
Bites assigned n = IsFalsified assigned n ⊎ ((l : Lit) × IsForced assigned l n)

-- under the literals up to the level the constraint has negative slack or forces a literal
abbrev pub BitesAt : List Entry → ℕ → NormalConstraint → Type 0
BitesAt trail level n = Bites (literals_up_to level trail) n
