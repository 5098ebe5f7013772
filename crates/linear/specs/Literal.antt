-- Literals: the opposite of one, and its number in tables by literal.
use Rattle.std.specs.Prelude.{ℕ, not, ◌+◌, ◌*◌, if◌then◌else◌}
use Rattle.linear.specs.declared.term.Lit.{Lit}

-- the other literal of the same variable
abbrev pub opposite : Lit → Lit
opposite l = record l { negated = not l.negated }

-- the number of a literal in tables by literal
abbrev pub code : Lit → ℕ
code l = 2 * l.var.0 + (if l.negated then 1 else 0)
