-- What one constraint forces, literal by literal.
use Rattle.std.specs.Prelude.{◌≡◌, ℕ, ◌++◌, ◌∷◌, List, [], Option, Some, map}
use Rattle.linear.specs.declared.term.Lit.{Lit}
use Rattle.normal_form.specs.Normal.{NormalConstraint}
use Rattle.propagate.specs.Slack.{IsForced}

-- literals that a constraint forces, each under those before it
abbrev pub AreForced : NormalConstraint → List Lit → List Lit → Type 0
AreForced n assigned [] = Unit {0}
AreForced n assigned (l ∷ ls) = IsForced assigned l n × AreForced n (assigned ++ l ∷ []) ls

-- an assignment goes on by literals that a constraint forces, and the place of it is the reason of each
pub record IsForcedOn (n : NormalConstraint) (place : ℕ) (assigned : List Lit) (reasons : List (Option ℕ)) (later : List Lit) (more : List (Option ℕ)) : Type 0 where
  pub literals : List Lit
  pub forced : AreForced n assigned literals
  pub longer : later ≡ assigned ++ literals
  pub reasoned : more ≡ reasons ++ map (λ l. Some place) literals
