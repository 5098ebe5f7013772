-- What is undone, and what is forgotten.
use Rattle.std.specs.Prelude.{◌≡◌, ◌≢◌, ◌<◌, ◌⊎◌, ℕ, List, All, IfSome, length, take}
use Rattle.linear.specs.declared.term.Lit.{Lit}
use Rattle.analysis.specs.declared.entry.Entry.{Entry}
use Rattle.proof_log.specs.Log.{Logbook}
use Rattle.search.specs.Solving.{TakesId}

-- the decisions without the last one, or without the last ones
abbrev pub IsUndone : List Lit → List Lit → Type 0
IsUndone old new = (kept : ℕ) × (kept < length old) × (new ≡ take kept old)

-- a search nears its end: one more id is taken, or fewer decisions are open and all else is as it was
abbrev pub NearsEnd : Logbook → List Lit → Logbook → List Lit → Type 0
NearsEnd old before new after = TakesId old.state new.state ⊎ ((new ≡ old) × (length after < length before))

-- no literal of the trail is forced in the constraint of the id
abbrev pub IsNoReason : List Entry → ℕ → Type 0
IsNoReason trail id = All (λ e. IfSome e.reason (λ reason. reason ≢ id)) trail
