-- Bytes that grow at their end.
use Rattle.std.specs.Prelude.{◌≡◌, ℕ, ◌++◌, List}

-- `new` has the bytes of `old`, and perhaps more behind them
abbrev pub Extends : List ℕ → List ℕ → Type 0
Extends old new = (more : List ℕ) × (new ≡ old ++ more)
