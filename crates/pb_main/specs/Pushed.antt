-- What a sink has taken of bytes that were pushed into it.
use Rattle.std.specs.Prelude.{◌≡◌, ℕ, ◌+◌, List, ◌++◌, Option, Some, None, ⊤}
use Rattle.pb_text.specs.Devices.{SinkState, followed_by}

-- all of these bytes were taken, and no push failed
pub record HasTaken (bytes : List ℕ) (old new : SinkState) : Type 0 where
  pub taken : new.taken ≡ followed_by old.taken bytes
  pub failures : new.failures ≡ old.failures

-- a push failed when a beginning of these bytes had been taken, and nothing was offered behind it
pub record HasTakenPart (bytes : List ℕ) (old new : SinkState) : Type 0 where
  pub begun : List ℕ
  pub rest : List ℕ
  pub beginning : bytes ≡ begun ++ rest
  pub taken : new.taken ≡ followed_by old.taken begun
  pub failures : new.failures ≡ old.failures + 1

-- the sink took all of these bytes, if there is one
abbrev pub HaveGoneToAny : List ℕ → Option SinkState → Option SinkState → Type 0
HaveGoneToAny bytes None None = ⊤
HaveGoneToAny bytes (Some old) (Some new) = HasTaken bytes old new
HaveGoneToAny bytes _ _ = ⊥

-- there is a sink, a push into it failed, and it took a beginning of these bytes before
abbrev pub HavePartlyGone : List ℕ → Option SinkState → Option SinkState → Type 0
HavePartlyGone bytes (Some old) (Some new) = HasTakenPart bytes old new
HavePartlyGone bytes _ _ = ⊥
