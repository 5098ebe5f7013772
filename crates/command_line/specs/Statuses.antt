-- The exit statuses that both programs share, which tell a script what an answer's own status does not: that the command line
-- was not taken, or that a device failed.
use Rattle.std.specs.Prelude.{◌≡◌, ℕ, ⊤}
use Rattle.clap.specs.declared.error.kind.ErrorKind.{ErrorKind}
use Rattle.clap.specs.declared.error.kind.ErrorKind.TheVariants as kind

-- help and the version were asked for, and are no mistake: 0; any other command line that is not taken: 64
abbrev pub IsStatusFor : ErrorKind → ℕ → Type 0
IsStatusFor kind.DisplayHelp status = status ≡ 0
IsStatusFor kind.DisplayVersion status = status ≡ 0
IsStatusFor _ status = status ≡ 64

-- a mistake: help and the version were not asked for, and memory did not run out
abbrev pub IsMistake : ErrorKind → Type 0
IsMistake kind.DisplayHelp = ⊥
IsMistake kind.DisplayVersion = ⊥
IsMistake kind.OutOfMemory = ⊥
IsMistake _ = ⊤
