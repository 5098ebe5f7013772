use Rattle.std.proofs.Common.{All, take}
use Rattle.presolve.specs.Forms.{HasExchangeAt}
use Rattle.presolve.proofs.file_forms.FileForms.all_exchange.Given as goal

-- the constraints at the places so far become some of the file
abbrev pub invariant-loop-place : goal.invariant-loop-place
invariant-loop-place l = All (λ i. HasExchangeAt (l.x.0) (l.y.0) l.self.keys.keys i) (take l.place-index l.place-items)
