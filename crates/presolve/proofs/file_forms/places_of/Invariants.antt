use Rattle.std.proofs.Common.{take}
use Rattle.presolve.specs.Forms.{ArePlacesOf}
use Rattle.presolve.proofs.file_forms.places_of.Given as goal

-- the places of the keys so far
abbrev pub invariant-loop-place : goal.invariant-loop-place
invariant-loop-place l = ArePlacesOf (take l.place l.fn.keys) l.fn.count l.table.items
