use Rattle.std.proofs.Common.{take}
use Rattle.presolve.specs.Forms.{NotesTerms}
use Rattle.presolve.proofs.file_forms.note_terms.Given as goal

-- the place is noted at the variables of the terms so far
abbrev pub invariant-loop-term : goal.invariant-loop-term
invariant-loop-term l = NotesTerms (take l.term-index l.terms) l.place l.initial.places l.places
