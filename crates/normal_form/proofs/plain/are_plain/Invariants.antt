-- The terms before this one stand as a normal constraint has them.
use Rattle.std.proofs.Common.{◌≡◌, take}
use Rattle.normal_form.specs.Plain.{ArePlain}
use Rattle.normal_form.proofs.PlainTerms.{behind}
use Rattle.normal_form.proofs.plain.are_plain.Given as goal

abbrev pub invariant-loop-place : goal.invariant-loop-place
invariant-loop-place l = record {
  plain : ArePlain 0 (take l.place l.terms);
  next : l.next ≡ behind 0 (take l.place l.terms);
}
