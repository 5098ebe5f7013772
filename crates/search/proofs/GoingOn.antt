-- Logs that go on from another.
use Rattle.std.proofs.Common.{◌≡◌, [], ◌++◌, append_assoc, sym, ap, ◌∙◌}
use Rattle.std.proofs.lemmas.List.{append-nil}
use Rattle.proof_steps.specs.declared.step.Step.{Step}
use Rattle.proof_write.specs.Whole.{step_line}
use Rattle.linear.specs.Opb.{Opb}
use Rattle.proof_log.specs.Log.{GoesOn, Keeps, Logbook}
use Rattle.search.specs.Presolving.{BeginsPresolved}

pub goes_on_same : (a b : Logbook) → b ≡ a → GoesOn a b
goes_on_same a b same = record {
  problem = ap (λ (l : Logbook). l.problem) same;
  rest = [];
  text = ap (λ (l : Logbook). l.text) same ∙ sym (append-nil a.text);
}

-- by the line of a step
pub goes_on_kept : (a b : Logbook) (step : Step) → b.problem ≡ a.problem → Keeps a step b → GoesOn a b
goes_on_kept a b step same kept = record { problem = same; rest = step_line a.problem.names step; text = kept }

pub goes_on_more : (a b c : Logbook) → GoesOn a b → GoesOn b c → GoesOn a c
goes_on_more a b c first later = record {
  problem = later.problem ∙ first.problem;
  rest = first.rest ++ later.rest;
  text = later.text ∙ ap (λ t. t ++ later.rest) first.text ∙ append_assoc a.text first.rest later.rest;
}

-- what goes on from a log that begins presolved begins so too
pub begins_presolved_on : (p : Opb) (a b : Logbook) → BeginsPresolved p a → GoesOn a b → BeginsPresolved p b
begins_presolved_on p a b h later = record {
  first = h.first;
  presolved = h.presolved;
  of_file = h.of_file;
  tried = h.tried;
  goes_on = goes_on_more h.presolved a b h.goes_on later;
}
