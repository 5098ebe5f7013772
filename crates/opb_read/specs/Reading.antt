-- What a reader has made of the tokens so far.
use Rattle.opb_read.specs.Progress.{Progress}
use Rattle.opb_read.specs.declared.reader.Reader.{Reader}
use Rattle.opb_read.specs.declared.spot.Spot.{Spot}

abbrev pub progress_of : Reader → Progress
progress_of r = record {
  spot = r.spot;
  names = r.variables;
  objective = r.objective;
  constraints = r.constraints;
  terms = r.terms.items;
  coefficient = r.coefficient;
  relation = r.relation;
  right = r.right;
}

-- the same where the reader is about to come to this spot
abbrev pub progress_at : Spot → Reader → Progress
progress_at p r = record {
  spot = p;
  names = r.variables;
  objective = r.objective;
  constraints = r.constraints;
  terms = r.terms.items;
  coefficient = r.coefficient;
  relation = r.relation;
  right = r.right;
}
