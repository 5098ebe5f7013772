-- What is handed out where a conclusion is accepted.
use Rattle.std.specs.Prelude.{List, Bool, Option}
use Rattle.proof_steps.specs.declared.conclusion.Conclusion.{Conclusion}

pub record Judgement : Type 0 where
  pub conclusion : Conclusion
  pub best : Option (List Bool)
