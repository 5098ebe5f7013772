-- What a kernel keeps: from the file on, and through each legal step.
use Rattle.std.proofs.Common.{◌≡◌, ℕ, ◌+◌, None, ap, arith}
use Rattle.linear.specs.Limits.{IsWithin}
use Rattle.linear.specs.Opb.{Opb}
use Rattle.proof_steps.specs.declared.step.Step.{Step}
use Rattle.proof_rules.specs.Legal.{Legal}
use Rattle.proof_rules.specs.State.{State, IsStart}
use Rattle.proof_rules.specs.Forms.{problem_ids}
use Rattle.proof_rules.proofs.FileForms.{start_preserved, start_normal, all_count}
use Rattle.proof_rules.proofs.Preserving.{step_preserves, step_normal}
use Rattle.database.specs.Database.{Constraints}
use Rattle.database.specs.File.{AreOfFile}
use Rattle.kernel.specs.Held.{IsKept, state_with}
use Rattle.solutions.specs.Logged.{unlogged}

-- nothing is logged, and the constraints are the file's
pub starts : (p : Opb) (d : Constraints) → AreOfFile p.constraints d → IsStart p (state_with d unlogged None)
starts p d (ns, forms, is) = (ns, forms, ap (λ x. state_with x unlogged None) is)

-- the ids that are given before the first step are the file's
pub file_count : (p : Opb) (d : Constraints) (count : ℕ) → AreOfFile p.constraints d → count + 1 ≡ d.next → count ≡ problem_ids p.constraints
file_count p d count (ns, forms, is) last = omega (arith, last, ap (λ (x : Constraints). x.next) is, all_count p.constraints ns forms)

pub kept_start : (p : Opb) (s : State) → IsWithin p → IsStart p s → IsKept (record { problem = p; state = s })
kept_start p s within start = record { within = within; preserved = start_preserved p s start; normal = start_normal p s start }

pub kept_step : (p : Opb) (s t : State) (step : Step) → IsKept (record { problem = p; state = s }) → Legal p s step t → IsKept (record { problem = p; state = t })
kept_step p s t step kept legal = record {
  within = kept.within;
  preserved = step_preserves p s step t kept.preserved kept.normal legal;
  normal = step_normal p s step t kept.preserved kept.normal legal;
}
