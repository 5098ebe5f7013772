-- What a text proves is accepted, or memory runs out: no other verdict can be true of it.
use Rattle.std.proofs.Common.{◌≡◌, ◌≢◌, ◌⊎◌, inl, inr, ℕ, List, refl, sym, ap, subst}
use Rattle.linear.specs.Opb.{Opb}
use Rattle.linear.specs.Limits.{IsWithin}
use Rattle.opb_read.specs.Faults.{Denies}
use Rattle.opb_read.specs.Spells.{Spells}
use Rattle.opb_read.specs.declared.fault.OpbCode.{OpbCode}
use Rattle.opb_read.specs.declared.fault.OpbCode.TheVariants as problems
use Rattle.opb_read.proofs.Spelled.{one_problem}
use Rattle.kernel.specs.Accepted.{Judgement}
use Rattle.checker.specs.Verdicts.{IsProved, IsVerdictOf}
use Rattle.checker.specs.declared.verdict.Verdict.{Verdict}
use Rattle.checker.specs.declared.verdict.Verdict.TheVariants as verdicts
use Rattle.checker.proofs.OneProof.{one_proof_of}

-- a fault of its text denies every problem
denied : (code : OpbCode) (text : List ℕ) (p : Opb) → Spells text p → IsWithin p → Denies code text → code ≢ problems.OutOfMemory → ⊥
denied problems.BadToken text p spells within denies sure = denies p spells
denied problems.NoRelation text p spells within denies sure = denies p spells
denied problems.NoSemicolon text p spells within denies sure = denies p spells
denied problems.BadName text p spells within denies sure = denies p spells
denied problems.ObjectiveLate text p spells within denies sure = denies p spells
denied problems.UnsupportedForm text p spells within denies sure = denies p spells
denied problems.IntegerTooLarge text p spells within denies sure = denies p spells within
denied problems.TooMany text p spells within denies sure = denies p spells within
denied problems.OutOfMemory text p spells within denies sure = sure refl

pub proved_accepted : (opb proof : List ℕ) (p : Opb) → Spells opb p → IsWithin p → (a : Judgement) → IsProved p proof a → (v : Verdict) → IsVerdictOf opb proof v
    → (v ≡ verdicts.Accepted a) ⊎ (v ≡ verdicts.NoMemory)
proved_accepted opb proof p spells within a proved (verdicts.Accepted b) t =
    let also = subst (λ q. IsProved q proof b) (sym (t.alone p spells)) t.proved in
    inl (ap verdicts.Accepted (sym (one_proof_of p proof a b proved also).1))
proved_accepted opb proof p spells within a proved (verdicts.Refused line code) r =
    absurd (r.unproved a (subst (λ q. IsProved q proof a) (one_problem opb p r.problem spells r.spelled) proved))
proved_accepted opb proof p spells within a proved (verdicts.BadProblem fault) bad = absurd (denied fault.code opb p spells within bad.denied bad.no_memory)
proved_accepted opb proof p spells within a proved verdicts.NoMemory none = inr refl
