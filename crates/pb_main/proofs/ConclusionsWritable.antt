-- What a search concludes can be written: its bounds are what a solution of the file is worth.
use Rattle.std.proofs.Common.{◌≡◌, ℕ, ℤ, List, Option, Some, None, Any, length, unsigned_abs, sym, ap, subst, arith}
use Rattle.std.specs.Prelude.{IfSome, MatchOption}
use Rattle.linear.specs.Limits.{IsWithin}
use Rattle.linear.specs.declared.term.Term.{Term}
use Rattle.kernel.proofs.Improving.{worth_small}
use Rattle.proof_rules.specs.Justified.{IsJustified}
use Rattle.proof_rules.specs.Legal.{worth_of}
use Rattle.proof_steps.specs.declared.conclusion.Conclusion.TheVariants as conclusions
use Rattle.proof_steps.specs.declared.conclusion.Lower.{Lower}
use Rattle.proof_steps.specs.declared.conclusion.Lower.TheVariants as lowers
use Rattle.proof_steps.specs.declared.conclusion.Upper.TheVariants as uppers
use Rattle.proof_text.specs.Writable.{IsConclusionWritable, IsWritable}
use Rattle.proof_log.specs.Log.{Logbook, IsProof}
use Rattle.search.specs.Solving.{BearsOut, IsBestSoFar, IsSolvedByAny}
use Rattle.search.specs.declared.found.Found.{Found}
use Rattle.search.specs.declared.found.Found.TheVariants as founds
use Rattle.search.specs.declared.found.Unfinished.TheVariants as ends
use Rattle.pb_main.proofs.BestSolutions.{log_preserved}

-- the least improving value, where bounds are concluded from it
bound_writable : (l : Logbook) → IsProof l → IsWithin l.problem → (lower : Lower) (v : ℤ) → l.state.least ≡ Some v → l.conclusion ≡ conclusions.Bounds lower (uppers.At v) None
    → IsWritable v
bound_writable l p within lower v least_is is =
    let justified = subst (λ c. IsJustified l.problem l.state c p.entitled.0) is p.entitled.1 in
    let objective : List Term = justified.1.2.0 in
    let asked : l.problem.objective ≡ Some objective = justified.1.2.1 in
    let least = subst (λ o. IfSome o (λ w. Any (λ g. worth_of l.problem g ≡ w) l.state.logged)) least_is (log_preserved l p).least in
    let small = worth_small l.problem least.1 objective (sym asked) within in
    let same : unsigned_abs (worth_of l.problem least.1) ≡ unsigned_abs v = ap unsigned_abs least.4 in
    omega (arith, small, same)

pub conclusion_writable : (limit : ℕ) (l : Logbook) (found : Found) → IsProof l → IsWithin l.problem → BearsOut limit l found
    → IsConclusionWritable (length l.problem.names) l.conclusion
conclusion_writable limit l founds.Optimum p within (v, least_is, is) =
    let small = bound_writable l p within (lowers.At v) v least_is is in
    subst (IsConclusionWritable (length l.problem.names)) (sym is) (small, small, tt)
conclusion_writable limit l founds.Unsat p within is = subst (IsConclusionWritable (length l.problem.names)) (sym is) tt
conclusion_writable limit l founds.Sat p within bears = by l.problem.objective bears
  where
    by : (o : Option (List Term)) → MatchOption o (IsSolvedByAny l) (λ _. IsBestSoFar limit l) → IsConclusionWritable (length l.problem.names) l.conclusion
    by None any = subst (IsConclusionWritable (length l.problem.names)) (sym any.1) tt
    by (Some objective) (may, (v, least_is, is)) =
        subst (IsConclusionWritable (length l.problem.names)) (sym is) (tt, bound_writable l p within lowers.MinusInf v least_is is, tt)
conclusion_writable limit l (founds.Unknown ends.Limit) p within bears = subst (IsConclusionWritable (length l.problem.names)) (sym bears.2) tt
conclusion_writable limit l (founds.Unknown ends.Memory) p within bears = absurd bears
