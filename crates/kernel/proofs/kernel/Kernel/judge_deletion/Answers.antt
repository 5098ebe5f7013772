use Rattle.std.proofs.Common.{◌≡◌, ◌<◌, ◌≤◌, ℤ, pos, FitsSigned, List, [], ◌∷◌, length, get_or, OnOk, IfErr, ap, subst, to_z, of_z, arith, rules}
use Rattle.std.proofs.lemmas.Int.{to_z-of_z}
use mir.Syntax.{w128}
use Rattle.proof_rules.specs.Fault.{OrMemory, IsDelFault}
use Rattle.proof_rules.specs.State.{State}
use Rattle.kernel.specs.Deletion.{AreDeletable}
use Rattle.kernel.proofs.kernel.Kernel.judge_deletion.Goals as goal

-- a list of one is that one
alone : (xs : List ℤ) (x d : ℤ) → 1 ≤ length xs → length xs < 2 → x ≡ get_or xs 0 d → x ∷ [] ≡ xs
alone [] x d h l e = absurd (omega (arith, h))
alone (y ∷ []) x d h l e = ap (λ (z : ℤ). z ∷ []) e
alone (y ∷ z ∷ xs) x d h l e = absurd (omega (arith, l))

pub returns-in-len1-clause-ok : goal.returns-in-len1-clause-ok
returns-in-len1-clause-ok g c =
    let number : ℤ = get_or c.args.numbers.now 0 (pos 0) in
    let fits : FitsSigned w128 number = search rules in
    let s : State = c.args.self.now.state in
    subst (λ ns. OnOk c.judge_alone.result (AreDeletable s ns)) (alone c.args.numbers.now (to_z w128 (of_z w128 number)) (pos 0) c.in-len1.len_at_least c.in-len1.len_below (to_z-of_z w128 number fits)) c.judge_alone.ensures.ok

pub returns-in-len1-clause-fault : goal.returns-in-len1-clause-fault
returns-in-len1-clause-fault g c =
    let number : ℤ = get_or c.args.numbers.now 0 (pos 0) in
    let fits : FitsSigned w128 number = search rules in
    let s : State = c.args.self.now.state in
    subst (λ ns. IfErr c.judge_alone.result (λ f. OrMemory f (IsDelFault s ns f))) (alone c.args.numbers.now (to_z w128 (of_z w128 number)) (pos 0) c.in-len1.len_at_least c.in-len1.len_below (to_z-of_z w128 number fits)) c.judge_alone.ensures.fault
