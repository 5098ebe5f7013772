use Rattle.std.proofs.Common.{◌≡◌, pos, FitsSigned, get_or, refl, sym, subst, to_z, of_z, rules}
use Rattle.std.proofs.lemmas.Int.{to_z-of_z}
use Rattle.std.proofs.lemmas.List.{take_all}
use Rattle.std.proofs.lemmas.Result.{err_from_is_err_and}
use mir.Syntax.{w128}
use Rattle.std.specs.FinSet as set
use Rattle.proof_rules.specs.Fault.{OrMemory, IsDelFault}
use Rattle.proof_rules.specs.Legal.{LegalDel, without}
use Rattle.proof_rules.specs.State.{State, id_of}
use Rattle.kernel.specs.Deletion.{IsWithout}
use Rattle.kernel.specs.Held.{Held}
use Rattle.kernel.proofs.Deleting.{none_gone, one_gone, del_take, del_stops}
use Rattle.kernel.proofs.kernel.Kernel.judge_in_turn.Goals as goal

pub loop-number-init : goal.loop-number-init
loop-number-init g c =
    let s : State = c.args.self.now.state in
    (s, refl, subst (λ gone. IsWithout gone s s) (sym c.empty-gone.ensures) (none_gone s))

pub returns-in_err-id-clause-fault : goal.returns-in_err-id-clause-fault
returns-in_err-id-clause-fault g c =
    let k : Held = c.args.self.now in
    let at = c.loop-number in
    let number = get_or c.args.numbers.now at.number-index (pos 0) in
    let fits : FitsSigned w128 number = search rules in
    let t : State = at.invariant.0 in
    let p = err_from_is_err_and c.from_residual.result c.from_residual.ensures.1 in
    let dead = c.in_err-id.ensures.dead t at.invariant.2 in
    let stops = del_stops k.state t c.args.numbers.now at.number-index (to_z w128 (of_z w128 number)) (pos 0) c.loop-number-test.true (to_z-of_z w128 number fits) at.invariant.1 dead.1 in
    rw (p.1, p.2) (subst (λ f. OrMemory f (IsDelFault k.state c.args.numbers.now f)) (sym dead.0) stops)

pub loop-number-preserved : goal.loop-number-preserved
loop-number-preserved g c =
    let k : Held = c.args.self.now in
    let at = c.loop-number in
    let number = get_or c.args.numbers.now at.number-index (pos 0) in
    let fits : FitsSigned w128 number = search rules in
    let t : State = at.invariant.0 in
    let id = id_of t.next (to_z w128 (of_z w128 number)) in
    let gone : c.insert.new.self ≡ set.insert at.gone id = subst (λ i. c.insert.new.self ≡ set.insert at.gone i) (c.in_ok-id.ensures.id t at.invariant.2) c.in_ok-insert.ensures.ok in (
      without id t,
      del_take k.state t c.args.numbers.now at.number-index (to_z w128 (of_z w128 number)) (pos 0) c.loop-number-test.true (to_z-of_z w128 number fits) at.invariant.1
          (c.in_ok-id.ensures.live t at.invariant.2),
      subst (λ x. IsWithout x k.state (without id t)) (sym gone) (one_gone at.gone k.state t id at.invariant.2),
    )

pub returns-clause-ok : goal.returns-clause-ok
returns-clause-ok g c =
    let k : Held = c.args.self.now in
    let at = c.loop-number in
    (at.invariant.0, subst (λ xs. LegalDel k.state xs at.invariant.0) (take_all at.number-index c.args.numbers.now c.loop-number-test.false) at.invariant.1)
