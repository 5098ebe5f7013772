use Rattle.std.proofs.Common.{List, Bool, Option, Result, Ok, Err, IfOk, IfSome, subst}
use Rattle.proof_rules.specs.Justified.{IsBest}
use Rattle.proof_log.specs.Log.{IsProof, IsWorthLeast, Logbook}
use Rattle.proof_log.proofs.Worth.{any_best_is_least}
use Rattle.proof_log.proofs.log.Log.best.Goals as goal

if_there : {E : Type 0} (l : Logbook) (r : Result (Option (List Bool)) E) → IsProof l → IfOk r (IsBest l.problem l.state.logged) → IfOk r (λ best. IfSome best (IsWorthLeast l))
if_there l (Ok best) proof is = any_best_is_least l best proof is
if_there l (Err fault) proof is = tt

pub returns-clause-least : goal.returns-clause-least
returns-clause-least g c =
    let log = c.self.inside in
    let r = c.best_logged.result in
    let by_kernel = subst (λ p. IfOk r (IsBest p log.kernel.state.logged)) c.self.invariant.0 c.best_logged.ensures.best in
    let is = subst (λ (l : Logbook). IfOk r (IsBest l.problem l.state.logged)) c.self.view_is by_kernel in
    if_there c.args.self.now r (subst IsProof c.self.view_is c.self.invariant.1) is
