use Rattle.std.proofs.Common.{ap, refl, subst, sym}
use Rattle.std.proofs.lemmas.Result.{err_from_is_err_and}
use Rattle.kernel.specs.Held.{Held}
use Rattle.proof_lines.specs.LinesAhead.{numbered_of}
use Rattle.checker.specs.Walk.{Accepts, Advances}
use Rattle.checker.specs.WalkOf.{position_of}
use Rattle.checker.proofs.Walking.{advances_by, moved, stops_refused}
use Rattle.checker.proofs.walk.Walk.take.Goals as goal

pub returns-in_err-accept-clause-stop : goal.returns-in_err-accept-clause-stop
returns-in_err-accept-clause-stop g c =
    let old = c.args.self.now in
    let same = ap (λ (k : Held). k.problem) c.in_ok-said.ensures.kernel in
    let p = err_from_is_err_and c.from_residual-in_err-accept.result c.from_residual-in_err-accept.ensures.1 in
    rw (p.1, p.2)
    (stops_refused old.kernel.problem (numbered_of c.args.line) (position_of old) (position_of c.read.new.self) c.read.new.self.kernel c.in_ok-said.said _ same refl c.in_ok-said.ensures.reads c.in_err-accept.ensures.stop)

pub returns-clause-advances : goal.returns-clause-advances
returns-clause-advances g c =
    let old = c.args.self.now in
    let p = old.kernel.problem in
    let same = ap (λ (k : Held). k.problem) c.in_ok-said.ensures.kernel in
    let mid = position_of c.read.new.self in
    let new = position_of c.accept.new.self in
    let said = c.in_ok-said.said in
    let accepts = subst (λ q. Accepts q mid said new) same c.in_ok-accept.ensures.accepts in
    let on = advances_by p (numbered_of c.args.line) (position_of old) mid new said c.in_ok-said.ensures.reads accepts c.in_ok-accept.ensures.section c.in_ok-accept.ensures.names in
    subst (λ q. Advances p (numbered_of c.args.line) (position_of old) (moved new q)) (sym c.behind-self.ensures) on
