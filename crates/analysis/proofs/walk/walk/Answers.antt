-- What is learned derives as what the walk has does, and the walk goes on from what it has.
use Rattle.std.proofs.Common.{Option, MatchOption, subst, arith}
use Rattle.proof_rules.specs.Expression.{Given, IsPostfixOf}
use Rattle.proof_rules.specs.State.{constraint_of}
use Rattle.analysis.specs.declared.learned.Learned.{Learned}
use Rattle.analysis.specs.Lines.{BeginsWith}
use Rattle.analysis.proofs.LongerLines.{begins_so}
use Rattle.analysis.proofs.walk.walk.Goals as goal

pub returns-in-Some-clause-begins : goal.returns-in-Some-clause-begins
returns-in-Some-clause-begins g c =
    subst (λ (o : Option Learned). MatchOption o (BeginsWith c.args.conflict c.learn.new.analyser.resolvent.items.items) (λ l. BeginsWith c.args.conflict l.items)) c.in-Some.is
    (c.in_ok-learned.ensures.begins c.args.conflict c.loop-learned.invariant.begins)

pub returns-in-Some-clause-derived : goal.returns-in-Some-clause-derived
returns-in-Some-clause-derived g c =
    let given : Given = constraint_of c.args.kernel.now.state in
    subst (λ (o : Option Learned). MatchOption o (IsPostfixOf given c.learn.new.analyser.resolvent.items.items c.learn.new.analyser.resolvent.sum) (λ l. IsPostfixOf given l.items l.constraint)) c.in-Some.is
    (c.in_ok-learned.ensures.derived given c.loop-learned.invariant.derived)

pub resolve-requires-clause-derived : goal.resolve-requires-clause-derived
resolve-requires-clause-derived g c =
    let given : Given = constraint_of c.args.kernel.now.state in
    subst (λ (o : Option Learned). MatchOption o (IsPostfixOf given c.learn.new.analyser.resolvent.items.items c.learn.new.analyser.resolvent.sum) (λ l. IsPostfixOf given l.items l.constraint)) c.in_default.is
    (c.in_ok-learned.ensures.derived given c.loop-learned.invariant.derived)

pub loop-learned-preserved : goal.loop-learned-preserved
loop-learned-preserved g c =
    let begins : BeginsWith c.args.conflict c.learn.new.analyser.resolvent.items.items =
    subst (λ (o : Option Learned). MatchOption o (BeginsWith c.args.conflict c.learn.new.analyser.resolvent.items.items) (λ l. BeginsWith c.args.conflict l.items)) c.in_default.is
    (c.in_ok-learned.ensures.begins c.args.conflict c.loop-learned.invariant.begins) in
    record {
      place = omega (arith, c.in-Some-latest_false.ensures, c.loop-learned.invariant.place);
      begins = begins_so c.args.conflict c.learn.new.analyser.resolvent.items.items c.resolve.new.analyser.resolvent.items.items begins c.in_ok-resolve.ensures.more;
      derived = c.in_ok-resolve.ensures.derived;
    }
