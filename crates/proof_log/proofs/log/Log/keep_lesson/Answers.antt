use Rattle.std.proofs.Common.{length, refl, sym, subst, ◌∙◌, arith, IfSome}
use Rattle.proof_rules.specs.Legal.{Legal}
use Rattle.proof_rules.specs.State.{State}
use Rattle.proof_steps.specs.declared.step.Step.{Step}
use Rattle.proof_text.specs.Writable.{IsStepWritable}
use Rattle.proof_log.specs.Log.{CanBeWritten, IsAtHand, IsLegal, Logbook, StepBites}
use Rattle.proof_log.proofs.Growing.{biting_within, line_longer, logbook}
use Rattle.proof_log.proofs.Taking.{Holds, goes_on_by, has_taken, is_kept, learned}
use Rattle.proof_log.proofs.log.Log.keep_lesson.Goals as goal

pub overflow_add-self : goal.overflow_add-self
overflow_add-self g c =
    let log = c.self.inside in
    let few = biting_within (logbook log.source.now log.text.items log.kernel.state log.improved.items log.biting log.conclusion log.asking) c.self.invariant.1 in
    let long = line_longer c.names.result.now log.text.items c.keep_legal.new.text.items c.args.step c.in_ok-applied.ensures.ok.line in
    omega (arith, few, long)

pub keep_legal-requires-clause-writable : goal.keep_legal-requires-clause-writable
keep_legal-requires-clause-writable g c =
    let step : Step = c.args.step in
    subst (λ names. IsStepWritable (length names) step) (sym c.names.ensures.names) (subst (λ (l : Logbook). CanBeWritten l step) (sym c.self.view_is) c.requires.writable)

pub keep_legal-requires-clause-legal : goal.keep_legal-requires-clause-legal
keep_legal-requires-clause-legal g c =
    let log = c.self.inside in
    subst (λ q. (t : State) × Legal q log.kernel.state c.args.step t) (sym c.self.invariant.0) (subst (λ (l : Logbook). IsLegal l c.args.step) (sym c.self.view_is) c.requires.legal)

pub keep_legal-requires-clause-value : goal.keep_legal-requires-clause-value
keep_legal-requires-clause-value g c = subst (λ (l : Logbook). IfSome c.args.value (IsAtHand l.state c.args.step)) (sym c.self.view_is) c.requires.value

pub invariant_of-self-2 : goal.invariant_of-self-2
invariant_of-self-2 g c =
    let log = c.self.inside in
    let step : Step = c.args.step in
    let l : Logbook = logbook log.source.now log.text.items log.kernel.state log.improved.items log.biting log.conclusion log.asking in
    let kept = is_kept c.args.self.now l c.names.result.now step c.keep_legal.new.text.items log.kernel c.keep_legal.new.kernel c.self.view_is c.self.invariant.0 refl c.names.ensures.names c.requires.writable c.in_ok-applied.ensures.ok in
    let bites : StepBites l.state step = subst (λ (b : Logbook). StepBites b.state step) (sym c.self.view_is) c.requires.bites in
    let held : Holds l = (c.self.invariant.1, c.self.invariant.2, c.self.invariant.3) in
    let all = learned l step c.keep_legal.new.text.items c.keep_legal.new.kernel.state c.replace.new.dest held kept bites c.replace.ensures.after in
    (c.in_ok-applied.ensures.ok.problem ∙ c.self.invariant.0, all.0, all.1, all.2)

pub returns-clause-taken : goal.returns-clause-taken
returns-clause-taken g c =
    let log = c.self.inside in
    let l : Logbook = logbook log.source.now log.text.items log.kernel.state log.improved.items log.biting log.conclusion log.asking in
    let kept = is_kept c.args.self.now l c.names.result.now c.args.step c.keep_legal.new.text.items log.kernel c.keep_legal.new.kernel c.self.view_is c.self.invariant.0 refl c.names.ensures.names c.requires.writable c.in_ok-applied.ensures.ok in has_taken c.args.self.now l _ c.args.step c.self.view_is kept c.replace.ensures.after

pub returns-clause-goes_on : goal.returns-clause-goes_on
returns-clause-goes_on g c =
    let log = c.self.inside in
    let l : Logbook = logbook log.source.now log.text.items log.kernel.state log.improved.items log.biting log.conclusion log.asking in
    let kept = is_kept c.args.self.now l c.names.result.now c.args.step c.keep_legal.new.text.items log.kernel c.keep_legal.new.kernel c.self.view_is c.self.invariant.0 refl c.names.ensures.names c.requires.writable c.in_ok-applied.ensures.ok in goes_on_by c.args.self.now l _ c.args.step c.self.view_is refl kept
