use Rattle.std.proofs.Common.{length, refl, sym, subst, ◌∙◌}
use Rattle.proof_steps.specs.declared.step.Step.{Step}
use Rattle.proof_text.specs.Writable.{IsStepWritable}
use Rattle.proof_log.specs.Kept.{Spares}
use Rattle.proof_log.specs.Log.{CanBeWritten, ImprovesIfAsked, Logbook}
use Rattle.proof_log.proofs.Growing.{logbook}
use Rattle.proof_log.proofs.Taking.{Holds, goes_on_by, has_taken, is_kept, taken}
use Rattle.proof_log.proofs.log.Log.apply.Goals as goal

pub keep-requires-clause-writable : goal.keep-requires-clause-writable
keep-requires-clause-writable g c =
    let step : Step = c.args.step in
    subst (λ names. IsStepWritable (length names) step) (sym c.names.ensures.names) (subst (λ (l : Logbook). CanBeWritten l step) (sym c.self.view_is) c.requires.writable)

pub invariant_of-self-2 : goal.invariant_of-self-2
invariant_of-self-2 g c =
    let log = c.self.inside in
    let step : Step = c.args.step in
    let l : Logbook = logbook log.source.now log.text.items log.kernel.state log.improved.items log.biting log.conclusion log.asking in
    let kept = is_kept c.args.self.now l c.names.result.now step c.keep.new.text.items log.kernel c.keep.new.kernel c.self.view_is c.self.invariant.0 refl c.names.ensures.names c.requires.writable c.in_ok-applied.ensures.ok in
    let asked : ImprovesIfAsked l.problem step = subst (λ (b : Logbook). ImprovesIfAsked b.problem step) (sym c.self.view_is) c.requires.asked in
    let spares : Spares l step = subst (λ (b : Logbook). Spares b step) (sym c.self.view_is) c.requires.spares in
    let held : Holds l = (c.self.invariant.1, c.self.invariant.2, c.self.invariant.3) in
    let all = taken l step c.keep.new.text.items c.keep.new.kernel.state c.replace.new.dest held kept c.requires.alone c.requires.other asked spares c.replace.ensures.after in
    (c.in_ok-applied.ensures.ok.problem ∙ c.self.invariant.0, all.0, all.1, all.2)

pub returns-clause-taken : goal.returns-clause-taken
returns-clause-taken g c =
    let log = c.self.inside in
    let l : Logbook = logbook log.source.now log.text.items log.kernel.state log.improved.items log.biting log.conclusion log.asking in
    let kept = is_kept c.args.self.now l c.names.result.now c.args.step c.keep.new.text.items log.kernel c.keep.new.kernel c.self.view_is c.self.invariant.0 refl c.names.ensures.names c.requires.writable c.in_ok-applied.ensures.ok in has_taken c.args.self.now l _ c.args.step c.self.view_is kept c.replace.ensures.after

pub returns-clause-goes_on : goal.returns-clause-goes_on
returns-clause-goes_on g c =
    let log = c.self.inside in
    let l : Logbook = logbook log.source.now log.text.items log.kernel.state log.improved.items log.biting log.conclusion log.asking in
    let kept = is_kept c.args.self.now l c.names.result.now c.args.step c.keep.new.text.items log.kernel c.keep.new.kernel c.self.view_is c.self.invariant.0 refl c.names.ensures.names c.requires.writable c.in_ok-applied.ensures.ok in goes_on_by c.args.self.now l _ c.args.step c.self.view_is refl kept
