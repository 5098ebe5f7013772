use Rattle.std.proofs.Common.{◌≡◌, ◌-◌, ℤ, pos, List, ◌++◌, Some, length, set, FitsSigned, to_z, of_z, refl, sym, ap, subst, ◌∙◌, rules}
use Rattle.std.specs.Prelude.{vec_len}
use Rattle.std.proofs.lemmas.Int.{to_z-of_z}
use mir.Syntax.{w128}
use Rattle.proof_steps.specs.declared.step.Step.{Step}
use Rattle.proof_steps.specs.declared.step.Step.TheVariants as kinds
use Rattle.proof_rules.specs.Legal.{Legal}
use Rattle.proof_rules.specs.State.{State}
use Rattle.proof_text.specs.Writable.{IsStepWritable}
use Rattle.proof_log.specs.Log.{CanBeWritten, Logbook, IsLegal, improvement, value_list}
use Rattle.proof_log.proofs.Growing.{logbook, put_last}
use Rattle.proof_log.proofs.Taking.{Holds, goes_on_by, has_taken, improved, is_kept}
use Rattle.proof_log.proofs.log.Log.improve.Given.{Over}
use Rattle.proof_log.proofs.log.Log.improve.Goals as goal
use Rattle.proof_log.proofs.log.Log.improve.Goals.{Joined-step-4}

pub keep_legal-requires-clause-writable : goal.keep_legal-requires-clause-writable
keep_legal-requires-clause-writable g c =
    let step : Step = kinds.Soli c.args.assigned in
    subst (λ names. IsStepWritable (length names) step) (sym c.names.ensures.names) (subst (λ (l : Logbook). CanBeWritten l step) (sym c.self.view_is) c.requires.writable)

pub keep_legal-requires-clause-legal : goal.keep_legal-requires-clause-legal
keep_legal-requires-clause-legal g c =
    let log = c.self.inside in
    let step : Step = kinds.Soli c.args.assigned in
    subst (λ q. (t : State) × Legal q log.kernel.state step t) (sym c.self.invariant.0) (subst (λ (l : Logbook). IsLegal l step) (sym c.self.view_is) c.requires.legal)

-- the value that was kept is the least one now
value_kept : (g : Over) (c : Joined-step-4 g)
    → set c.push.new.self.items (c.len-place.result - 1) (to_z w128 (of_z w128 c.in-Some.value))
    ≡ c.self.inside.improved.items ++ improvement (kinds.Soli c.args.assigned) c.keep_legal.new.kernel.state
value_kept g c =
    let log = c.self.inside in
    let new : State = c.keep_legal.new.kernel.state in
    let fits : FitsSigned w128 c.in-Some.value = search rules in
    let least : new.least ≡ Some c.in-Some.value = sym c.least_value.ensures ∙ c.in-Some.is in
    let long : vec_len c.push.new.self ≡ length c.push.new.self.items = search rules in
    ap (λ v. set c.push.new.self.items (c.len-place.result - 1) v) (to_z-of_z w128 c.in-Some.value fits)
    ∙ put_last log.improved.items c.push.new.self.items (pos 0) c.in-Some.value c.len-place.result c.in_ok-push.ensures.items (c.len-place.ensures ∙ long)
    ∙ ap (λ o. log.improved.items ++ value_list o) (sym least)

pub invariant_of-self-2 : goal.invariant_of-self-2
invariant_of-self-2 g c =
    let log = c.self.inside in
    let step : Step = kinds.Soli c.args.assigned in
    let l : Logbook = logbook log.source.now log.text.items log.kernel.state log.improved.items log.biting log.conclusion log.asking in
    let values : List ℤ = set c.push.new.self.items (c.len-place.result - 1) (to_z w128 (of_z w128 c.in-Some.value)) in
    let kept = is_kept c.args.self.now l c.names.result.now step c.keep_legal.new.text.items log.kernel c.keep_legal.new.kernel c.self.view_is c.self.invariant.0 refl c.names.ensures.names c.requires.writable c.in-Ok.ensures.ok in
    let held : Holds l = (c.self.invariant.1, c.self.invariant.2, c.self.invariant.3) in
    let all = improved l c.args.assigned c.keep_legal.new.text.items c.keep_legal.new.kernel.state values c.replace.new.dest _ c.reveal.ensures held kept (value_kept g c) c.replace.ensures.after c.in-Ok.ensures.id in
    (c.in-Ok.ensures.ok.problem ∙ c.self.invariant.0, all.0, all.1, all.2)

pub returns-clause-improved : goal.returns-clause-improved
returns-clause-improved g c =
    value_kept g c ∙ ap (λ (l : Logbook). l.improved ++ value_list c.keep_legal.new.kernel.state.least) c.self.view_is

pub returns-clause-taken : goal.returns-clause-taken
returns-clause-taken g c =
    let log = c.self.inside in
    let l : Logbook = logbook log.source.now log.text.items log.kernel.state log.improved.items log.biting log.conclusion log.asking in
    let kept = is_kept c.args.self.now l c.names.result.now (kinds.Soli c.args.assigned) c.keep_legal.new.text.items log.kernel c.keep_legal.new.kernel c.self.view_is c.self.invariant.0 refl c.names.ensures.names c.requires.writable c.in-Ok.ensures.ok in has_taken c.args.self.now l _ (kinds.Soli c.args.assigned) c.self.view_is kept c.replace.ensures.after

pub returns-clause-goes_on : goal.returns-clause-goes_on
returns-clause-goes_on g c =
    let log = c.self.inside in
    let l : Logbook = logbook log.source.now log.text.items log.kernel.state log.improved.items log.biting log.conclusion log.asking in
    let kept = is_kept c.args.self.now l c.names.result.now (kinds.Soli c.args.assigned) c.keep_legal.new.text.items log.kernel c.keep_legal.new.kernel c.self.view_is c.self.invariant.0 refl c.names.ensures.names c.requires.writable c.in-Ok.ensures.ok in goes_on_by c.args.self.now l _ (kinds.Soli c.args.assigned) c.self.view_is refl kept
