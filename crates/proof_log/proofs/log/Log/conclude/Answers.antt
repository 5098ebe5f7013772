use Rattle.std.proofs.Common.{◌≡◌, sym, ap, subst, ◌∙◌}
use Rattle.linear.specs.Opb.{Opb}
use Rattle.kernel.specs.Held.{Held}
use Rattle.proof_log.specs.Kept.{FileStands, ImprovementStands}
use Rattle.proof_log.specs.Log.{Logbook, IsEntitled, IsProof}
use Rattle.proof_log.specs.Named.{LiveIsNamed}
use Rattle.proof_log.proofs.Growing.{concluded, logbook}
use Rattle.proof_log.proofs.log.Log.conclude.Goals as goal

pub invariant_of-self-2 : goal.invariant_of-self-2
invariant_of-self-2 g c =
    let log = c.self.inside in
    let p : Opb = log.source.now in
    let same : c.conclude.new.self ≡ log.kernel = c.conclude.ensures.same in
    let judged : IsEntitled log.kernel.problem log.kernel.state c.args.conclusion = (c.in_ok-conclude.field-0.best, c.in_ok-conclude.ensures.justified) in
    let entitled : IsEntitled p log.kernel.state c.args.conclusion = subst (λ q. IsEntitled q log.kernel.state c.args.conclusion) c.self.invariant.0 judged in
    let proof : IsProof (logbook p log.text.items log.kernel.state log.improved.items log.biting c.args.conclusion log.asking) =
    concluded p log.text.items log.kernel.state log.improved.items log.biting log.conclusion c.args.conclusion log.asking c.self.invariant.1 entitled in (
      ap (λ (k : Held). k.problem) same ∙ c.self.invariant.0,
      subst (λ x. IsProof (logbook p log.text.items c.conclude.new.self.state log.improved.items log.biting x log.asking)) (sym c.replace.ensures.after)
          (subst (λ (k : Held). IsProof (logbook p log.text.items k.state log.improved.items log.biting c.args.conclusion log.asking)) (sym same) proof),
      record {
        file = subst (λ (k : Held). FileStands p k.state) (sym same) c.self.invariant.2.file;
        improvement = subst (λ (k : Held). ImprovementStands p log.asking k.state) (sym same) c.self.invariant.2.improvement;
      },
      subst (λ (k : Held). LiveIsNamed p k.state) (sym same) c.self.invariant.3,
    )

pub returns-clause-justified : goal.returns-clause-justified
returns-clause-justified g c =
    let log = c.self.inside in
    let judged : IsEntitled log.kernel.problem log.kernel.state c.args.conclusion = (c.in_ok-conclude.field-0.best, c.in_ok-conclude.ensures.justified) in
    subst (λ (l : Logbook). IsEntitled l.problem l.state c.args.conclusion) c.self.view_is
    (subst (λ q. IsEntitled q log.kernel.state c.args.conclusion) c.self.invariant.0 judged)
