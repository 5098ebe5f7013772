-- A text is one proof of a problem: it spells one list of steps and one conclusion, and legal steps lead to one state.
use Rattle.std.proofs.Common.{◌≡◌, ℕ, pos, Bool, Option, List, [], ◌∷◌, sym, ap, subst, ◌∙◌}
use Rattle.linear.specs.Opb.{Opb}
use Rattle.kernel.specs.Accepted.{Judgement}
use Rattle.proof_rules.proofs.OneStart.{one_start}
use Rattle.proof_rules.proofs.OneState.{one_state, one_justified}
use Rattle.proof_rules.specs.Forms.{problem_ids}
use Rattle.proof_rules.specs.Justified.{IsJustified}
use Rattle.proof_rules.specs.Legal.{Leads}
use Rattle.proof_rules.specs.State.{State}
use Rattle.proof_steps.specs.declared.conclusion.Conclusion.{Conclusion}
use Rattle.proof_steps.specs.declared.step.Step.{Step}
use Rattle.proof_text.proofs.OneReading.{one_proof}
use Rattle.checker.specs.Verdicts.{IsProved}

-- legal steps lead to one state
one_end : (p : Opb) (s t u : State) (steps : List Step) → Leads p s steps t → Leads p s steps u → t ≡ u
one_end p s t u [] x y = x ∙ sym y
one_end p s t u (step ∷ steps) x y =
    let same = one_state p s x.0 y.0 step x.1 y.1 in
    one_end p y.0 t u steps (subst (λ r. Leads p r steps t) same x.2) y.2

same_judgement : (a b : Judgement) → a.conclusion ≡ b.conclusion → a.best ≡ b.best → a ≡ b
same_judgement a b conclusion best =
    ap (λ c. judgement c a.best) conclusion ∙ ap (λ g. judgement b.conclusion g) best
  where
    judgement : Conclusion → Option (List Bool) → Judgement
    judgement c g = record { conclusion = c; best = g }

pub one_proof_of : (p : Opb) (proof : List ℕ) (a b : Judgement) (x : IsProved p proof a) (y : IsProved p proof b) → (x.steps ≡ y.steps) × (a ≡ b)
one_proof_of p proof a b x y =
    let count = pos (problem_ids p.constraints) in
    let same = one_proof proof p.names count count x.steps y.steps a.conclusion b.conclusion x.spelled y.spelled in
    let begun = one_start p x.legal.start y.legal.start x.legal.starts y.legal.starts in
    let leads = subst (λ s. Leads p s y.steps x.legal.end) begun (subst (λ xs. Leads p x.legal.start xs x.legal.end) same.1 x.legal.leads) in
    let ended = one_end p y.legal.start x.legal.end y.legal.end y.steps leads y.legal.leads in
    let there = subst (λ s. IsJustified p s b.conclusion a.best) ended (subst (λ c. IsJustified p x.legal.end c a.best) same.2 x.legal.justified) in
    (same.1, same_judgement a b same.2 (one_justified p y.legal.end b.conclusion a.best b.best there y.legal.justified))
