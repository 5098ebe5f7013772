-- A proof grows by a legal step, and then nothing is concluded from it yet.
use Rattle.std.proofs.Common.{◌≡◌, inl, inr, ℕ, ◌+◌, ◌-◌, ◌≤◌, ℤ, pos, append_assoc, List, [], ◌∷◌, ◌++◌, Bool, length, set, Option, None, refl, sym, ap, subst, ◌∙◌, arith}
use Rattle.std.proofs.Math.Seq.{set-append_seam}
use Rattle.std.proofs.lemmas.List.{append-nil, length-append}
use Rattle.pb_text.specs.Number.{largest_number}
use Rattle.linear.specs.Opb.{Opb}
use Rattle.linear.specs.Table.{IsTable}
use Rattle.proof_steps.specs.declared.conclusion.Conclusion.{Conclusion}
use Rattle.proof_steps.specs.declared.conclusion.Conclusion.TheVariants.{Nothing}
use Rattle.proof_steps.specs.declared.step.Step.{Step}
use Rattle.proof_steps.specs.declared.step.Step.TheVariants as kinds
use Rattle.proof_rules.specs.Claim.{Claim}
use Rattle.proof_rules.specs.Forms.{problem_ids}
use Rattle.proof_rules.specs.Justified.{IsLegalProof}
use Rattle.proof_rules.proofs.Concluding.{justified_claim}
use Rattle.proof_rules.proofs.FileForms.{start_preserved, start_normal}
use Rattle.proof_rules.proofs.Preserving.{steps_preserve}
use Rattle.proof_rules.specs.Fault.{IsConclusionFault}
use Rattle.proof_rules.specs.Legal.{Legal, Leads}
use Rattle.proof_rules.specs.State.{State, IsOutside, IsStart}
use Rattle.proof_rules.specs.declared.fault.StepFault.{StepFault}
use Rattle.proof_rules.specs.declared.fault.StepFault.TheVariants as faults
use Rattle.proof_rules.proofs.ConclusionJudged.{faultless_justified}
use Rattle.kernel.proofs.Deleting.{del_outside}
use Rattle.proof_text.specs.ProofSpells.{SpellsProof}
use Rattle.proof_text.specs.Sections.{StepStands, behind_step}
use Rattle.proof_text.specs.Steps.{IsProper}
use Rattle.proof_text.specs.Writable.{IsConclusionWritable, IsStepWritable}
use Rattle.proof_text.specs.declared.line.Section.TheVariants as sections
use Rattle.proof_write.specs.Whole.{AreWritten, first_lines, last_lines, step_line}
use Rattle.proof_write.specs.Writing.{line_text, step_words}
use Rattle.proof_write.proofs.TextGrows.{nothing_written, no_more_steps, one_more_written, written_spells}
use Rattle.proof_log.specs.Log.{IsSpelledBy, Logbook, StepBites, LeadsBiting, LeadsImproving, improvement, ImprovesIfAsked, ImprovesNothing, IsEntitled, IsProof, StandsAlone}
use Rattle.proof_log.proofs.Worth.{all_improve_more, none_logged}

-- the last element is changed
pub put_last : (xs ys : List ℤ) (z v : ℤ) (n : ℕ) → ys ≡ xs ++ z ∷ [] → n ≡ length ys → set ys (n - 1) v ≡ xs ++ v ∷ []
put_last xs ys z v n is long =
    let count : n - 1 ≡ length xs = omega (arith, long, ap length is, length-append xs (z ∷ [])) in
    ap (λ k. set ys k v) count ∙ ap (λ zs. set zs (length xs) v) is ∙ set-append_seam xs z [] v

-- other steps improve nothing
pub no_improvement : (step : Step) (t : State) (values : List ℤ) → ImprovesNothing step → values ++ improvement step t ≡ values
no_improvement (kinds.Pol items) t values h = append-nil values
no_improvement (kinds.Rup c) t values h = append-nil values
no_improvement (kinds.Red c images) t values h = append-nil values
no_improvement (kinds.Sol assigned) t values h = append-nil values
no_improvement (kinds.Soli assigned) t values h = absurd h
no_improvement (kinds.Del ids) t values h = append-nil values
no_improvement (kinds.RedBegin c images) t values h = append-nil values
no_improvement (kinds.Goal name) t values h = append-nil values
no_improvement kinds.End t values h = append-nil values

pub biting_other : (s : State) (step : Step) → StepBites s step → ImprovesNothing step
biting_other s (kinds.Pol items) h = tt
biting_other s (kinds.Rup c) h = tt
biting_other s (kinds.Red c images) h = absurd h
biting_other s (kinds.Sol assigned) h = absurd h
biting_other s (kinds.Soli assigned) h = absurd h
biting_other s (kinds.Del ids) h = absurd h
biting_other s (kinds.RedBegin c images) h = absurd h
biting_other s (kinds.Goal name) h = absurd h
biting_other s kinds.End h = absurd h

pub biting_alone : (s : State) (step : Step) → StepBites s step → StandsAlone step
biting_alone s (kinds.Pol items) h = tt
biting_alone s (kinds.Rup c) h = tt
biting_alone s (kinds.Red c images) h = absurd h
biting_alone s (kinds.Sol assigned) h = absurd h
biting_alone s (kinds.Soli assigned) h = absurd h
biting_alone s (kinds.Del ids) h = absurd h
biting_alone s (kinds.RedBegin c images) h = absurd h
biting_alone s (kinds.Goal name) h = absurd h
biting_alone s kinds.End h = absurd h

biting_asked : (p : Opb) (s : State) (step : Step) → StepBites s step → ImprovesIfAsked p step
biting_asked p s (kinds.Pol items) h = tt
biting_asked p s (kinds.Rup c) h = tt
biting_asked p s (kinds.Red c images) h = tt
biting_asked p s (kinds.Sol assigned) h = absurd h
biting_asked p s (kinds.Soli assigned) h = tt
biting_asked p s (kinds.Del ids) h = tt
biting_asked p s (kinds.RedBegin c images) h = tt
biting_asked p s (kinds.Goal name) h = tt
biting_asked p s kinds.End h = tt

-- outside blocks `NONE` is always justified
pub nothing_justified : (p : Opb) (s : State) → IsOutside s → IsEntitled p s Nothing
nothing_justified p s outside = faultless_justified p s Nothing never
  where
    never : (f : StepFault) → IsConclusionFault p s Nothing f → ⊥
    never faults.BlockOpen inside = inside outside
    never f h = h.1

-- a step that stands alone leaves no block open
pub stays_outside : (p : Opb) (s t : State) (step : Step) → StandsAlone step → Legal p s step t → IsOutside s → IsOutside t
stays_outside p s t (kinds.Pol items) alone (m, written, adds) outside = ap (λ (u : State). u.block) adds.1 ∙ outside
stays_outside p s t (kinds.Rup c) alone (m, admitted, shown, adds) outside = ap (λ (u : State). u.block) adds.1 ∙ outside
stays_outside p s t (kinds.Red c images) alone (_, (m, k, admitted, redundant, adds)) outside = ap (λ (u : State). u.block) adds.1 ∙ outside
stays_outside p s t (kinds.Sol assigned) alone (_, (g, logs, is)) outside = ap (λ (u : State). u.block) is ∙ outside
stays_outside p s t (kinds.Soli assigned) alone (_, (objective, g, m, improves, is)) outside = ap (λ (u : State). u.block) is ∙ outside
stays_outside p s t (kinds.Del ids) alone (_, legal) outside = del_outside s t ids legal outside
stays_outside p s t (kinds.RedBegin c images) alone legal outside = absurd alone
stays_outside p s t (kinds.Goal name) alone legal outside = absurd alone
stays_outside p s t kinds.End alone legal outside = absurd alone

-- and may be written where no block is open
stands_outside : (step : Step) → StandsAlone step → StepStands sections.Step step
stands_outside (kinds.Pol items) alone = inl refl
stands_outside (kinds.Rup c) alone = inl refl
stands_outside (kinds.Red c images) alone = refl
stands_outside (kinds.Sol assigned) alone = refl
stands_outside (kinds.Soli assigned) alone = refl
stands_outside (kinds.Del ids) alone = refl
stands_outside (kinds.RedBegin c images) alone = absurd alone
stands_outside (kinds.Goal name) alone = absurd alone
stands_outside kinds.End alone = absurd alone

opens_nothing : (step : Step) → StandsAlone step → behind_step sections.Step step ≡ sections.Step
opens_nothing (kinds.Pol items) alone = refl
opens_nothing (kinds.Rup c) alone = refl
opens_nothing (kinds.Red c images) alone = refl
opens_nothing (kinds.Sol assigned) alone = refl
opens_nothing (kinds.Soli assigned) alone = refl
opens_nothing (kinds.Del ids) alone = refl
opens_nothing (kinds.RedBegin c images) alone = absurd alone
opens_nothing (kinds.Goal name) alone = absurd alone
opens_nothing kinds.End alone = absurd alone

-- one more legal step
pub leads_push : (p : Opb) (a b c : State) (before : List Step) (step : Step) → Leads p a before b → Legal p b step c → Leads p a (before ++ step ∷ []) c
leads_push p a b c [] step same legal = (c, subst (λ s. Legal p s step c) same legal, refl)
leads_push p a b c (x ∷ xs) step (between, first, rest) legal = (between, first, leads_push p between b c xs step rest legal)

pub bites_push : (p : Opb) (a b c : State) (before : List Step) (step : Step) (count : ℕ) → LeadsBiting p a before b count → Legal p b step c
    → LeadsBiting p a (before ++ step ∷ []) c count
bites_push p a b c [] step count (same, none) legal = (c, subst (λ s. Legal p s step c) same legal, inl (refl, none))
bites_push p a b c (x ∷ xs) step count (between, first, inl rest) legal = (between, first, inl (bites_push p between b c xs step count rest legal))
bites_push p a b c (x ∷ xs) step count (between, first, inr (fewer, is, here, rest)) legal =
    (between, first, inr (fewer, is, here, bites_push p between b c xs step fewer rest legal))

-- with the value that it improves to, if it does
pub improves_push : (p : Opb) (a b c : State) (before : List Step) (step : Step) (values : List ℤ) → LeadsImproving p a before b values → Legal p b step c
    → LeadsImproving p a (before ++ step ∷ []) c (values ++ improvement step c)
improves_push p a b c [] step values (same, none) legal =
    (c, subst (λ s. Legal p s step c) same legal, ([], ap (λ vs. vs ++ improvement step c) none ∙ sym (append-nil (improvement step c)), (refl, refl)))
improves_push p a b c (x ∷ xs) step values (between, first, (later, is, rest)) legal =
    (between, first, (later ++ improvement step c, ap (λ vs. vs ++ improvement step c) is ∙ append_assoc (improvement x between) later (improvement step c), improves_push p between b c xs step later rest legal))

-- one more that bites
pub bites_push_one : (p : Opb) (a b c : State) (before : List Step) (step : Step) (count : ℕ) → LeadsBiting p a before b count → Legal p b step c → StepBites b step
    → LeadsBiting p a (before ++ step ∷ []) c (count + 1)
bites_push_one p a b c [] step count (same, none) legal here =
    (c, subst (λ s. Legal p s step c) same legal, inr (count, refl, subst (λ s. StepBites s step) same here, (refl, none)))
bites_push_one p a b c (x ∷ xs) step count (between, first, inl rest) legal here = (between, first, inl (bites_push_one p between b c xs step count rest legal here))
bites_push_one p a b c (x ∷ xs) step count (between, first, inr (fewer, is, there, rest)) legal here =
    (between, first, inr (fewer + 1, omega (arith, is), there, bites_push_one p between b c xs step fewer rest legal here))

-- no more steps bite than there are
pub no_more_bites : (p : Opb) (a b : State) (all : List Step) (count : ℕ) → LeadsBiting p a all b count → count ≤ length all
no_more_bites p a b [] count (same, none) = omega (arith, none)
no_more_bites p a b (x ∷ xs) count (between, first, inl rest) = omega (arith, no_more_bites p between b xs count rest)
no_more_bites p a b (x ∷ xs) count (between, first, inr (fewer, is, here, rest)) = omega (arith, is, no_more_bites p between b xs fewer rest)

-- a log with this conclusion, whose constraint of this id asks for a better solution
abbrev pub logbook : Opb → List ℕ → State → List ℤ → ℕ → Conclusion → Option ℕ → Logbook
logbook p text state values count conclusion asking =
    record { problem = p; text = text; state = state; improved = values; biting = count; conclusion = conclusion; asking = asking }

pub starts : (p : Opb) (s : State) (text : List ℕ) (values : List ℤ) → text ≡ first_lines (problem_ids p.constraints) → values ≡ [] → IsTable p.names → problem_ids p.constraints ≤ largest_number → IsStart p s
    → IsProof (logbook p text s values 0 Nothing None)
starts p s text values first nothing table few start = record {
  steps = [];
  written = nothing_written text p.names (problem_ids p.constraints) first table few;
  start = s;
  starts = start;
  leads = refl;
  improves = (refl, nothing);
  solutions = none_logged p s values start nothing;
  bites = (refl, refl);
  entitled = nothing_justified p s (ap (λ (u : State). u.block) start.2);
}

-- one more step, which can be written
abbrev pub IsWrittenBehind : Opb → List ℕ → Step → List ℕ → Type 0
IsWrittenBehind p text step new = (new ≡ text ++ step_line p.names step) × IsStepWritable (length p.names) step × IsProper step

pub written_behind : (p : Opb) (text : List ℕ) (step : Step) (new : List ℕ) (names : List (List ℕ)) → names ≡ p.names → new ≡ text ++ step_line names step → IsStepWritable (length p.names) step → IsProper step
    → IsWrittenBehind p text step new
written_behind p text step new names same is writable proper = (is ∙ ap (λ ns. text ++ step_line ns step) same, writable, proper)

one_more : (l : Logbook) (step : Step) (new : List ℕ) → (proof : IsProof l) → IsWrittenBehind l.problem l.text step new → StandsAlone step
    → AreWritten new l.problem.names (problem_ids l.problem.constraints) (proof.steps ++ step ∷ [])
one_more l step new proof (is, writable, proper) alone =
    let count = problem_ids l.problem.constraints in
    subst (λ t. AreWritten t l.problem.names count (proof.steps ++ step ∷ [])) (sym is)
    (one_more_written l.text l.problem.names count proof.steps step proof.written writable proper (stands_outside step alone) (opens_nothing step alone))

pub grows : (p : Opb) (text new : List ℕ) (s t : State) (values : List ℤ) (count : ℕ) (conclusion : Conclusion) (asking later : Option ℕ) (step : Step)
    → IsProof (logbook p text s values count conclusion asking)
    → IsWrittenBehind p text step new → StandsAlone step → ImprovesIfAsked p step → Legal p s step t
    → IsProof (logbook p new t (values ++ improvement step t) count Nothing later)
grows p text new s t values count conclusion asking later step proof behind alone asked legal = record {
  steps = proof.steps ++ step ∷ [];
  written = one_more (logbook p text s values count conclusion asking) step new proof behind alone;
  start = proof.start;
  starts = proof.starts;
  leads = leads_push p proof.start s t proof.steps step proof.leads legal;
  improves = improves_push p proof.start s t proof.steps step values proof.improves legal;
  solutions = all_improve_more p s t values step asked legal proof.solutions;
  bites = bites_push p proof.start s t proof.steps step count proof.bites legal;
  entitled = nothing_justified p t (stays_outside p s t step alone legal proof.entitled.1.0);
}

pub grows_biting : (p : Opb) (text new : List ℕ) (s t : State) (values : List ℤ) (count : ℕ) (conclusion : Conclusion) (asking : Option ℕ) (step : Step)
    → IsProof (logbook p text s values count conclusion asking)
    → IsWrittenBehind p text step new → Legal p s step t → StepBites s step → IsProof (logbook p new t (values ++ improvement step t) (count + 1) Nothing asking)
grows_biting p text new s t values count conclusion asking step proof behind legal here = record {
  steps = proof.steps ++ step ∷ [];
  written = one_more (logbook p text s values count conclusion asking) step new proof behind (biting_alone s step here);
  start = proof.start;
  starts = proof.starts;
  leads = leads_push p proof.start s t proof.steps step proof.leads legal;
  improves = improves_push p proof.start s t proof.steps step values proof.improves legal;
  solutions = all_improve_more p s t values step (biting_asked p s step here) legal proof.solutions;
  bites = bites_push_one p proof.start s t proof.steps step count proof.bites legal here;
  entitled = nothing_justified p t (stays_outside p s t step (biting_alone s step here) legal proof.entitled.1.0);
}

-- each step that bites takes a byte at least
pub biting_within : (l : Logbook) → IsProof l → l.biting ≤ length l.text
biting_within l proof =
    let few = no_more_bites l.problem proof.start l.state proof.steps l.biting proof.bites in
    let long = no_more_steps l.text l.problem.names (problem_ids l.problem.constraints) proof.steps proof.written in
    omega (arith, few, long)

-- and the line of a step is longer than nothing
pub line_longer : (names : List (List ℕ)) (old new : List ℕ) (step : Step) → new ≡ old ++ step_line names step → length old + 1 ≤ length new
line_longer names old new step is =
    let all = ap length is ∙ length-append old (step_line names step) in
    let line = length-append (line_text (step_words names step)) (10 ∷ []) in
    omega (arith, all, line)

-- a conclusion that the state entitles to
pub concluded : (p : Opb) (text : List ℕ) (s : State) (values : List ℤ) (count : ℕ) (old new : Conclusion) (asking : Option ℕ) → IsProof (logbook p text s values count old asking) → IsEntitled p s new
    → IsProof (logbook p text s values count new asking)
concluded p text s values count old new asking proof entitled = record {
  steps = proof.steps;
  written = proof.written;
  start = proof.start;
  starts = proof.starts;
  leads = proof.leads;
  improves = proof.improves;
  solutions = proof.solutions;
  bites = proof.bites;
  entitled = entitled;
}

-- biting or not, the steps lead
pub leads_of : (p : Opb) (a b : State) (all : List Step) (count : ℕ) → LeadsBiting p a all b count → Leads p a all b
leads_of p a b [] count (same, none) = same
leads_of p a b (x ∷ xs) count (between, first, inl rest) = (between, first, leads_of p between b xs count rest)
leads_of p a b (x ∷ xs) count (between, first, inr (fewer, is, here, rest)) = (between, first, leads_of p between b xs fewer rest)

-- with the last lines, the text of a log spells its steps
pub spells : (l : Logbook) (proof : List ℕ) → IsProof l → IsConclusionWritable (length l.problem.names) l.conclusion → proof ≡ l.text ++ last_lines l.problem.names l.conclusion → IsSpelledBy l proof
spells l proof p writable is = record {
  text = is;
  steps = p.steps;
  spelled = subst (λ t. SpellsProof t l.problem.names (pos (problem_ids l.problem.constraints)) p.steps l.conclusion) (sym is)
      (written_spells l.text l.problem.names (problem_ids l.problem.constraints) p.steps l.conclusion p.written writable);
  start = p.start;
  starts = p.starts;
  leads = p.leads;
}

pub legal_steps : (l : Logbook) (p : IsProof l) → IsLegalProof l.problem p.steps l.conclusion p.entitled.0
legal_steps l p = record { start = p.start; end = l.state; starts = p.starts; leads = p.leads; justified = p.entitled.1 }

-- so what spells a log spells a legal proof of its conclusion
pub proves : (l : Logbook) (proof : List ℕ) → IsProof l → (w : IsSpelledBy l proof) → (best : Option (List Bool)) × IsLegalProof l.problem w.steps l.conclusion best
proves l proof p w =
    (p.entitled.0, record { start = w.start; end = l.state; starts = w.starts; leads = w.leads; justified = p.entitled.1 })

-- what it concludes is true
pub proved_true : (l : Logbook) → IsProof l → (best : Option (List Bool)) × Claim l.problem l.conclusion best
proved_true l proof =
    let kept = steps_preserve l.problem proof.start proof.steps l.state (start_preserved l.problem proof.start proof.starts) (start_normal l.problem proof.start proof.starts) proof.leads in
    (proof.entitled.0, justified_claim l.problem l.state l.conclusion proof.entitled.0 kept.0 kept.1 proof.entitled.1)
