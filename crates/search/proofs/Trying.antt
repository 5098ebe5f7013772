-- Steps that are tried one after the other.
use Rattle.std.proofs.Common.{◌≡◌, ◌≢◌, ℕ, zero, suc, arith, ◌+◌, ◌<◌, List, [], ◌∷◌, ◌++◌, inl, inr, map, length, get_or, take, refl, sym, ap, subst, ◌∙◌}
use Rattle.std.proofs.lemmas.List.{map-append, take_more}
use Rattle.linear.specs.declared.term.Var.{Var}
use Rattle.substitution.specs.Images.{NamesOnce}
use Rattle.substitution.specs.declared.image.Image.{Image}
use Rattle.proof_rules.specs.Fault.{OrMemory}
use Rattle.proof_rules.specs.declared.fault.StepFault.{StepFault}
use Rattle.proof_rules.specs.declared.fault.StepFault.TheVariants as faults
use Rattle.proof_steps.specs.declared.step.Step.{Step}
use Rattle.proof_log.specs.Log.{GoesOn, Logbook}
use Rattle.search.specs.Presolving.{Tries, TriesAll}
use Rattle.search.proofs.GoingOn.{goes_on_kept, goes_on_more, goes_on_same}

tries_push : (steps : List Step) (step : Step) (a b c : Logbook) → TriesAll steps a b → Tries step b c → TriesAll (steps ++ step ∷ []) a c
tries_push [] step a b c same tried = (c, subst (λ x. Tries step x c) same tried, refl)
tries_push (s ∷ ss) step a b c (m, first, later) tried = (m, first, tries_push ss step m b c later tried)

-- steps one after the other, in two parts
pub tries_both : (first second : List Step) (a b c : Logbook) → TriesAll first a b → TriesAll second b c → TriesAll (first ++ second) a c
tries_both [] second a b c same later = subst (λ x. TriesAll second x c) same later
tries_both (s ∷ ss) second a b c (m, here, rest) later = (m, here, tries_both ss second m b c rest later)

-- one more step
pub tries_more : {X : Type 0} (step_of : X → Step) (xs : List X) (i : ℕ) (d : X) (a b c : Logbook) → i < length xs → TriesAll (map step_of (take i xs)) a b → Tries (step_of (get_or xs i d)) b c → TriesAll (map step_of (take (i + 1) xs)) a c
tries_more step_of xs i d a b c h before tried =
    subst (λ (steps : List Step). TriesAll steps a c) (sym (ap (map step_of) (take_more xs i d h) ∙ map-append step_of (take i xs) (get_or xs i d ∷ [])))
    (tries_push (map step_of (take i xs)) (step_of (get_or xs i d)) a b c before tried)

-- what is not out of memory is a fault
pub refused : (condition : Type 0) (fault : StepFault) → fault ≢ faults.OutOfMemory → OrMemory fault condition → condition
refused condition faults.OutOfMemory other h = absurd (other refl)
refused condition fault other h = h

-- two variables that differ stand once each
pub two_named : (a b : Var × Image) → (a.0.0 ≡ b.0.0 → ⊥) → NamesOnce (a ∷ b ∷ [])
two_named a b other zero zero d before within = absurd (omega (arith, before))
two_named a b other zero (suc zero) d before within = other
two_named a b other zero (suc (suc j)) d before within = absurd (omega (arith, within))
two_named a b other (suc i) zero d before within = absurd (omega (arith, before))
two_named a b other (suc i) (suc zero) d before within = absurd (omega (arith, before))
two_named a b other (suc i) (suc (suc j)) d before within = absurd (omega (arith, within))

-- what is tried is no lesson
pub tries_no_lesson : (steps : List Step) (a b : Logbook) → TriesAll steps a b → b.biting ≡ a.biting
tries_no_lesson [] a b same = ap (λ (l : Logbook). l.biting) same
tries_no_lesson (s ∷ ss) a b (m, inl enters, rest) = tries_no_lesson ss m b rest ∙ enters.biting
tries_no_lesson (s ∷ ss) a b (m, inr left, rest) = tries_no_lesson ss m b rest ∙ ap (λ (l : Logbook). l.biting) left.same

-- and the log goes on, whatever enters it
pub tries_go_on : (steps : List Step) (a b : Logbook) → TriesAll steps a b → GoesOn a b
tries_go_on [] a b same = goes_on_same a b same
tries_go_on (s ∷ ss) a b (m, inl enters, rest) = goes_on_more a m b (goes_on_kept a m s enters.problem enters.text) (tries_go_on ss m b rest)
tries_go_on (s ∷ ss) a b (m, inr left, rest) = goes_on_more a m b (goes_on_same a m left.same) (tries_go_on ss m b rest)
