-- What conclusions ask of the state behind a hint, and their faults there.
use Rattle.std.proofs.Common.{◌≡◌, ◌≢◌, ℤ, ◌<ℤ◌, ◌≤ℤ◌, inl, inr, Bool, false, is_some, List, [], ◌∷◌, Option, Some, None, Any, IfSome, length, refl, sym, ap, subst, ◌∙◌, arith}
use Rattle.std.proofs.lemmas.Bool.{false≢true}
use Rattle.std.proofs.lemmas.Int.{ints}
use Rattle.std.proofs.lemmas.List.{length-append}
use Rattle.std.proofs.lemmas.List.Elements.{All-contains}
use Rattle.std.proofs.Math.Seq.{get_or-append_seam}
use Rattle.linear.specs.declared.term.Lit.{Lit}
use Rattle.linear.specs.declared.term.Term.{Term}
use Rattle.linear.specs.Opb.{Opb}
use Rattle.proof_steps.specs.declared.conclusion.Lower.{Lower}
use Rattle.proof_steps.specs.declared.conclusion.Lower.TheVariants as lowers
use Rattle.proof_steps.specs.declared.conclusion.Upper.{Upper}
use Rattle.proof_steps.specs.declared.conclusion.Upper.TheVariants as uppers
use Rattle.proof_rules.specs.declared.fault.StepFault.{StepFault}
use Rattle.proof_rules.specs.Claim.{ClaimsUpper}
use Rattle.proof_rules.specs.Fault as judging
use Rattle.proof_rules.specs.Fault.{IsBoundFault}
use Rattle.proof_rules.specs.Justified.{EntitlesLower, EntitlesUpper, TakesHint, IsBest}
use Rattle.proof_rules.specs.Legal.{with_solution, worth_of}
use Rattle.proof_rules.specs.State.{State}
use Rattle.proof_rules.proofs.ConclusionJudged.{one_hint}
use Rattle.proof_rules.proofs.Concluding.{best_least}
use Rattle.proof_rules.proofs.Deciding.{less_or_not}
use Rattle.kernel.specs.Held.{with_extra}

-- what is judged behind a hint, in the one state that it leads to
pub behind : (p : Opb) (s t : State) (hint : Option (List Lit)) (condition : State → Type 0) → TakesHint p s hint t → condition t → judging.IsBehindHint p s hint condition
behind p s t hint condition takes h = ((t, takes), λ u also. subst condition (one_hint p s hint t u takes also) h)

-- above the least one
pub not_admitted : (o : Option ℤ) (v : ℤ) → (IfSome o (λ least. v ≤ℤ least) → ⊥) → (least : ℤ) × (o ≡ Some least) × (least <ℤ v)
not_admitted None v fails = absurd (fails tt)
not_admitted (Some least) v fails = (least, refl, elim (less_or_not least v) as (λ _. least <ℤ v) [ inl less ↦ less | inr h ↦ absurd (fails h) ])

-- with a best solution something is logged
pub some_logged : (p : Opb) (logged : List (List Bool)) (g : List Bool) → IsBest p logged (Some g) → logged ≢ []
some_logged p logged g (before, behind', is, less, least) empty = absurd (omega (arith, ap length (sym is ∙ empty), length-append before (g ∷ behind')))

-- the best solution tells whether some logged one is worth no more
pub upper_entitled : (p : Opb) (s : State) (upper : Upper) (best : Option (List Bool)) → IsBest p s.logged best → ClaimsUpper p upper best → EntitlesUpper p s upper
upper_entitled p s uppers.Inf best is h = tt
upper_entitled p s (uppers.At bound) None is h = absurd h
upper_entitled p s (uppers.At bound) (Some g) (before, behind', is, less, least) h =
    subst (Any (λ x. worth_of p x ≤ℤ bound)) (sym is)
    (length before, g, omega (arith, length-append before (g ∷ behind')), get_or-append_seam before g behind' g, h)

pub upper_claimed : (p : Opb) (s : State) (upper : Upper) (best : Option (List Bool)) → IsBest p s.logged best → EntitlesUpper p s upper → ClaimsUpper p upper best
upper_claimed p s uppers.Inf best is h = tt
upper_claimed p s (uppers.At bound) None empty (i, g, below, is, worth) = absurd (omega (arith, below, ap length empty))
upper_claimed p s (uppers.At bound) (Some best) b (i, g, below, is, worth) =
    let least : worth_of p best ≤ℤ worth_of p g = All-contains (λ h. worth_of p best ≤ℤ worth_of p h) s.logged g (best_least p s.logged best b) (i, below, is) in
    omega (arith, ints, least, worth)

-- a further solution changes no bound
pub bound_entitled : (extra : Option (List Bool)) (s : State) (objective : List Term) (lower : Lower) → EntitlesLower s objective lower → (bound : ℤ) → lower ≡ lowers.At bound → EntitlesLower (with_extra extra s) objective lower
bound_entitled None s objective lower h bound is = h
bound_entitled (Some g) s objective lower h bound is =
    subst (EntitlesLower (with_solution g s) objective) (sym is)
    (let low = subst (EntitlesLower s objective) is h in
    (low.0, record { below = low.1.below; form = low.1.form; fits = low.1.fits; shown = low.1.shown }))

pub bound_beside : (extra : Option (List Bool)) (s : State) (objective : List Term) (bound : ℤ) (f : StepFault) → IsBoundFault s objective bound f → IsBoundFault (with_extra extra s) objective bound f
bound_beside None s objective bound f h = h
bound_beside (Some g) s objective bound f h = h

-- where there is no further solution the state is as it was
pub none_more : (extra : Option (List Bool)) (s : State) → is_some extra ≡ false → with_extra extra s ≡ s
none_more None s h = refl
none_more (Some g) s h = absurd (false≢true (sym h))
