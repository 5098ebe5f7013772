-- What a line can say at each section of a proof.
use Rattle.std.proofs.Common.{◌≡◌, ◌⊎◌, ℕ, ℤ, inl, inr, Bool, true, false, if◌then◌else◌, Option, Some, None, List, refl, sym, subst}
use Rattle.std.specs.Option.{option_map}
use Rattle.proof_steps.specs.declared.conclusion.Conclusion.{Conclusion}
use Rattle.proof_steps.specs.declared.step.Step.{Step}
use Rattle.proof_steps.specs.declared.step.Step.TheVariants as steps
use Rattle.proof_text.specs.Conclusions.{conclusion_of}
use Rattle.proof_text.specs.Frame as frame
use Rattle.proof_text.specs.Sections.{HasSteps, behind_end, behind_step}
use Rattle.proof_text.specs.Spells.{IsLine, line_of, step_at_section}
use Rattle.proof_text.specs.Words.{are_words, unclosed}
use Rattle.proof_text.specs.declared.line.Line.{Line}
use Rattle.proof_text.specs.declared.line.Line.TheVariants as lines
use Rattle.proof_text.specs.declared.line.Section.{Section}
use Rattle.proof_text.specs.declared.line.Section.TheVariants as sections

-- what can be said at a section
abbrev pub Says : Section → Line → Type 0
Says sections.Header said = said ≡ lines.Header
Says sections.Count said = (n : ℤ) × (said ≡ lines.Count n)
Says sections.Step said = (said ≡ lines.Output) ⊎ ((step : Step) × (said ≡ lines.Step step))
Says sections.Block said = (step : Step) × (said ≡ lines.Step step)
Says sections.Goal said = (step : Step) × (said ≡ lines.Step step)
Says sections.Conclusion said = (c : Conclusion) × (said ≡ lines.Conclusion c)
Says sections.End said = said ≡ lines.End
Says sections.After said = ⊥

if_some : (b : Bool) (x said : Line) → (if b then Some x else None) ≡ Some said → said ≡ x
if_some true x said e = cc
if_some false x said e = cc

mapped : {A : Type 0} (f : A → Line) (o : Option A) (said : Line) → option_map f o ≡ Some said → (a : A) × (said ≡ f a)
mapped f (Some a) said e = (a, cc)
mapped f None said e = let none : ◌≡◌ {A = Option Line} None (Some said) = e in absurd (by none)
  where
    by : ◌≡◌ {A = Option Line} None (Some said) → ⊥
    by n = cc

step_or_output : (b : Bool) (o : Option Step) (said : Line) → (if b then Some lines.Output else option_map (λ s. lines.Step s) o) ≡ Some said → Says sections.Step said
step_or_output true o said e = inl (if_some true lines.Output said e)
step_or_output false o said e = inr (mapped (λ s. lines.Step s) o said e)

says_at : (section : Section) (names ws : List (List ℕ)) (said : Line) → line_of section names ws ≡ Some said → Says section said
says_at sections.Header names ws said e = if_some (are_words frame.header (unclosed ws)) lines.Header said e
says_at sections.Count names ws said e = mapped (λ n. lines.Count n) (frame.count_of (unclosed ws)) said e
says_at sections.Step names ws said e = step_or_output (are_words frame.output (unclosed ws)) (step_at_section sections.Step names ws) said e
says_at sections.Block names ws said e = mapped (λ s. lines.Step s) (step_at_section sections.Block names ws) said e
says_at sections.Goal names ws said e = mapped (λ s. lines.Step s) (step_at_section sections.Goal names ws) said e
says_at sections.Conclusion names ws said e = mapped (λ c. lines.Conclusion c) (conclusion_of names ws) said e
says_at sections.End names ws said e = if_some (are_words frame.ending (unclosed ws)) lines.End said e
says_at sections.After names ws said e = by e
  where
    by : ◌≡◌ {A = Option Line} None (Some said) → ⊥
    by n = cc

-- a line says what can be said at its section
pub says : (section : Section) (old ws : List (List ℕ)) (said : Line) (new : List (List ℕ)) → IsLine section old ws said new → Says section said
says section old ws said new is = says_at section new ws said is.says

-- a step is said at a section of steps
pub steps_there : (section : Section) (step : Step) → Says section (lines.Step step) → HasSteps section
steps_there sections.Header step e = cc
steps_there sections.Count step e = let no_count = e.1 in cc
steps_there sections.Step step e = inl refl
steps_there sections.Block step e = inr (inl refl)
steps_there sections.Goal step e = inr (inr refl)
steps_there sections.Conclusion step e = let no_conclusion = e.1 in cc
steps_there sections.End step e = cc
steps_there sections.After step e = absurd e

-- and behind it one is due
closed_there : (section : Section) → HasSteps section → HasSteps (behind_end section)
closed_there section (inl is) = subst (λ q. HasSteps (behind_end q)) (sym is) (inl refl)
closed_there section (inr (inl is)) = subst (λ q. HasSteps (behind_end q)) (sym is) (inl refl)
closed_there section (inr (inr is)) = subst (λ q. HasSteps (behind_end q)) (sym is) (inr (inl refl))

pub steps_behind : (section : Section) (step : Step) → HasSteps section → HasSteps (behind_step section step)
steps_behind section (steps.Pol items) here = here
steps_behind section (steps.Rup c) here = here
steps_behind section (steps.Red c images) here = here
steps_behind section (steps.Sol listing) here = here
steps_behind section (steps.Soli listing) here = here
steps_behind section (steps.Del ids) here = here
steps_behind section (steps.RedBegin c images) here = inr (inl refl)
steps_behind section (steps.Goal goal) here = inr (inr refl)
steps_behind section steps.End here = closed_there section here

-- no other section is one of steps
pub no_steps : (section : Section) → HasSteps section → (section ≡ sections.Step → ⊥) → (section ≡ sections.Block → ⊥) → (section ≡ sections.Goal → ⊥) → ⊥
no_steps section (inl is) outside block goal = outside is
no_steps section (inr (inl is)) outside block goal = block is
no_steps section (inr (inr is)) outside block goal = goal is
