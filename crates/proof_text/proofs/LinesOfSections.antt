-- What a line says at its section.
use Rattle.std.proofs.Common.{◌≡◌, ◌⊎◌, inl, inr, ℕ, ℤ, ◌<◌, ◌≤◌, Bool, true, false, ◌&&◌, if◌then◌else◌, Option, Some, None, List, [], ◌∷◌, drop, length, is_some, refl, sym, ap, subst, ◌∙◌, arith, codes}
use Rattle.std.specs.Option.{option_map}
use Rattle.proof_steps.specs.declared.step.Step.{Step}
use Rattle.proof_steps.specs.declared.conclusion.Lower.{Lower}
use Rattle.proof_steps.specs.declared.conclusion.Conclusion.{Conclusion}
use Rattle.proof_steps.specs.declared.conclusion.Conclusion.TheVariants as conclusions
use Rattle.proof_text.specs.declared.keyword.Rule.{Rule}
use Rattle.proof_text.specs.declared.keyword.ConclusionKind.{ConclusionKind}
use Rattle.proof_text.specs.declared.keyword.ConclusionKind.TheVariants as kinds
use Rattle.proof_text.specs.declared.line.Line.{Line}
use Rattle.proof_text.specs.declared.line.Line.TheVariants as lines
use Rattle.proof_text.specs.declared.line.Section.{Section}
use Rattle.proof_text.specs.declared.line.Section.TheVariants as sections
use Rattle.pb_text.specs.Lexeme.{kind_of}
use Rattle.proof_text.specs.Kinds.{is_semicolon}
use Rattle.proof_text.specs.Words.{is_first, is_empty, are_words, unclosed, AreSmall}
use Rattle.proof_text.specs.NamesMet.{NamesMet, met_in}
use Rattle.linear.specs.Largest.{most_names}
use Rattle.proof_text.specs.Numbering.{names_in}
use Rattle.proof_text.specs.Frame.{count_of, output}
use Rattle.proof_text.specs.Rules.{rule_of}
use Rattle.proof_text.specs.Steps.{step_by, counted_by, step_of, counted, IsProper, IsStep}
use Rattle.proof_text.specs.StepsRead.{IsStepRead, IsStepLineRead}
use Rattle.proof_text.specs.Conclusions.{conclusion_kind_of, is_hint, hint_of, past_id, is_upper, upper_of, is_lower, lower_of, bounds_by, bounds_of, conclusion_by, conclusion_said, conclusion_of, conclusion_literals}
use Rattle.proof_text.specs.ConclusionsRead.{IsConclusionLineRead}
use Rattle.proof_text.specs.Spells.{is_misplaced, step_at_section, line_of, naming, measured, IsProperLine, IsLine}
use Rattle.proof_text.specs.PartsDenied.{Denies, IsForm, DeniesRule, NoStepBy, SomeStepBy, DeniesStepAt}
use Rattle.proof_text.specs.Faults.{NoStep, SomeStep, DeniesStep, NoLine, SomeLine, DeniesAt, DeniesAmong, DeniesLine}
use Rattle.proof_text.specs.declared.fault.ProofFault.{ProofFault}
use Rattle.proof_text.specs.declared.fault.ProofFault.TheVariants as faults
use Rattle.proof_text.proofs.ByFirstWord.{step_with, counted_with, misplaced_with, judged_with}
use Rattle.proof_text.proofs.FaultsSaid.{form_denied, part_denied, same_denied}
use Rattle.proof_text.proofs.PolItems.{first_word}
use Rattle.proof_text.proofs.WordsByKind.{none_small}
use Rattle.proof_text.proofs.NamesNumbered.{too_many}
use Rattle.proof_text.proofs.ReadIsWritable.{HasNames, has_names}
use Rattle.proof_text.proofs.StepsRead.{said_anyway, apart, table_whole}

-- the names as a line begins
abbrev pub fresh : List (List ℕ) → NamesMet
fresh names = record { before = names; names = names; full = false }

pub step_at : (names : List (List ℕ)) (w : List ℕ) (rest : List (List ℕ)) (o : Option Rule) → rule_of w ≡ o → step_of names (w ∷ rest) ≡ step_with names rest o
unfolding step_of
step_at names w rest o h = ap (step_with names rest) h

pub counted_at : (w : List ℕ) (rest : List (List ℕ)) (o : Option Rule) → rule_of w ≡ o → counted (w ∷ rest) ≡ counted_with rest o
unfolding counted
counted_at w rest o h = ap (counted_with rest) h

pub ruled_read : (k new : NamesMet) (w : List ℕ) (ws rest : List (List ℕ)) (rule : Rule) (step : Step) → ws ≡ w ∷ rest → rule_of w ≡ Some rule → IsStepRead rule k rest step new → IsStepLineRead k ws step new
ruled_read k new w ws rest rule step at h r =
    let c : counted (w ∷ rest) ≡ counted_by rule rest = counted_at w rest (Some rule) h in
    subst (λ x. IsStepLineRead k x step new) (sym at) (record {
      says = step_at new.names w rest (Some rule) h ∙ r.says;
      proper = r.proper;
      known = r.known ∙ ap (met_in k) (sym c);
      small = subst AreSmall (sym c) r.small;
    })

-- both say the same of a fault where the words are the same
step_denied : (f : ProofFault) (rule : Rule) (names : List (List ℕ)) (w : List ℕ) (rest : List (List ℕ)) → rule_of w ≡ Some rule → DeniesRule f rule names rest → DeniesStep f names (w ∷ rest)
step_denied f rule names w rest h d =
    let ws = w ∷ rest in
    let c : counted ws ≡ counted_by rule rest = counted_at w rest (Some rule) h in
    let said = step_at (names_in names (counted ws)) w rest (Some rule) h in
    let again = ap (λ x. step_by rule (names_in names x) rest) c in
    same_denied f (NoStepBy rule names rest) (SomeStepBy rule names rest) (NoStep names ws) (SomeStep names ws) (counted_by rule rest) (names_in names (counted_by rule rest)) (counted ws) (names_in names (counted ws))
    (λ none s e p. none s (sym again ∙ sym said ∙ e) p) (λ some. (some.0, said ∙ again ∙ some.1, some.2)) (sym c) (ap (names_in names) (sym c)) d

pub ruled_denied : (f : ProofFault) (rule : Rule) (names : List (List ℕ)) (w : List ℕ) (ws rest : List (List ℕ)) → ws ≡ w ∷ rest → rule_of w ≡ Some rule → DeniesRule f rule names rest → DeniesStep f names ws
ruled_denied f rule names w ws rest at h d = subst (λ x. DeniesStep f names x) (sym at) (step_denied f rule names w rest h d)

-- no rule
no_rule : (names : List (List ℕ)) (w : List ℕ) (rest : List (List ℕ)) → rule_of w ≡ None → NoStep names (w ∷ rest)
no_rule names w rest h step e p =
    let none : ◌≡◌ {A = Option Step} None (Some step) = sym (step_at (names_in names (counted (w ∷ rest))) w rest None h) ∙ e in cc

pub unruled_denied : (f : ProofFault) (names : List (List ℕ)) (w : List ℕ) (ws rest : List (List ℕ)) → ws ≡ w ∷ rest → rule_of w ≡ None → IsForm f → DeniesStep f names ws
unruled_denied f names w ws rest at h form = subst (λ x. DeniesStep f names x) (sym at) (form_denied f (NoStep names (w ∷ rest)) (SomeStep names (w ∷ rest)) (counted (w ∷ rest)) (names_in names (counted (w ∷ rest))) form (no_rule names w rest h))

no_words : (names : List (List ℕ)) → NoStep names []
unfolding step_of
no_words names step e p = cc

pub empty_denied : (names ws : List (List ℕ)) → ws ≡ [] → NoStep names ws
empty_denied names ws at = subst (NoStep names) (sym at) (no_words names)

-- a step's line
pub step_read : (names : List (List ℕ)) (k new : NamesMet) (ws : List (List ℕ)) (step : Step) → k ≡ fresh names → IsStepLineRead k ws step new → new.full ≡ false → length new.names ≤ most_names
    → IsStep names ws step new.names
step_read names k new ws step e r full few =
    let q : IsStepLineRead (fresh names) ws step new = subst (λ x. IsStepLineRead x ws step new) e r in
    record {
      names = table_whole (fresh names) new (counted ws) refl q.known full;
      few = few;
      says = q.says;
      proper = q.proper;
      small = q.small;
    }

step_anyway : (names others ws : List (List ℕ)) (step : Step) → step_of names ws ≡ Some step → IsProper step → HasNames others (counted ws) → (q : Step) × (step_of others ws ≡ Some q) × IsProper q
unfolding step_of counted
step_anyway names others [] step h proper has = cc
step_anyway names others (w ∷ rest) step h proper has = by (rule_of w) h has
  where
    by : (o : Option Rule) → step_with names rest o ≡ Some step → HasNames others (counted_with rest o) → (q : Step) × (step_with others rest o ≡ Some q) × IsProper q
    by None h has = cc
    by (Some rule) h has = said_anyway rule names others rest step h (apart rule names rest step h proper) has

pub step_full : (names : List (List ℕ)) (k new : NamesMet) (ws : List (List ℕ)) (step : Step) → k ≡ fresh names → IsStepLineRead k ws step new → new.full ≡ true → DeniesStep faults.TooManyIds names ws
step_full names k new ws step e r full =
    let q : IsStepLineRead (fresh names) ws step new = subst (λ x. IsStepLineRead x ws step new) e r in
    let far : most_names < length (names_in names (counted ws)) = too_many (fresh names) (counted ws) refl (sym (ap (λ (m : NamesMet). m.full) q.known) ∙ full) in
    (q.small, step_anyway new.names (names_in names (counted ws)) ws step q.says q.proper (has_names names (counted ws)), omega (arith, far))

-- a conclusion's line
pub conclusion_placed : (names : List (List ℕ)) (k new : NamesMet) (ws : List (List ℕ)) (c : Conclusion) → k ≡ fresh names → IsConclusionLineRead k ws c new → new.full ≡ false
    → length new.names ≤ most_names → IsLine sections.Conclusion names ws (lines.Conclusion c) new.names
conclusion_placed names k new ws c e r full few =
    let q : IsConclusionLineRead (fresh names) ws c new = subst (λ x. IsConclusionLineRead x ws c new) e r in
    record {
      names = table_whole (fresh names) new (conclusion_literals ws) refl q.known full;
      few = few;
      says = ap (λ o. option_map (λ x. lines.Conclusion x) o) q.says;
      proper = tt;
      small = q.small;
    }

picked : (t : Bool) (s r q : Conclusion) → (if t then Some s else None) ≡ Some r → (if t then Some q else None) ≡ Some q
picked true s r q h = refl
picked false s r q h = cc

bounds_anyway : (names others ws : List (List ℕ)) (l : Lower) (c : Conclusion) → bounds_by names l ws ≡ Some c → (q : Conclusion) × (bounds_by others l ws ≡ Some q)
bounds_anyway names others [] l c h = cc
bounds_anyway names others (u ∷ rest) l c h =
    let q : Conclusion = conclusions.Bounds l (upper_of u) (hint_of others rest) in
    (q, picked (is_upper u && is_hint rest) (conclusions.Bounds l (upper_of u) (hint_of names rest)) c q h)

all_bounds_anyway : (names others ws : List (List ℕ)) (c : Conclusion) → bounds_of names ws ≡ Some c → (q : Conclusion) × (bounds_of others ws ≡ Some q)
all_bounds_anyway names others [] c h = cc
all_bounds_anyway names others (l ∷ rest) c h = by (is_lower l) h
  where
    by : (t : Bool) → (if t then bounds_by names (lower_of l) (past_id rest) else None) ≡ Some c → (q : Conclusion) × ((if t then bounds_by others (lower_of l) (past_id rest) else None) ≡ Some q)
    by true h = bounds_anyway names others (past_id rest) (lower_of l) c h
    by false h = cc

concluded_anyway : (v : ConclusionKind) (names others ws : List (List ℕ)) (c : Conclusion) → conclusion_by v names ws ≡ Some c → (q : Conclusion) × (conclusion_by v others ws ≡ Some q)
concluded_anyway kinds.Nothing names others ws c h = (c, h)
concluded_anyway kinds.Sat names others ws c h = (conclusions.Sat (hint_of others ws), picked (is_hint ws) (conclusions.Sat (hint_of names ws)) c (conclusions.Sat (hint_of others ws)) h)
concluded_anyway kinds.Unsat names others ws c h = (c, h)
concluded_anyway kinds.Bounds names others ws c h = all_bounds_anyway names others ws c h

conclusion_said_anyway : (names others ws : List (List ℕ)) (c : Conclusion) → conclusion_said names ws ≡ Some c → (q : Conclusion) × (conclusion_said others ws ≡ Some q)
conclusion_said_anyway names others [] c h = cc
conclusion_said_anyway names others (w ∷ rest) c h = by (conclusion_kind_of w) h
  where
    by : (o : Option ConclusionKind) → judged_with names rest o ≡ Some c → (q : Conclusion) × (judged_with others rest o ≡ Some q)
    by None h = cc
    by (Some v) h = concluded_anyway v names others rest c h

conclusion_anyway : (names others ws : List (List ℕ)) (c : Conclusion) → conclusion_of names ws ≡ Some c → (q : Conclusion) × (conclusion_of others ws ≡ Some q)
unfolding conclusion_of
conclusion_anyway names others ws c h = by (is_first (codes "conclusion") ws) h
  where
    by : (t : Bool) → (if t then conclusion_said names (unclosed (drop 1 ws)) else None) ≡ Some c → (q : Conclusion) × ((if t then conclusion_said others (unclosed (drop 1 ws)) else None) ≡ Some q)
    by true h = conclusion_said_anyway names others (unclosed (drop 1 ws)) c h
    by false h = cc

pub conclusion_full : (names : List (List ℕ)) (k new : NamesMet) (ws : List (List ℕ)) (c : Conclusion) → k ≡ fresh names → IsConclusionLineRead k ws c new → new.full ≡ true
    → DeniesAt faults.TooManyIds sections.Conclusion names ws
conclusion_full names k new ws c e r full =
    let q : IsConclusionLineRead (fresh names) ws c new = subst (λ x. IsConclusionLineRead x ws c new) e r in
    let far : most_names < length (names_in names (conclusion_literals ws)) = too_many (fresh names) (conclusion_literals ws) refl (sym (ap (λ (m : NamesMet). m.full) q.known) ∙ full) in
    let a = conclusion_anyway new.names (names_in names (conclusion_literals ws)) ws c q.says in
    (q.small, (lines.Conclusion a.0, ap (λ o. option_map (λ x. lines.Conclusion x) o) a.1, tt), omega (arith, far))

mapped : (o : Option Conclusion) (l : Line) → option_map (λ x. lines.Conclusion x) o ≡ Some l → (c : Conclusion) × (o ≡ Some c)
mapped None l h = cc
mapped (Some c) l h = (c, refl)

no_conclusion_line : (names ws : List (List ℕ)) → is_some (conclusion_of [] ws) ≡ false → NoLine sections.Conclusion names ws
no_conclusion_line names ws h line e p =
    let c = mapped (conclusion_of (names_in names (conclusion_literals ws)) ws) line e in
    let a = conclusion_anyway (names_in names (conclusion_literals ws)) [] ws c.0 c.1 in
    cc (sym h ∙ ap is_some a.1)

pub conclusion_denied : (f : ProofFault) (names ws : List (List ℕ)) → Denies f (is_some (conclusion_of [] ws)) (drop 1 (unclosed (drop 1 ws))) → DeniesAt f sections.Conclusion names ws
conclusion_denied f names ws d =
    part_denied f (is_some (conclusion_of [] ws)) (drop 1 (unclosed (drop 1 ws))) (NoLine sections.Conclusion names ws) (SomeLine sections.Conclusion names ws) (drop 1 (unclosed (drop 1 ws))) (names_in names (conclusion_literals ws))
    (no_conclusion_line names ws) (λ s. s) d

-- `output` is no rule
output_rule : rule_of (codes "output") ≡ None
unfolding rule_of
output_rule = refl

output_counts : (ws rest : List (List ℕ)) → ws ≡ codes "output" ∷ rest → counted ws ≡ []
output_counts ws rest at = ap counted at ∙ counted_at (codes "output") rest None output_rule

-- the output line
pub output_placed : (names ws : List (List ℕ)) → is_first (codes "output") ws ≡ true → are_words output (unclosed ws) ≡ true
    → length names ≤ most_names → IsLine sections.Step names ws lines.Output names
output_placed names ws h all few =
    let none : counted ws ≡ [] = output_counts ws (drop 1 ws) (first_word (codes "output") ws h) in
    record {
      names = ap (names_in names) (sym none);
      few = few;
      says = ap (λ t. if t then Some lines.Output else option_map (λ s. lines.Step s) (step_at_section sections.Step names ws)) all;
      proper = tt;
      small = subst AreSmall (sym none) none_small;
    }

mapped_step : (o : Option Step) (l : Line) → option_map (λ x. lines.Step x) o ≡ Some l → (s : Step) × (o ≡ Some s) × (l ≡ lines.Step s)
mapped_step None l h = cc
mapped_step (Some s) l h = (s, refl, cc)

-- whether a line is misplaced is told by its rule
pub misplaced_at : (section : Section) (w : List ℕ) (rest : List (List ℕ)) (o : Option Rule) → rule_of w ≡ o → is_misplaced section (w ∷ rest) ≡ misplaced_with section rest o
misplaced_at section w rest o h = ap (misplaced_with section rest) h

output_stands : (ws : List (List ℕ)) → is_first (codes "output") ws ≡ true → is_misplaced sections.Step ws ≡ false
output_stands ws h = ap (is_misplaced sections.Step) (first_word (codes "output") ws h) ∙ misplaced_at sections.Step (codes "output") (drop 1 ws) None output_rule

output_no_step : (names ws : List (List ℕ)) → is_first (codes "output") ws ≡ true → step_at_section sections.Step names ws ≡ None
output_no_step names ws h =
    ap (λ t. if t then None else step_of names ws) (output_stands ws h)
    ∙ ap (step_of names) (first_word (codes "output") ws h) ∙ step_at names (codes "output") (drop 1 ws) None output_rule

no_output_line : (names ws : List (List ℕ)) → is_first (codes "output") ws ≡ true → are_words output (unclosed ws) ≡ false → NoLine sections.Step names ws
no_output_line names ws h none line e p =
    let n = names_in names (counted ws) in
    let s = mapped_step (step_at_section sections.Step n ws) line (sym (ap (λ t. if t then Some lines.Output else option_map (λ s. lines.Step s) (step_at_section sections.Step n ws)) none) ∙ e) in
    let x : ◌≡◌ {A = Option Step} None (Some s.0) = sym (output_no_step n ws h) ∙ s.1 in
    cc

pub output_denied : (f : ProofFault) (names ws : List (List ℕ)) → is_first (codes "output") ws ≡ true → are_words output (unclosed ws) ≡ false → IsForm f
    → DeniesAmong f sections.Step names ws
output_denied f names ws h none form = (
  λ e. absurd (cc (sym (output_stands ws h) ∙ e)),
  form_denied f (NoLine sections.Step names ws) (SomeLine sections.Step names ws) (counted ws) (names_in names (counted ws)) form (no_output_line names ws h none),
)

first_stays : (v : List ℕ) (ws : List (List ℕ)) → is_first v ws ≡ false → is_first v (unclosed ws) ≡ false
first_stays v [] h = refl
first_stays v (w ∷ []) h = by (is_semicolon (kind_of w))
  where
    by : (t : Bool) → is_first v (if t then [] else w ∷ []) ≡ false
    by true = refl
    by false = h
first_stays v (w ∷ u ∷ rest) h = h

not_output : (ws : List (List ℕ)) → is_first (codes "output") ws ≡ false → are_words output (unclosed ws) ≡ false
not_output ws h = ap (λ t. t && (is_first (codes "NONE") (drop 1 (unclosed ws)) && is_empty (drop 1 (drop 1 (unclosed ws))))) (first_stays (codes "output") ws h)

-- lines at a section say the steps that stand there
pub record SaysSteps (section : Section) (ws : List (List ℕ)) : Type 0 where
  pub says : (names : List (List ℕ)) → line_of section names ws ≡ option_map (λ s. lines.Step s) (step_at_section section names ws)
  pub names_of : naming section ws ≡ counted ws
  pub counts : measured section ws ≡ counted ws

pub outside : (ws : List (List ℕ)) → is_first (codes "output") ws ≡ false → SaysSteps sections.Step ws
outside ws h = record {
  says = λ names. ap (λ t. if t then Some lines.Output else option_map (λ s. lines.Step s) (step_at_section sections.Step names ws)) (not_output ws h);
  names_of = refl;
  counts = refl;
}

pub inside : (section : Section) (ws : List (List ℕ)) → (section ≡ sections.Block) ⊎ (section ≡ sections.Goal) → SaysSteps section ws
inside section ws (inl e) = subst (λ q. SaysSteps q ws) (sym e) (record { says = λ names. refl; names_of = refl; counts = refl })
inside section ws (inr e) = subst (λ q. SaysSteps q ws) (sym e) (record { says = λ names. refl; names_of = refl; counts = refl })

-- the step of a line that stands where it may
here : (section : Section) (names ws : List (List ℕ)) → SaysSteps section ws → is_misplaced section ws ≡ false → line_of section names ws ≡ option_map (λ s. lines.Step s) (step_of names ws)
here section names ws s place = s.says names ∙ ap (λ t. option_map (λ x. lines.Step x) (if t then None else step_of names ws)) place

-- a step among the lines
pub step_placed : (section : Section) (names new ws : List (List ℕ)) (step : Step) → SaysSteps section ws → is_misplaced section ws ≡ false → IsStep names ws step new → IsLine section names ws (lines.Step step) new
step_placed section names new ws step s place r = record {
  names = r.names ∙ ap (names_in names) (sym s.names_of);
  few = r.few;
  says = here section new ws s place ∙ ap (λ o. option_map (λ x. lines.Step x) o) r.says;
  proper = r.proper;
  small = subst AreSmall (sym s.counts) r.small;
}

misplaced_line : (section : Section) (names ws : List (List ℕ)) → SaysSteps section ws → is_misplaced section ws ≡ true → NoLine section names ws
misplaced_line section names ws s place line e p =
    let n = names_in names (naming section ws) in
    let nothing : line_of section n ws ≡ None = s.says n ∙ ap (λ t. option_map (λ x. lines.Step x) (if t then None else step_of n ws)) place in
    let x : ◌≡◌ {A = Option Line} None (Some line) = sym nothing ∙ e in
    cc

no_step_line : (section : Section) (names ws : List (List ℕ)) → SaysSteps section ws → is_misplaced section ws ≡ false → NoStep names ws → NoLine section names ws
no_step_line section names ws s place none line e p =
    let same : names_in names (naming section ws) ≡ names_in names (counted ws) = ap (names_in names) s.names_of in
    let n = names_in names (counted ws) in
    let m = mapped_step (step_of n ws) line (sym (here section n ws s place) ∙ ap (λ x. line_of section x ws) (sym same) ∙ e) in
    none m.0 m.1 (subst IsProperLine m.2 p)

some_step_line : (section : Section) (names ws : List (List ℕ)) → SaysSteps section ws → is_misplaced section ws ≡ false → SomeStep names ws → SomeLine section names ws
some_step_line section names ws s place some =
    let same : names_in names (naming section ws) ≡ names_in names (counted ws) = ap (names_in names) s.names_of in
    let n = names_in names (counted ws) in
    (lines.Step some.0, ap (λ x. line_of section x ws) same ∙ here section n ws s place ∙ ap (λ o. option_map (λ x. lines.Step x) o) some.1, some.2)

-- what a fault of a step says of the line
pub step_denied_at : (f : ProofFault) (section : Section) (names ws : List (List ℕ)) → SaysSteps section ws → DeniesStepAt f section names ws → DeniesAmong f section names ws
step_denied_at f section names ws s d = (d.misplaced, by (is_misplaced section ws) refl)
  where
    by : (t : Bool) → is_misplaced section ws ≡ t → DeniesAt f section names ws
    by true e = subst (λ g. DeniesAt g section names ws) (sym (d.misplaced e)) (misplaced_line section names ws s e)
    by false e =
        same_denied f (NoStep names ws) (SomeStep names ws) (NoLine section names ws) (SomeLine section names ws) (counted ws) (names_in names (counted ws)) (measured section ws) (names_in names (naming section ws))
        (no_step_line section names ws s e) (some_step_line section names ws s e) (sym s.counts) (ap (names_in names) (sym s.names_of)) (d.placed e)

pub inside_denied : (f : ProofFault) (section : Section) (names ws : List (List ℕ)) → (section ≡ sections.Block) ⊎ (section ≡ sections.Goal) → DeniesAmong f section names ws → DeniesLine f section names ws
unfolding DeniesLine
inside_denied f section names ws (inl e) d = subst (λ q. DeniesLine f q names ws) (sym e) (subst (λ q. DeniesAmong f q names ws) e d)
inside_denied f section names ws (inr e) d = subst (λ q. DeniesLine f q names ws) (sym e) (subst (λ q. DeniesAmong f q names ws) e d)

-- no count
pub no_count_line : (names ws : List (List ℕ)) → ((n : ℤ) → count_of (unclosed ws) ≡ Some n → AreSmall (unclosed ws) → ⊥) → (line : Line) → line_of sections.Count names ws ≡ Some line → AreSmall (unclosed ws) → ⊥
no_count_line names ws h line e s = by (count_of (unclosed ws)) refl e
  where
    by : (o : Option ℤ) → count_of (unclosed ws) ≡ o → option_map (λ n. lines.Count n) o ≡ Some line → ⊥
    by None f e = cc
    by (Some n) f e = h n f s
