-- Steps, rule by rule.
use Rattle.std.proofs.Common.{◌≡◌, ℕ, ℤ, ◌<◌, Bool, true, false, ◌&&◌, if◌then◌else◌, Option, Some, None, List, [], ◌∷◌, ◌++◌, drop, length, is_some, refl, sym, ap, subst, ◌∙◌, arith, codes}
use Rattle.std.specs.Option.{option_map}
use Rattle.std.proofs.lemmas.List.Elements.{All-append}
use Rattle.linear.specs.declared.term.Lit.{Lit}
use Rattle.linear.specs.declared.term.Var.{Var}
use Rattle.linear.specs.declared.constraint.Signed.{Signed}
use Rattle.linear.specs.declared.constraint.Relation.TheVariants as relations
use Rattle.substitution.specs.declared.image.Image.{Image}
use Rattle.substitution.specs.Images.{NamesOnce}
use Rattle.proof_steps.specs.declared.step.Item.{Item}
use Rattle.proof_steps.specs.declared.step.GoalName.{GoalName}
use Rattle.proof_steps.specs.declared.step.GoalName.TheVariants as goals
use Rattle.proof_steps.specs.declared.step.Step.{Step}
use Rattle.proof_steps.specs.declared.step.Step.TheVariants as steps
use Rattle.proof_text.specs.declared.keyword.Rule.{Rule}
use Rattle.proof_text.specs.declared.keyword.Rule.TheVariants as rules
use Rattle.proof_text.specs.Words.{halves, unclosed, IsSmall, AreSmall}
use Rattle.proof_text.specs.NamesMet.{NamesMet, met_in}
use Rattle.linear.specs.Largest.{most_names}
use Rattle.proof_text.specs.Numbering.{names_in}
use Rattle.proof_text.specs.Forms.{are_literals, literals_of, are_integers, integers_of, terms_of, behind_terms, closing_of, are_items, items_of, are_images, images_of, lefts, repeats}
use Rattle.proof_text.specs.PartsRead.{IsRead, IsConstraintRead}
use Rattle.proof_text.specs.Steps.{constraint_of, rup_by, begins_block, red_step, red_by, red_with, is_deletion, goal_named, goal_of, is_closing, witness_words, step_by, counted_by, IsProper}
use Rattle.proof_text.specs.StepsRead.{IsStepRead}
use Rattle.proof_text.specs.PartsDenied.{Denies, IsForm, NoStepBy, SomeStepBy, DeniesRule}
use Rattle.proof_text.specs.declared.fault.ProofFault.{ProofFault}
use Rattle.proof_text.specs.declared.fault.ProofFault.TheVariants as faults
use Rattle.std.specs.Str.{bytes_eq}
use Rattle.pb_text.specs.Lexeme.{kind_of, kind_of_word}
use Rattle.pb_text.specs.Name.{is_name}
use Rattle.pb_text.specs.Number.{integer_value}
use Rattle.pb_text.specs.Word.{is_integer as integer_word, is_literal as literal_word, is_misspelt}
use Rattle.proof_text.specs.Kinds.{is_integer, is_literal}
use Rattle.proof_text.proofs.FaultsSaid.{part_denied, form_denied}
use Rattle.proof_text.proofs.PolItems.{same_word}
use Rattle.proof_text.proofs.WordsByKind.{none_small, all_small, first_small, rest_small, integer_alone}
use Rattle.std.specs.Prelude.{⊤}
use Rattle.proof_text.proofs.NamesNumbered.{met_in-append, met_other, all_found, too_many}
use Rattle.proof_text.proofs.ReadIsWritable.{HasNames, HasNames-back, has_names}
use Rattle.proof_text.proofs.NamesOnLeft.{no_name_twice, no_variable_twice}

pub pol_read : (k new : NamesMet) (ws : List (List ℕ)) (xs : List Item) → IsRead are_items items_of k (unclosed ws) xs new → IsStepRead rules.Pol k ws (steps.Pol xs) new
pol_read k new ws xs r = record {
  says =
      ap (λ t. if t then Some (steps.Pol (items_of new.names (unclosed ws))) else None) r.same
      ∙ ap (λ is. Some (steps.Pol is)) (sym (r.parts []));
  proper = tt;
  known = r.known;
  small = r.small;
}

pub sol_read : (k new : NamesMet) (ws : List (List ℕ)) (xs : List Lit) → IsRead are_literals literals_of k (unclosed ws) xs new → IsStepRead rules.Sol k ws (steps.Sol xs) new
sol_read k new ws xs r = record {
  says =
      ap (λ t. if t then Some (steps.Sol (literals_of new.names (unclosed ws))) else None) r.same
      ∙ ap (λ is. Some (steps.Sol is)) (sym (r.parts []));
  proper = tt;
  known = r.known;
  small = r.small;
}

pub soli_read : (k new : NamesMet) (ws : List (List ℕ)) (xs : List Lit) → IsRead are_literals literals_of k (unclosed ws) xs new → IsStepRead rules.Soli k ws (steps.Soli xs) new
soli_read k new ws xs r = record {
  says =
      ap (λ t. if t then Some (steps.Soli (literals_of new.names (unclosed ws))) else None) r.same
      ∙ ap (λ is. Some (steps.Soli is)) (sym (r.parts []));
  proper = tt;
  known = r.known;
  small = r.small;
}

-- integers bring no names
no_names : (k : NamesMet) (ws : List (List ℕ)) → are_integers ws ≡ true → met_in k ws ≡ k
no_names k [] h = refl
no_names k (w ∷ ws) h = by (is_integer (kind_of w)) refl h (no_names k ws)
  where
    by : (t : Bool) → is_integer (kind_of w) ≡ t → (t && are_integers ws) ≡ true → (are_integers ws ≡ true → met_in k ws ≡ k) → met_in k (w ∷ ws) ≡ k
    by true e h g = met_other k w ws (integer_alone (kind_of w) e).0 ∙ g h
    by false e h g = cc

pub del_read : (k : NamesMet) (ws rest : List (List ℕ)) (w : List ℕ) (xs : List ℤ) → ws ≡ w ∷ rest → bytes_eq w (codes "id") ≡ true → are_integers (unclosed rest) ≡ true → xs ≡ integers_of (unclosed rest)
    → AreSmall (unclosed rest) → IsStepRead rules.Del k ws (steps.Del xs) k
del_read k ws rest w xs at h i v small =
    subst (λ x. IsStepRead rules.Del k x (steps.Del xs) k) (sym at) (record {
      says =
          ap (λ t. if t && are_integers (unclosed rest) then Some (steps.Del (integers_of (unclosed rest))) else None) h
          ∙ ap (λ t. if t then Some (steps.Del (integers_of (unclosed rest))) else None) i
          ∙ ap (λ x. Some (steps.Del x)) (sym v);
      proper = tt;
      known = sym (no_names k (unclosed rest) i);
      small = small;
    })

pub rup_read : (k new : NamesMet) (ws hints : List (List ℕ)) (c : Signed) → IsConstraintRead k (halves ws).front c new → (halves ws).behind ≡ Some hints → IsStepRead rules.Rup k ws (steps.Rup c) new
rup_read k new ws hints c r b = record {
  says = ap (rup_by new.names (halves ws).front) b ∙ ap (λ o. option_map (λ x. steps.Rup x) o) (r.says []);
  proper = tt;
  known = r.known;
  small = r.small;
}

-- what a `red` line says, whether or not a name stands twice
pub red_says : (k mid new : NamesMet) (ws witness : List (List ℕ)) (c : Signed) (images : List (Var × Image)) (block : Bool) → IsConstraintRead k (halves ws).front c mid → (halves ws).behind ≡ Some witness
    → IsRead are_images images_of mid (halves witness).front images new → begins_block (halves witness).behind ≡ Some block → step_by rules.Red new.names ws ≡ Some (red_step c images block)
red_says k mid new ws witness c images block r b i g =
    let front = (halves ws).front in
    let h = halves witness in
    let made : constraint_of new.names front ≡ Some c = ap (λ (m : NamesMet). constraint_of m.names front) i.known ∙ r.says h.front in
    ap (red_by new.names front) b
    ∙ ap (red_with new.names h) made
    ∙ ap (λ t. if t then option_map (λ x. red_step c (images_of new.names h.front) x) (begins_block h.behind) else None) i.same
    ∙ ap (λ o. option_map (λ x. red_step c (images_of new.names h.front) x) o) g
    ∙ ap (λ xs. Some (red_step c xs block)) (sym (i.parts []))

pub red_known : (k mid new : NamesMet) (ws witness : List (List ℕ)) (c : Signed) (images : List (Var × Image)) → IsConstraintRead k (halves ws).front c mid → (halves ws).behind ≡ Some witness
    → IsRead are_images images_of mid (halves witness).front images new → new ≡ met_in k (counted_by rules.Red ws)
red_known k mid new ws witness c images r b i =
    i.known
    ∙ ap (λ m. met_in m (halves witness).front) r.known
    ∙ sym (met_in-append k (halves ws).front (halves witness).front)
    ∙ ap (λ o. met_in k ((halves ws).front ++ witness_words o)) (sym b)

pub red_small : (ws witness : List (List ℕ)) → (halves ws).behind ≡ Some witness → AreSmall (halves ws).front → AreSmall (halves witness).front → AreSmall (counted_by rules.Red ws)
red_small ws witness b f w =
    subst (λ o. AreSmall ((halves ws).front ++ witness_words o)) (sym b) (All-append IsSmall (halves ws).front (halves witness).front f w)

-- a step of redundance is proper where no variable stands twice, and the other way round
proper_step : (c : Signed) (images : List (Var × Image)) (block : Bool) → NamesOnce images → IsProper (red_step c images block)
proper_step c images true h = h
proper_step c images false h = h

once_in : (c : Signed) (images : List (Var × Image)) (block : Bool) → IsProper (red_step c images block) → NamesOnce images
once_in c images true h = h
once_in c images false h = h

pub red_read : (k mid new : NamesMet) (ws witness : List (List ℕ)) (c : Signed) (images : List (Var × Image)) (block : Bool) → IsConstraintRead k (halves ws).front c mid → (halves ws).behind ≡ Some witness
    → IsRead are_images images_of mid (halves witness).front images new → begins_block (halves witness).behind ≡ Some block → NamesOnce images → IsStepRead rules.Red k ws (red_step c images block) new
red_read k mid new ws witness c images block r b i g once = record {
  says = red_says k mid new ws witness c images block r b i g;
  proper = proper_step c images block once;
  known = red_known k mid new ws witness c images r b i;
  small = red_small ws witness b r.small i.small;
}

-- a goal's words bring no name
mark_kinds : (is_literal (kind_of (codes "#1")) ≡ false) × (is_literal (kind_of (codes "#2")) ≡ false)
unfolding kind_of kind_of_word integer_word literal_word is_misspelt is_name
mark_kinds = (refl, refl)

no_name_named : (w : List ℕ) (goal : GoalName) → goal_named w ≡ Some goal → is_literal (kind_of w) ≡ false
no_name_named w goal h = by (is_integer (kind_of w)) (bytes_eq w (codes "#1")) (bytes_eq w (codes "#2")) refl refl refl h
  where
    by : (i a b : Bool) → is_integer (kind_of w) ≡ i → bytes_eq w (codes "#1") ≡ a → bytes_eq w (codes "#2") ≡ b
        → (if i then Some (goals.Live (integer_value w)) else if a then Some goals.Itself else if b then Some goals.Objective else None) ≡ Some goal → is_literal (kind_of w) ≡ false
    by true a b e f g h = (integer_alone (kind_of w) e).0
    by false true b e f g h = ap (λ v. is_literal (kind_of v)) (same_word w (codes "#1") f) ∙ mark_kinds.0
    by false false true e f g h = ap (λ v. is_literal (kind_of v)) (same_word w (codes "#2") g) ∙ mark_kinds.1
    by false false false e f g h = cc

goal_known : (k : NamesMet) (ws : List (List ℕ)) (goal : GoalName) → goal_of ws ≡ Some goal → k ≡ met_in k ws
goal_known k [] goal h = cc
goal_known k (w ∷ []) goal h = sym (met_other k w [] (no_name_named w goal h))
goal_known k (w ∷ v ∷ rest) goal h = cc

pub goal_read : (k : NamesMet) (ws : List (List ℕ)) (goal : GoalName) → goal_of (unclosed ws) ≡ Some goal → AreSmall (unclosed ws) → IsStepRead rules.Goal k ws (steps.Goal goal) k
goal_read k ws goal h small = record {
  says = ap (λ o. option_map (λ x. steps.Goal x) o) h;
  proper = tt;
  known = goal_known k (unclosed ws) goal h;
  small = small;
}

closing_known : (k : NamesMet) (ws : List (List ℕ)) → is_closing ws ≡ true → k ≡ met_in k ws
closing_known k [] h = refl
closing_known k (w ∷ []) h = sym (met_other k w [] (integer_alone (kind_of w) h).0)
closing_known k (w ∷ v ∷ rest) h = cc

pub end_read : (k : NamesMet) (ws : List (List ℕ)) → is_closing (unclosed ws) ≡ true → AreSmall (unclosed ws) → IsStepRead rules.End k ws steps.End k
end_read k ws h small = record {
  says = ap (λ t. if t then Some steps.End else None) h;
  proper = tt;
  known = closing_known k (unclosed ws) h;
  small = small;
}

-- no name stands twice on the left of a substitution
abbrev pub IsApart : Rule → List (List ℕ) → Type 0
IsApart rules.Red ws = repeats (lefts (witness_words (halves ws).behind)) ≡ false
IsApart _ ws = ⊤

-- what a step's line says by a table, where no variable stands twice
abbrev pub Said : Rule → List (List ℕ) → List (List ℕ) → Type 0
Said rule names ws = (step : Step) × (step_by rule names ws ≡ Some step) × IsProper step

choose : (t : Bool) (s r q : Step) → (if t then Some s else None) ≡ Some r → (if t then Some q else None) ≡ Some q
choose true s r q h = refl
choose false s r q h = cc

test : (t : Bool) (s r : Step) → (if t then Some s else None) ≡ Some r → (t ≡ true) × (s ≡ r)
test true s r h = (refl, cc)
test false s r h = cc

abbrev signed : List (List ℕ) → List (List ℕ) → ℤ → Signed
signed names front right = record { terms = terms_of names front; relation = relations.AtLeast; right = right }

rup_said : (names others front : List (List ℕ)) (b : Option (List (List ℕ))) (step : Step) → rup_by names front b ≡ Some step → (q : Step) × (rup_by others front b ≡ Some q) × IsProper q
rup_said names others front None step h = cc
rup_said names others front (Some hints) step h = by (closing_of (behind_terms front)) h
  where
    by : (o : Option ℤ) → option_map (λ c. steps.Rup c) (option_map (signed names front) o) ≡ Some step → (q : Step) × (option_map (λ c. steps.Rup c) (option_map (signed others front) o) ≡ Some q) × IsProper q
    by None h = cc
    by (Some n) h = (steps.Rup (signed others front n), refl, tt)

-- the parts of a step of redundance
pub red_parts : (t : Bool) (o : Option Bool) (c : Signed) (images : List (Var × Image)) (step : Step) → (if t then option_map (λ x. red_step c images x) o else None) ≡ Some step
    → (block : Bool) × (t ≡ true) × (o ≡ Some block) × (step ≡ red_step c images block)
red_parts true None c images step h = cc
red_parts true (Some block) c images step h = (block, refl, refl, cc)
red_parts false o c images step h = cc

red_said : (names others front : List (List ℕ)) (b : Option (List (List ℕ))) (step : Step) → red_by names front b ≡ Some step → repeats (lefts (witness_words b)) ≡ false → HasNames others (front ++ witness_words b)
    → (q : Step) × (red_by others front b ≡ Some q) × IsProper q
red_said names others front None step h apart has = cc
red_said names others front (Some witness) step h apart has = by (closing_of (behind_terms front)) h
  where
    by : (o : Option ℤ) → red_with names (halves witness) (option_map (signed names front) o) ≡ Some step → (q : Step) × (red_with others (halves witness) (option_map (signed others front) o) ≡ Some q) × IsProper q
    by None h = cc
    by (Some n) h =
        let w = halves witness in
        let p = red_parts (are_images w.front) (begins_block w.behind) (signed names front n) (images_of names w.front) step h in
        let c : Signed = signed others front n in
        let images = images_of others w.front in (
          red_step c images p.0,
          ap (λ t. if t then option_map (λ x. red_step c images x) (begins_block w.behind) else None) p.1 ∙ ap (λ o. option_map (λ x. red_step c images x) o) p.2,
          proper_step c images p.0 (no_variable_twice others w.front apart p.1 (HasNames-back others front w.front has)),
        )

goal_said : (o : Option GoalName) (step : Step) → option_map (λ x. steps.Goal x) o ≡ Some step → (q : Step) × (option_map (λ x. steps.Goal x) o ≡ Some q) × IsProper q
goal_said None step h = cc
goal_said (Some goal) step h = (steps.Goal goal, refl, tt)

-- whether a line has the form of its rule does not depend on the table
pub said_anyway : (rule : Rule) (names others ws : List (List ℕ)) (step : Step) → step_by rule names ws ≡ Some step → IsApart rule ws → HasNames others (counted_by rule ws) → Said rule others ws
said_anyway rules.Pol names others ws step h apart has =
    (steps.Pol (items_of others (unclosed ws)), choose (are_items (unclosed ws)) (steps.Pol (items_of names (unclosed ws))) step (steps.Pol (items_of others (unclosed ws))) h, tt)
said_anyway rules.Rup names others ws step h apart has = rup_said names others (halves ws).front (halves ws).behind step h
said_anyway rules.Red names others ws step h apart has = red_said names others (halves ws).front (halves ws).behind step h apart has
said_anyway rules.Sol names others ws step h apart has =
    (steps.Sol (literals_of others (unclosed ws)), choose (are_literals (unclosed ws)) (steps.Sol (literals_of names (unclosed ws))) step (steps.Sol (literals_of others (unclosed ws))) h, tt)
said_anyway rules.Soli names others ws step h apart has =
    (steps.Soli (literals_of others (unclosed ws)), choose (are_literals (unclosed ws)) (steps.Soli (literals_of names (unclosed ws))) step (steps.Soli (literals_of others (unclosed ws))) h, tt)
said_anyway rules.Del names others ws step h apart has =
    (steps.Del (integers_of (unclosed (drop 1 ws))), choose (is_deletion ws) (steps.Del (integers_of (unclosed (drop 1 ws)))) step (steps.Del (integers_of (unclosed (drop 1 ws)))) h, tt)
said_anyway rules.Goal names others ws step h apart has = goal_said (goal_of (unclosed ws)) step h
said_anyway rules.End names others ws step h apart has = (steps.End, choose (is_closing (unclosed ws)) steps.End step steps.End h, tt)

red_apart : (names front : List (List ℕ)) (b : Option (List (List ℕ))) (step : Step) → red_by names front b ≡ Some step → IsProper step → repeats (lefts (witness_words b)) ≡ false
red_apart names front None step h proper = cc
red_apart names front (Some witness) step h proper = by (closing_of (behind_terms front)) h
  where
    by : (o : Option ℤ) → red_with names (halves witness) (option_map (signed names front) o) ≡ Some step → repeats (lefts (halves witness).front) ≡ false
    by None h = cc
    by (Some n) h =
        let w = halves witness in
        let p = red_parts (are_images w.front) (begins_block w.behind) (signed names front n) (images_of names w.front) step h in
        no_name_twice names w.front (once_in (signed names front n) (images_of names w.front) p.0 (subst IsProper p.3 proper))

-- where no variable stands twice, no name does
pub apart : (rule : Rule) (names ws : List (List ℕ)) (step : Step) → step_by rule names ws ≡ Some step → IsProper step → IsApart rule ws
apart rules.Pol names ws step h proper = tt
apart rules.Rup names ws step h proper = tt
apart rules.Red names ws step h proper = red_apart names (halves ws).front (halves ws).behind step h proper
apart rules.Sol names ws step h proper = tt
apart rules.Soli names ws step h proper = tt
apart rules.Del names ws step h proper = tt
apart rules.Goal names ws step h proper = tt
apart rules.End names ws step h proper = tt

-- a fault of a form is one of the rule's words
pub denied_rule : (f : ProofFault) (rule : Rule) (form : Bool) (part names ws : List (List ℕ)) → ((step : Step) → step_by rule (names_in names (counted_by rule ws)) ws ≡ Some step → form ≡ true)
    → (AreSmall (counted_by rule ws) → AreSmall part) → Denies f form part → DeniesRule f rule names ws
denied_rule f rule form part names ws g s d =
    let all = names_in names (counted_by rule ws) in
    part_denied f form part (NoStepBy rule names ws) (SomeStepBy rule names ws) (counted_by rule ws) all (λ none step h proper. cc (sym none ∙ g step h)) s d

front_small : (xs ys : List (List ℕ)) → AreSmall (xs ++ ys) → AreSmall xs
front_small [] ys s = none_small
front_small (x ∷ xs) ys s = all_small x xs (first_small x (xs ++ ys) s) (front_small xs ys (rest_small x (xs ++ ys) s))

back_small : (xs ys : List (List ℕ)) → AreSmall (xs ++ ys) → AreSmall ys
back_small [] ys s = s
back_small (x ∷ xs) ys s = back_small xs ys (rest_small x (xs ++ ys) s)

red_form : (names front : List (List ℕ)) (b : Option (List (List ℕ))) (step : Step) → red_by names front b ≡ Some step → (is_some b && is_some (closing_of (behind_terms front))) ≡ true
red_form names front None step h = cc
red_form names front (Some witness) step h = by (closing_of (behind_terms front)) h
  where
    by : (o : Option ℤ) → red_with names (halves witness) (option_map (signed names front) o) ≡ Some step → is_some o ≡ true
    by None h = cc
    by (Some n) h = refl

pub denied_red : (f : ProofFault) (names ws : List (List ℕ)) → Denies f (is_some (halves ws).behind && is_some (closing_of (behind_terms (halves ws).front))) (halves ws).front → DeniesRule f rules.Red names ws
denied_red f names ws d =
    denied_rule f rules.Red _ (halves ws).front names ws
    (λ step h. red_form (names_in names (counted_by rules.Red ws)) (halves ws).front (halves ws).behind step h)
    (λ s. front_small (halves ws).front (witness_words (halves ws).behind) s) d

-- a substitution, and what stands behind it
witness_form : (names front witness : List (List ℕ)) (step : Step) → red_by names front (Some witness) ≡ Some step → (are_images (halves witness).front ≡ true) × (is_some (begins_block (halves witness).behind) ≡ true)
witness_form names front witness step h = by (closing_of (behind_terms front)) h
  where
    by : (o : Option ℤ) → red_with names (halves witness) (option_map (signed names front) o) ≡ Some step → (are_images (halves witness).front ≡ true) × (is_some (begins_block (halves witness).behind) ≡ true)
    by None h = cc
    by (Some n) h =
        let w = halves witness in
        let p = red_parts (are_images w.front) (begins_block w.behind) (signed names front n) (images_of names w.front) step h in
        (p.1, ap is_some p.2)

pub denied_images : (f : ProofFault) (names ws witness : List (List ℕ)) → (halves ws).behind ≡ Some witness → Denies f (are_images (halves witness).front) (halves witness).front → DeniesRule f rules.Red names ws
denied_images f names ws witness b d =
    denied_rule f rules.Red (are_images (halves witness).front) (halves witness).front names ws
    (λ step h. (witness_form (names_in names (counted_by rules.Red ws)) (halves ws).front witness step (sym (ap (red_by (names_in names (counted_by rules.Red ws)) (halves ws).front) b) ∙ h)).0)
    (λ s. back_small (halves ws).front (halves witness).front (subst (λ o. AreSmall ((halves ws).front ++ witness_words o)) b s)) d

-- something else than `begin` stands behind a substitution
pub denied_behind : (f : ProofFault) (names ws witness : List (List ℕ)) → (halves ws).behind ≡ Some witness → begins_block (halves witness).behind ≡ None → IsForm f → DeniesRule f rules.Red names ws
denied_behind f names ws witness b g form =
    let all = names_in names (counted_by rules.Red ws) in
    form_denied f (NoStepBy rules.Red names ws) (SomeStepBy rules.Red names ws) (counted_by rules.Red ws) all form
    (λ step h proper. cc (sym (ap is_some g) ∙ (witness_form all (halves ws).front witness step (sym (ap (red_by all (halves ws).front) b) ∙ h)).1))

-- a name found no number
pub denied_full : (f : ProofFault) (k new : NamesMet) (ws witness : List (List ℕ)) (step : Step) → f ≡ (if repeats (lefts (halves witness).front) then faults.BadLine else faults.TooManyIds) → (halves ws).behind ≡ Some witness
    → k.full ≡ false → new ≡ met_in k (counted_by rules.Red ws) → new.full ≡ true → AreSmall (counted_by rules.Red ws) → step_by rules.Red new.names ws ≡ Some step → DeniesRule f rules.Red k.names ws
denied_full f k new ws witness step is b none known full small said = by (repeats (lefts (halves witness).front)) refl is
  where
    there : repeats (lefts (witness_words (halves ws).behind)) ≡ repeats (lefts (halves witness).front)
    there = ap (λ o. repeats (lefts (witness_words o))) b

    by : (t : Bool) → repeats (lefts (halves witness).front) ≡ t → f ≡ (if t then faults.BadLine else faults.TooManyIds) → DeniesRule f rules.Red k.names ws
    by true e is =
        subst (λ g. DeniesRule g rules.Red k.names ws) (sym is)
        (λ s h proper. absurd (cc (sym e ∙ sym there ∙ apart rules.Red (names_in k.names (counted_by rules.Red ws)) ws s h proper)))
    by false e is =
        let all = names_in k.names (counted_by rules.Red ws) in
        let far : most_names < length all = too_many k (counted_by rules.Red ws) none (sym (ap (λ (m : NamesMet). m.full) known) ∙ full) in
        subst (λ g. DeniesRule g rules.Red k.names ws) (sym is)
        (small, said_anyway rules.Red new.names all ws step said (there ∙ e) (has_names k.names (counted_by rules.Red ws)), omega (arith, far))

-- where every name found one, the table is the one that has them all
pub table_whole : (k new : NamesMet) (ws : List (List ℕ)) → k.full ≡ false → new ≡ met_in k ws → new.full ≡ false → new.names ≡ names_in k.names ws
table_whole k new ws none known full = ap (λ (m : NamesMet). m.names) known ∙ all_found k ws none (sym (ap (λ (m : NamesMet). m.full) known) ∙ full)

one_step : (x y : Step) → ◌≡◌ {A = Option Step} (Some x) (Some y) → x ≡ y
one_step x y h = cc

-- a name stands twice
pub denied_twice : (k mid new : NamesMet) (ws witness : List (List ℕ)) (c : Signed) (images : List (Var × Image)) (block : Bool) → k.full ≡ false → IsConstraintRead k (halves ws).front c mid → (halves ws).behind ≡ Some witness
    → IsRead are_images images_of mid (halves witness).front images new → begins_block (halves witness).behind ≡ Some block → new.full ≡ false → (NamesOnce images → ⊥) → NoStepBy rules.Red k.names ws
denied_twice k mid new ws witness c images block none r b i g full twice step says proper =
    let names : new.names ≡ names_in k.names (counted_by rules.Red ws) = table_whole k new (counted_by rules.Red ws) none (red_known k mid new ws witness c images r b i) full in
    let same : Some step ≡ Some (red_step c images block) = sym says ∙ ap (λ n. step_by rules.Red n ws) (sym names) ∙ red_says k mid new ws witness c images block r b i g in
    let one : step ≡ red_step c images block = one_step step (red_step c images block) same in
    twice (once_in c images block (subst IsProper one proper))

-- other lines of a subproof
goal_form : (o : Option GoalName) (step : Step) → option_map (λ x. steps.Goal x) o ≡ Some step → is_some o ≡ true
goal_form None step h = cc
goal_form (Some goal) step h = refl

pub denied_goal : (f : ProofFault) (names ws : List (List ℕ)) → Denies f (is_some (goal_of (unclosed ws))) (unclosed ws) → DeniesRule f rules.Goal names ws
denied_goal f names ws d = denied_rule f rules.Goal (is_some (goal_of (unclosed ws))) (unclosed ws) names ws (λ step h. goal_form (goal_of (unclosed ws)) step h) (λ s. s) d

pub denied_end : (f : ProofFault) (names ws : List (List ℕ)) → Denies f (is_closing (unclosed ws)) (unclosed ws) → DeniesRule f rules.End names ws
denied_end f names ws d = denied_rule f rules.End (is_closing (unclosed ws)) (unclosed ws) names ws (λ step h. (test (is_closing (unclosed ws)) steps.End step h).0) (λ s. s) d
