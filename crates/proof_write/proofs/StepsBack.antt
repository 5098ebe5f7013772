-- A written step reads back, as a whole line.
use Rattle.std.proofs.Common.{◌≡◌, ◌⊎◌, inl, inr, ℕ, Bool, true, false, not, ◌&&◌, ◌||◌, if◌then◌else◌, Option, Some, None, List, [], ◌∷◌, ◌++◌, drop, length, refl, sym, ap, subst, ◌∙◌, arith, append_assoc, codes}
use Rattle.std.specs.Str.{bytes_eq}
use Rattle.std.specs.Fmt.{signed_decimal}
use Rattle.std.specs.Prelude.{All}
use Rattle.std.specs.List.{flat_map}
use Rattle.std.specs.Option.{option_map}
use Rattle.std.proofs.lemmas.List.{append-nil}
use Rattle.std.proofs.lemmas.List.Elements.{All-head, All-tail, All-append}
use Rattle.pb_text.specs.Lexeme.{kind_of, kind_of_word}
use Rattle.pb_text.specs.Name.{is_name}
use Rattle.pb_text.specs.Word.{name_of, is_integer as integer_word, is_literal as literal_word, is_misspelt}
use Rattle.pb_text.specs.Number.{integer_value}
use Rattle.pb_text.specs.declared.kind.Kind.TheVariants.{Symbol, Integer, Other}
use Rattle.pb_text.specs.declared.kind.Symbol.TheVariants.{Arrow}
use Rattle.linear.specs.Table.{with_name, IsTable}
use Rattle.linear.specs.declared.term.Var.{Var}
use Rattle.linear.specs.declared.constraint.Signed.{Signed}
use Rattle.substitution.specs.declared.image.Image.{Image}
use Rattle.substitution.specs.declared.image.Image.TheVariants as images
use Rattle.proof_steps.specs.declared.step.GoalName.{GoalName}
use Rattle.proof_steps.specs.declared.step.GoalName.TheVariants as goals
use Rattle.proof_steps.specs.declared.step.Step.{Step}
use Rattle.proof_steps.specs.declared.step.Step.TheVariants as steps
use Rattle.proof_text.specs.declared.keyword.Rule.{Rule}
use Rattle.proof_text.specs.declared.keyword.Rule.TheVariants as rules
use Rattle.proof_text.specs.declared.line.Line.TheVariants as lines
use Rattle.proof_text.specs.declared.line.Section.{Section}
use Rattle.proof_text.specs.declared.line.Section.TheVariants as sections
use Rattle.proof_text.specs.Kinds.{is_integer, is_literal, is_semicolon, is_arrow}
use Rattle.proof_text.specs.Words.{Halves, halves, is_first, are_words, begins_integer, IsSmall, AreSmall, words}
use Rattle.proof_text.specs.Numbering.{names_in, lit_of}
use Rattle.proof_lines.specs.Lines.{parted}
use Rattle.proof_text.specs.Rules.{rule_of}
use Rattle.proof_text.specs.Forms.{are_literals, literals_of, are_integers, integers_of, are_items, items_of, is_image, image_of, are_images, images_of}
use Rattle.proof_text.specs.Sections.{HasSteps, StepStands}
use Rattle.proof_text.specs.Spells.{is_outside, is_block, may_stand, is_misplaced, IsLine}
use Rattle.proof_text.specs.Steps.{constraint_of, rup_by, begins_block, red_step, red_by, red_with, goal_named, goal_of, witness_words, step_by, counted_by, step_of, counted, IsProper, IsStep}
use Rattle.proof_write.specs.Writing.{name_at, lit_words, number_words, item_words, constraint_words, image_word, pair_words, red_words, goal_word, step_words, line_text}
use Rattle.proof_text.specs.Writable.{IsConstraintWritable, IsImageWritable, IsPairWritable, IsGoalWritable, IsStepWritable}
use Rattle.proof_write.proofs.WordsCut.{IsToken, plain_token, semicolon_token, arrow_token, AreTokens, AreTokens-append, line_words, line_alone}
use Rattle.proof_text.proofs.SubstitutionsRead.{arrow_pair, zero_kind, one_kind}
use Rattle.proof_text.proofs.LinesOfSections.{step_at, counted_at, misplaced_at, SaysSteps, inside, outside, step_placed}
use Rattle.proof_text.proofs.PolItems.{first_word}
use Rattle.proof_text.proofs.WordsByKind.{none_small}
use Rattle.proof_write.proofs.NumeralsBack.{numeral}
use Rattle.proof_write.proofs.PartsBack.{IsGood, AreGood, good_number, good_tokens, good_small, good_names, good_open, good_halves, good_literal, good_other, lit_back, var_back, lits_good, lits_back, numbers_good, numbers_back, front_words, front_good, whole_front, constraint_back, all_items_good, items_back}

-- images
digit_kinds : (kind_of (codes "0") ≡ Integer) × (kind_of (codes "1") ≡ Integer) × (kind_of (codes "->") ≡ Symbol Arrow)
unfolding kind_of kind_of_word integer_word literal_word is_misspelt is_name
digit_kinds = (refl, refl, refl)

digit_good : (names : List (List ℕ)) (w : List ℕ) → kind_of w ≡ Integer → IsSmall w → IsToken w → IsGood names w
digit_good names w e s t = record {
  token = t;
  mark = ap is_semicolon e;
  small = s;
  known = ap (λ x. if is_literal x then with_name names (name_of w) else names) e;
}

image_good : (names : List (List ℕ)) (i : Image) → IsTable names → IsImageWritable (length names) i → IsGood names (image_word names i)
image_good names (images.Lit l) t h = good_literal names l.negated l.var t h
image_good names images.Zero t h = digit_good names (codes "0") digit_kinds.0 (λ e. zero_kind.1) (plain_token (codes "0") refl (omega arith))
image_good names images.One t h = digit_good names (codes "1") digit_kinds.1 (λ e. one_kind.1) (plain_token (codes "1") refl (omega arith))

image_back : (names : List (List ℕ)) (i : Image) → IsTable names → IsImageWritable (length names) i → (is_image (image_word names i) ≡ true) × (image_of names (image_word names i) ≡ i)
image_back names (images.Lit l) t h =
    let p = lit_back names l t h in
    (rw p.0 refl, rw p.0 (ap (λ x. images.Lit x) p.1))
image_back names images.Zero t h =
    (ap (λ b. b || true || false) zero_kind.0, ap (λ b. if b then images.Lit (lit_of names (codes "0")) else images.Zero) zero_kind.0)
image_back names images.One t h =
    (ap (λ b. b || false || true) one_kind.0, ap (λ b. if b then images.Lit (lit_of names (codes "1")) else images.One) one_kind.0)

pairs_good : (names : List (List ℕ)) (ps : List (Var × Image)) → IsTable names → All (IsPairWritable (length names)) ps → AreGood names (flat_map (pair_words names) ps)
pairs_good names [] t h = tt
pairs_good names (p ∷ ps) t h =
    let w = All-head (IsPairWritable (length names)) p ps h in (
      good_literal names false p.0 t w.0,
      (
        good_other names (codes "->") (Symbol Arrow) digit_kinds.2 refl refl refl arrow_token,
        (image_good names p.1 t w.1, pairs_good names ps t (All-tail (IsPairWritable (length names)) p ps h)),
      ),
    )

abbrev both : Var → Image → Var × Image
both v i = (v, i)

pairs_back : (names : List (List ℕ)) (ps : List (Var × Image)) → IsTable names → All (IsPairWritable (length names)) ps
    → (are_images (flat_map (pair_words names) ps) ≡ true) × (images_of names (flat_map (pair_words names) ps) ≡ ps)
pairs_back names [] t h = (refl, refl)
pairs_back names (p ∷ ps) t h =
    let w = All-head (IsPairWritable (length names)) p ps h in
    let q = pairs_back names ps t (All-tail (IsPairWritable (length names)) p ps h) in
    let x = name_at names p.0 in
    let i = image_word names p.1 in
    let rest = flat_map (pair_words names) ps in
    let a = arrow_pair names x (codes "->") i rest (ap is_arrow digit_kinds.2) in
    let v = var_back names p.0 t w.0 in
    let m = image_back names p.1 t w.1 in (
      a.0 ∙ ap (λ b. b && (is_image i && are_images rest)) v.0 ∙ ap (λ b. b && are_images rest) m.0 ∙ q.0,
      a.1 ∙ ap (λ y. both y (image_of names i) ∷ images_of names rest) v.1 ∙ ap (λ y. both p.0 y ∷ images_of names rest) m.1 ∙ ap (λ ys. p ∷ ys) q.1,
    )

-- a line that begins with a rule's word
line_read : (names : List (List ℕ)) → IsTable names → (w : List ℕ) (ws : List (List ℕ)) (rule : Rule) (step : Step) → rule_of w ≡ Some rule → words (line_text (w ∷ ws)) ≡ w ∷ ws → step_by rule names ws ≡ Some step → IsProper step
    → names_in names (counted_by rule ws) ≡ names → AreSmall (counted_by rule ws) → IsStep names (words (line_text (w ∷ ws))) step names
line_read names t w ws rule step r e says proper known small =
    let c : counted (w ∷ ws) ≡ counted_by rule ws = counted_at w ws (Some rule) r in
    subst (λ x. IsStep names x step names) (sym e) (record {
      names = sym known ∙ ap (names_in names) (sym c);
      few = t.numbered;
      says = step_at names w ws (Some rule) r ∙ says;
      proper = proper;
      small = subst AreSmall (sym c) small;
    })

rule_words : (rule_of (codes "pol") ≡ Some rules.Pol) × (rule_of (codes "rup") ≡ Some rules.Rup) × (rule_of (codes "red") ≡ Some rules.Red)
    × (rule_of (codes "sol") ≡ Some rules.Sol) × (rule_of (codes "soli") ≡ Some rules.Soli) × (rule_of (codes "del") ≡ Some rules.Del)
    × (rule_of (codes "proofgoal") ≡ Some rules.Goal) × (rule_of (codes "end") ≡ Some rules.End)
unfolding rule_of
rule_words = (refl, refl, refl, refl, refl, refl, refl, refl)

names_in-append : (names xs ys : List (List ℕ)) → names_in names (xs ++ ys) ≡ names_in (names_in names xs) ys
names_in-append names [] ys = refl
names_in-append names (w ∷ xs) ys = names_in-append (if is_literal (kind_of w) then with_name names (name_of w) else names) xs ys

-- the words behind a constraint's rule
constraint_halves : (names rest : List (List ℕ)) (c : Signed) → IsTable names → IsConstraintWritable (length names) c → halves (constraint_words names c ++ rest) ≡ record { front = front_words names c; behind = Some rest }
constraint_halves names rest c t h = ap halves (whole_front names rest c) ∙ good_halves names (front_words names c) rest (front_good names c t h)

constraint_tokens : (names rest : List (List ℕ)) (c : Signed) → IsTable names → IsConstraintWritable (length names) c → AreTokens rest → AreTokens (constraint_words names c ++ rest)
constraint_tokens names rest c t h r =
    subst AreTokens (sym (whole_front names rest c))
    (AreTokens-append (front_words names c) (codes ";" ∷ rest) (good_tokens names (front_words names c) (front_good names c t h)) (semicolon_token, r))

-- what the line of words says, and that its words are tokens
pub record LineBack (names : List (List ℕ)) (step : Step) (ws : List (List ℕ)) : Type 0 where
  pub says : IsStep names (words (line_text ws)) step names
  pub cut : words (line_text ws) ≡ ws
  pub one : (parted (line_text ws)).others ≡ []

-- words without `;` are all before it
no_semicolon : (names ws : List (List ℕ)) → AreGood names ws → halves ws ≡ record { front = ws; behind = None }
no_semicolon names [] h = refl
no_semicolon names (w ∷ ws) h =
    ap (λ t. let x : Halves = if t then record { front = []; behind = Some ws } else record { front = w ∷ (halves ws).front; behind = (halves ws).behind } in x) h.0.mark
    ∙ ap (λ (x : Halves). let y : Halves = record { front = w ∷ x.front; behind = x.behind } in y) (no_semicolon names ws h.1)

-- a constraint, a substitution, and what stands behind it
red_back : (names : List (List ℕ)) (c : Signed) (images : List (Var × Image)) (block : Bool) (tail : List (List ℕ)) (behind : Option (List (List ℕ))) → IsTable names → IsConstraintWritable (length names) c
    → All (IsPairWritable (length names)) images → IsProper (red_step c images block) → halves (flat_map (pair_words names) images ++ tail) ≡ record { front = flat_map (pair_words names) images; behind = behind }
    → begins_block behind ≡ Some block → AreTokens tail → LineBack names (red_step c images block) (codes "red" ∷ (constraint_words names c ++ (flat_map (pair_words names) images ++ tail)))
red_back names c images block tail behind t h k proper apart begins last =
    let front = front_words names c in
    let wit = flat_map (pair_words names) images in
    let witness = wit ++ tail in
    let ws = constraint_words names c ++ witness in
    let gw = pairs_good names images t k in
    let g = front_good names c t h in
    let halved : Halves = record { front = wit; behind = behind } in
    let cut : halves ws ≡ record { front = front; behind = Some witness } = constraint_halves names witness c t h in
    let tokens : AreTokens ws = constraint_tokens names witness c t h (AreTokens-append wit tail (good_tokens names wit gw) last) in
    let tok : IsToken (codes "red") = plain_token (codes "red") refl (omega arith) in
    let b = pairs_back names images t k in
    let counts : counted_by rules.Red ws ≡ front ++ wit = ap (λ (x : Halves). x.front ++ witness_words x.behind) cut ∙ ap (λ (x : Halves). front ++ x.front) apart in
    record {
      says = line_read names t (codes "red") ws rules.Red (red_step c images block) rule_words.2 (line_words (codes "red") ws tok tokens refl)
          (ap (λ (x : Halves). red_by names x.front x.behind) cut
          ∙ ap (λ (x : Halves). red_with names x (constraint_of names front)) apart
          ∙ ap (red_with names halved) (constraint_back names c t h)
          ∙ ap (λ x. if x then option_map (λ y. red_step c (images_of names wit) y) (begins_block behind) else None) b.0
          ∙ ap (λ o. option_map (λ y. red_step c (images_of names wit) y) o) begins
          ∙ ap (λ xs. Some (red_step c xs block)) b.1)
          proper (ap (names_in names) counts ∙ names_in-append names front wit ∙ ap (λ n. names_in n wit) (good_names names front g) ∙ good_names names wit gw)
          (subst AreSmall (sym counts) (All-append IsSmall front wit (good_small names front g) (good_small names wit gw)));
      cut = line_words (codes "red") ws tok tokens refl;
      one = line_alone (codes "red") ws tok tokens;
    }

begin_open : is_semicolon (kind_of (codes "begin")) ≡ false
unfolding kind_of kind_of_word integer_word literal_word is_misspelt is_name
begin_open = refl

begins : begins_block (Some (codes "begin" ∷ [])) ≡ Some true
begins = ap (λ b. if are_words (codes "begin" ∷ []) (if b then [] else codes "begin" ∷ []) then Some true else None) begin_open

-- goals
mark_kinds : (kind_of (codes "#1") ≡ Other) × (kind_of (codes "#2") ≡ Other)
unfolding kind_of kind_of_word integer_word literal_word is_misspelt is_name
mark_kinds = (refl, refl)

goal_good : (names : List (List ℕ)) (goal : GoalName) → IsGoalWritable goal → IsGood names (goal_word goal)
goal_good names (goals.Live id) h = good_number names id h
goal_good names goals.Itself h = good_other names (codes "#1") Other mark_kinds.0 refl refl refl (plain_token (codes "#1") refl (omega arith))
goal_good names goals.Objective h = good_other names (codes "#2") Other mark_kinds.1 refl refl refl (plain_token (codes "#2") refl (omega arith))

goal_back : (goal : GoalName) → IsGoalWritable goal → goal_named (goal_word goal) ≡ Some goal
goal_back (goals.Live id) h =
    let m = numeral id h in
    let w = signed_decimal id in
    ap (λ k. if is_integer k then Some (goals.Live (integer_value w)) else if bytes_eq w (codes "#1") then Some goals.Itself else if bytes_eq w (codes "#2") then Some goals.Objective else None) m.kind
    ∙ ap (λ n. Some (goals.Live n)) m.value
goal_back goals.Itself h = ap (λ k. if is_integer k then Some (goals.Live (integer_value (codes "#1"))) else Some goals.Itself) mark_kinds.0
goal_back goals.Objective h = ap (λ k. if is_integer k then Some (goals.Live (integer_value (codes "#2"))) else Some goals.Objective) mark_kinds.1

pub step_back : (names : List (List ℕ)) (step : Step) → IsTable names → IsStepWritable (length names) step → IsProper step → LineBack names step (step_words names step)
step_back names (steps.Pol is) t h p =
    let ws = flat_map (item_words names) is in
    let g = all_items_good names is t h in
    let open_ws = good_open names ws g in
    let b = items_back names is t h in
    let tok : IsToken (codes "pol") = plain_token (codes "pol") refl (omega arith) in
    record {
      says = line_read names t (codes "pol") ws rules.Pol (steps.Pol is) rule_words.0 (line_words (codes "pol") ws tok (good_tokens names ws g) refl)
          (ap (λ u. if are_items u then Some (steps.Pol (items_of names u)) else None) open_ws ∙ ap (λ x. if x then Some (steps.Pol (items_of names ws)) else None) b.0 ∙ ap (λ x. Some (steps.Pol x)) b.1)
          p (ap (names_in names) open_ws ∙ good_names names ws g) (subst AreSmall (sym open_ws) (good_small names ws g));
      cut = line_words (codes "pol") ws tok (good_tokens names ws g) refl;
      one = line_alone (codes "pol") ws tok (good_tokens names ws g);
    }
step_back names (steps.Sol ls) t h p =
    let ws = flat_map (lit_words names) ls in
    let g = lits_good names ls t h in
    let open_ws = good_open names ws g in
    let b = lits_back names ls t h in
    let tok : IsToken (codes "sol") = plain_token (codes "sol") refl (omega arith) in
    record {
      says = line_read names t (codes "sol") ws rules.Sol (steps.Sol ls) rule_words.3 (line_words (codes "sol") ws tok (good_tokens names ws g) refl)
          (ap (λ u. if are_literals u then Some (steps.Sol (literals_of names u)) else None) open_ws ∙ ap (λ x. if x then Some (steps.Sol (literals_of names ws)) else None) b.0 ∙ ap (λ x. Some (steps.Sol x)) b.1)
          p (ap (names_in names) open_ws ∙ good_names names ws g) (subst AreSmall (sym open_ws) (good_small names ws g));
      cut = line_words (codes "sol") ws tok (good_tokens names ws g) refl;
      one = line_alone (codes "sol") ws tok (good_tokens names ws g);
    }
step_back names (steps.Soli ls) t h p =
    let ws = flat_map (lit_words names) ls in
    let g = lits_good names ls t h in
    let open_ws = good_open names ws g in
    let b = lits_back names ls t h in
    let tok : IsToken (codes "soli") = plain_token (codes "soli") refl (omega arith) in
    record {
      says = line_read names t (codes "soli") ws rules.Soli (steps.Soli ls) rule_words.4 (line_words (codes "soli") ws tok (good_tokens names ws g) refl)
          (ap (λ u. if are_literals u then Some (steps.Soli (literals_of names u)) else None) open_ws ∙ ap (λ x. if x then Some (steps.Soli (literals_of names ws)) else None) b.0 ∙ ap (λ x. Some (steps.Soli x)) b.1)
          p (ap (names_in names) open_ws ∙ good_names names ws g) (subst AreSmall (sym open_ws) (good_small names ws g));
      cut = line_words (codes "soli") ws tok (good_tokens names ws g) refl;
      one = line_alone (codes "soli") ws tok (good_tokens names ws g);
    }
step_back names (steps.Del ids) t h p =
    let ws = flat_map number_words ids in
    let g = numbers_good names ids h in
    let open_ws = good_open names ws g in
    let b = numbers_back ids h in
    let tok : IsToken (codes "del") = plain_token (codes "del") refl (omega arith) in
    let id_tok : IsToken (codes "id") = plain_token (codes "id") refl (omega arith) in
    record {
      says = line_read names t (codes "del") (codes "id" ∷ ws) rules.Del (steps.Del ids) rule_words.5 (line_words (codes "del") (codes "id" ∷ ws) tok (id_tok, good_tokens names ws g) refl)
          (ap (λ u. if are_integers u then Some (steps.Del (integers_of u)) else None) open_ws ∙ ap (λ x. if x then Some (steps.Del (integers_of ws)) else None) b.0 ∙ ap (λ x. Some (steps.Del x)) b.1)
          p (ap (names_in names) open_ws ∙ good_names names ws g) (subst AreSmall (sym open_ws) (good_small names ws g));
      cut = line_words (codes "del") (codes "id" ∷ ws) tok (id_tok, good_tokens names ws g) refl;
      one = line_alone (codes "del") (codes "id" ∷ ws) tok (id_tok, good_tokens names ws g);
    }
step_back names (steps.Rup c) t h p =
    let ws = constraint_words names c in
    let whole : ws ++ [] ≡ ws = append-nil ws in
    let cut : halves ws ≡ record { front = front_words names c; behind = Some [] } = ap halves (sym whole) ∙ constraint_halves names [] c t h in
    let tokens : AreTokens ws = subst AreTokens whole (constraint_tokens names [] c t h tt) in
    let tok : IsToken (codes "rup") = plain_token (codes "rup") refl (omega arith) in
    let g = front_good names c t h in
    record {
      says = line_read names t (codes "rup") ws rules.Rup (steps.Rup c) rule_words.1 (line_words (codes "rup") ws tok tokens refl)
          (ap (λ (x : Halves). rup_by names x.front x.behind) cut ∙ ap (λ o. option_map (λ x. steps.Rup x) o) (constraint_back names c t h))
          p (ap (λ (x : Halves). names_in names x.front) cut ∙ good_names names (front_words names c) g)
          (subst (λ (x : Halves). AreSmall x.front) (sym cut) (good_small names (front_words names c) g));
      cut = line_words (codes "rup") ws tok tokens refl;
      one = line_alone (codes "rup") ws tok tokens;
    }
step_back names (steps.Red c images) t h p =
    let wit = flat_map (pair_words names) images in
    let whole : wit ++ [] ≡ wit = append-nil wit in
    subst (λ ws. LineBack names (steps.Red c images) (codes "red" ∷ (constraint_words names c ++ ws))) whole
    (red_back names c images false [] None t h.0 h.1 p (ap halves whole ∙ no_semicolon names wit (pairs_good names images t h.1)) refl tt)
step_back names (steps.RedBegin c images) t h p =
    let wit = flat_map (pair_words names) images in
    let tail : List (List ℕ) = codes ";" ∷ codes "begin" ∷ [] in
    subst (λ ws. LineBack names (steps.RedBegin c images) (codes "red" ∷ ws)) (sym (append_assoc (constraint_words names c) wit tail))
    (red_back names c images true tail (Some (codes "begin" ∷ [])) t h.0 h.1 p (good_halves names wit (codes "begin" ∷ []) (pairs_good names images t h.1)) begins
    (semicolon_token, (plain_token (codes "begin") refl (omega arith), tt)))
step_back names (steps.Goal goal) t h p =
    let w = goal_word goal in
    let g : AreGood names (w ∷ []) = (goal_good names goal h, tt) in
    let open_ws = good_open names (w ∷ []) g in
    let tok : IsToken (codes "proofgoal") = plain_token (codes "proofgoal") refl (omega arith) in
    record {
      says = line_read names t (codes "proofgoal") (w ∷ []) rules.Goal (steps.Goal goal) rule_words.6 (line_words (codes "proofgoal") (w ∷ []) tok (good_tokens names (w ∷ []) g) refl)
          (ap (λ u. option_map (λ x. steps.Goal x) (goal_of u)) open_ws ∙ ap (λ o. option_map (λ x. steps.Goal x) o) (goal_back goal h))
          p (ap (names_in names) open_ws ∙ good_names names (w ∷ []) g) (subst AreSmall (sym open_ws) (good_small names (w ∷ []) g));
      cut = line_words (codes "proofgoal") (w ∷ []) tok (good_tokens names (w ∷ []) g) refl;
      one = line_alone (codes "proofgoal") (w ∷ []) tok (good_tokens names (w ∷ []) g);
    }
step_back names steps.End t h p =
    let tok : IsToken (codes "end") = plain_token (codes "end") refl (omega arith) in
    record {
      says = line_read names t (codes "end") [] rules.End steps.End rule_words.7 (line_words (codes "end") [] tok tt refl) refl p refl none_small;
      cut = line_words (codes "end") [] tok tt refl;
      one = line_alone (codes "end") [] tok tt;
    }

-- the sections at which a written step may stand
pol_fits : (section : Section) (numbered : Bool) → HasSteps section → may_stand rules.Pol section numbered ≡ true
pol_fits section numbered (inl e) = subst (λ q. may_stand rules.Pol q numbered ≡ true) (sym e) refl
pol_fits section numbered (inr (inl e)) = subst (λ q. may_stand rules.Pol q numbered ≡ true) (sym e) refl
pol_fits section numbered (inr (inr e)) = subst (λ q. may_stand rules.Pol q numbered ≡ true) (sym e) refl

fits : (section : Section) (names : List (List ℕ)) (w : List ℕ) (rest : List (List ℕ)) (rule : Rule) → rule_of w ≡ Some rule → may_stand rule section (begins_integer rest) ≡ true → is_misplaced section (w ∷ rest) ≡ false
fits section names w rest rule r m = misplaced_at section w rest (Some rule) r ∙ ap not m

end_fits : (section : Section) → (section ≡ sections.Block) ⊎ (section ≡ sections.Goal) → may_stand rules.End section false ≡ true
end_fits section (inl e) = subst (λ q. may_stand rules.End q false ≡ true) (sym e) refl
end_fits section (inr e) = subst (λ q. may_stand rules.End q false ≡ true) (sym e) refl

words_fit : (section : Section) (names : List (List ℕ)) (step : Step) → StepStands section step → is_misplaced section (step_words names step) ≡ false
words_fit section names (steps.Pol is) h = fits section names (codes "pol") (flat_map (item_words names) is) rules.Pol rule_words.0 (pol_fits section false h)
words_fit section names (steps.Rup c) h = fits section names (codes "rup") (constraint_words names c) rules.Rup rule_words.1 (pol_fits section false h)
words_fit section names (steps.Red c images) h = fits section names (codes "red") (red_words names c images) rules.Red rule_words.2 (ap is_outside h)
words_fit section names (steps.Sol ls) h = fits section names (codes "sol") (flat_map (lit_words names) ls) rules.Sol rule_words.3 (ap is_outside h)
words_fit section names (steps.Soli ls) h = fits section names (codes "soli") (flat_map (lit_words names) ls) rules.Soli rule_words.4 (ap is_outside h)
words_fit section names (steps.Del ids) h = fits section names (codes "del") (codes "id" ∷ flat_map number_words ids) rules.Del rule_words.5 (ap is_outside h)
words_fit section names (steps.RedBegin c images) h = fits section names (codes "red") (red_words names c images ++ codes ";" ∷ codes "begin" ∷ []) rules.Red rule_words.2 (ap is_outside h)
words_fit section names (steps.Goal goal) h = fits section names (codes "proofgoal") (goal_word goal ∷ []) rules.Goal rule_words.6 (ap is_block h)
words_fit section names steps.End h = fits section names (codes "end") [] rules.End rule_words.7 (end_fits section h)

some_section : (section : Section) (step : Step) → StepStands section step → HasSteps section
some_section section (steps.Pol is) h = h
some_section section (steps.Rup c) h = h
some_section section (steps.Red c images) h = inl h
some_section section (steps.Sol ls) h = inl h
some_section section (steps.Soli ls) h = inl h
some_section section (steps.Del ids) h = inl h
some_section section (steps.RedBegin c images) h = inl h
some_section section (steps.Goal goal) h = inr (inl h)
some_section section steps.End (inl e) = inr (inl e)
some_section section steps.End (inr e) = inr (inr e)

-- the line of a step is not the output line
output_rule : rule_of (codes "output") ≡ None
unfolding rule_of
output_rule = refl

not_output : (names ws : List (List ℕ)) (step : Step) → IsStep names ws step names → is_first (codes "output") ws ≡ false
not_output names ws step h = by (is_first (codes "output") ws) refl
  where
    by : (t : Bool) → is_first (codes "output") ws ≡ t → t ≡ false
    by false e = refl
    by true e =
        let nothing : step_of names ws ≡ None = ap (step_of names) (first_word (codes "output") ws e) ∙ step_at names (codes "output") (drop 1 ws) None output_rule in
        let x : ◌≡◌ {A = Option Step} None (Some step) = sym nothing ∙ h.says in
        cc

says_steps : (section : Section) (names ws : List (List ℕ)) (step : Step) → HasSteps section → IsStep names ws step names → SaysSteps section ws
says_steps section names ws step (inl e) h = subst (λ q. SaysSteps q ws) (sym e) (outside ws (not_output names ws step h))
says_steps section names ws step (inr e) h = inside section ws e

-- a written step reads back at each section at which it may stand
pub placed_back : (section : Section) (names : List (List ℕ)) (step : Step) → IsTable names → IsStepWritable (length names) step → IsProper step → StepStands section step
    → IsLine section names (words (line_text (step_words names step))) (lines.Step step) names
placed_back section names step t h p stands =
    let b = step_back names step t h p in
    let ws = words (line_text (step_words names step)) in
    step_placed section names names ws step (says_steps section names ws step (some_section section step stands) b.says)
    (ap (is_misplaced section) b.cut ∙ words_fit section names step stands) b.says
