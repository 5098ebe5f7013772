-- What is read can be written: its integers are within the limit, and the table numbers its variables.
use Rattle.std.proofs.Common.{◌≡◌, ℕ, zero, suc, ℤ, pos, neg_ℤ, ◌+◌, ◌<◌, ◌≤◌, Bool, true, false, not, cond, ◌&&◌, ◌||◌, if◌then◌else◌, Option, Some, None, List, [], ◌∷◌, ◌++◌, length, drop, refl, sym, ap, subst, ◌∙◌, arith, codes}
use Rattle.std.specs.Prelude.{All, ⊤, unsigned_abs}
use Rattle.std.specs.Option.{option_map}
use Rattle.std.specs.Str.{bytes_eq}
use Rattle.std.proofs.lemmas.List.Elements.{All-cons, All-nil}
use Rattle.pb_text.specs.Lexeme.{kind_of}
use Rattle.pb_text.specs.Word.{is_negated, name_of}
use Rattle.pb_text.specs.Number.{integer_size, integer_value, is_negative, largest_number}
use Rattle.linear.specs.Table.{same_name, has_name, place_of, with_name}
use Rattle.linear.specs.declared.constraint.Signed.{Signed}
use Rattle.linear.specs.declared.constraint.Relation.TheVariants as relations
use Rattle.substitution.specs.declared.image.Image.TheVariants as images
use Rattle.proof_steps.specs.declared.step.Item.TheVariants as items
use Rattle.proof_steps.specs.declared.step.GoalName.{GoalName}
use Rattle.proof_steps.specs.declared.step.GoalName.TheVariants as goals
use Rattle.proof_steps.specs.declared.step.Step.{Step}
use Rattle.proof_steps.specs.declared.step.Step.TheVariants as steps
use Rattle.proof_steps.specs.declared.conclusion.Lower.{Lower}
use Rattle.proof_steps.specs.declared.conclusion.Lower.TheVariants as lowers
use Rattle.proof_steps.specs.declared.conclusion.Upper.TheVariants as uppers
use Rattle.proof_steps.specs.declared.conclusion.Conclusion.{Conclusion}
use Rattle.proof_steps.specs.declared.conclusion.Conclusion.TheVariants as conclusions
use Rattle.proof_text.specs.declared.keyword.Rule.{Rule}
use Rattle.proof_text.specs.declared.keyword.Rule.TheVariants as rules
use Rattle.proof_text.specs.declared.keyword.ConclusionKind.{ConclusionKind}
use Rattle.proof_text.specs.declared.keyword.ConclusionKind.TheVariants as kinds
use Rattle.proof_text.specs.Kinds.{is_integer, is_literal, is_at_least, is_arrow}
use Rattle.proof_text.specs.Words.{Halves, halves, unclosed, is_empty, is_first, are_words, IsSmall, AreSmall}
use Rattle.proof_text.specs.Numbering.{names_in, lit_of}
use Rattle.proof_text.specs.Forms.{are_literals, literals_of, are_integers, integers_of, is_variable, variable_of, is_term, term_of, terms_of, behind_terms, closing_of, is_pair, pair_of, is_single, single_of, are_items, items_of, is_image, image_of, are_images, images_of}
use Rattle.proof_text.specs.Rules.{rule_of}
use Rattle.proof_text.specs.Steps.{constraint_of, rup_by, begins_block, red_step, red_by, red_with, is_deletion, goal_of, is_closing, witness_words, step_by, counted_by, step_of, counted, IsStep}
use Rattle.proof_text.specs.Conclusions.{conclusion_kind_of, is_hint, hint_of, hinted, past_id, is_id_hint, is_lower, lower_of, is_upper, upper_of, bounds_by, bounds_of, conclusion_by, literals_by, conclusion_said, literals_said, conclusion_of, conclusion_literals}
use Rattle.proof_text.specs.declared.line.Line.{Line}
use Rattle.proof_text.specs.declared.line.Line.TheVariants as lines
use Rattle.proof_text.specs.declared.line.Section.{Section}
use Rattle.proof_text.specs.declared.line.Section.TheVariants as sections
use Rattle.proof_text.specs.Frame.{header, count_of, output, ending}
use Rattle.proof_text.specs.Spells.{is_misplaced, step_at_section, line_of, naming, measured, IsLine}
use Rattle.proof_text.specs.Writable.{IsLineWritable, IsWritable, IsNamed, IsTermWritable, IsConstraintWritable, IsItemWritable, IsImageWritable, IsPairWritable, IsLitWritable, IsGoalWritable, IsStepWritable, IsLowerWritable, IsUpperWritable, IsHintWritable, IsConclusionWritable}
use Rattle.proof_text.proofs.ByFirstWord.{step_with, counted_with, judged_with, literals_with}
use Rattle.proof_text.proofs.WordsByKind.{first_small, rest_small, none_small}
use Rattle.linear.proofs.NumbersOfNames.{has_name-append, has_name-last}
use Rattle.proof_text.proofs.PolItems.{same_word}

pub both : (p q : Bool) → (p && q) ≡ true → (p ≡ true) × (q ≡ true)
both true q h = (refl, h)
both false q h = cc

-- a table has the names of the literals among words
abbrev pub HasNames : List (List ℕ) → List (List ℕ) → Type 0
HasNames names [] = ⊤
HasNames names (w ∷ ws) = (is_literal (kind_of w) ≡ true → has_name names (name_of w) ≡ true) × HasNames names ws

pub HasNames-front : (names xs ys : List (List ℕ)) → HasNames names (xs ++ ys) → HasNames names xs
HasNames-front names [] ys h = tt
HasNames-front names (x ∷ xs) ys h = (h.0, HasNames-front names xs ys h.1)

pub HasNames-back : (names xs ys : List (List ℕ)) → HasNames names (xs ++ ys) → HasNames names ys
HasNames-back names [] ys h = h
HasNames-back names (x ∷ xs) ys h = HasNames-back names xs ys h.1

front_small : (xs ys : List (List ℕ)) → AreSmall (xs ++ ys) → AreSmall xs
front_small [] ys s = none_small
front_small (x ∷ xs) ys s = All-cons IsSmall x xs (first_small x (xs ++ ys) s) (front_small xs ys (rest_small x (xs ++ ys) s))

kept_name : (names : List (List ℕ)) (other name : List ℕ) → has_name names name ≡ true → has_name (with_name names other) name ≡ true
kept_name names other name h = by (has_name names other)
  where
    by : (b : Bool) → has_name (if b then names else names ++ other ∷ []) name ≡ true
    by true = h
    by false = has_name-append names (other ∷ []) name h

kept_names : (names ws : List (List ℕ)) (name : List ℕ) → has_name names name ≡ true → has_name (names_in names ws) name ≡ true
kept_names names [] name h = h
kept_names names (w ∷ ws) name h = by (is_literal (kind_of w)) (kept_names (with_name names (name_of w)) ws name (kept_name names (name_of w) name h)) (kept_names names ws name h)
  where
    by : (b : Bool) → has_name (names_in (with_name names (name_of w)) ws) name ≡ true → has_name (names_in names ws) name ≡ true
        → has_name (names_in (if b then with_name names (name_of w) else names) ws) name ≡ true
    by true e f = e
    by false e f = f

new_name : (names : List (List ℕ)) (name : List ℕ) → has_name (with_name names name) name ≡ true
new_name names name = by (has_name names name) refl
  where
    by : (b : Bool) → has_name names name ≡ b → has_name (if b then names else names ++ name ∷ []) name ≡ true
    by true e = e
    by false e = has_name-last names name

-- the names of a line have numbers once it is read
pub has_names : (names ws : List (List ℕ)) → HasNames (names_in names ws) ws
has_names names [] = tt
has_names names (w ∷ ws) = by (is_literal (kind_of w)) (has_names (with_name names (name_of w)) ws) (has_names names ws)
  where
    by : (b : Bool) → HasNames (names_in (with_name names (name_of w)) ws) ws → HasNames (names_in names ws) ws
        → (b ≡ true → has_name (names_in (if b then with_name names (name_of w) else names) ws) (name_of w) ≡ true) × HasNames (names_in (if b then with_name names (name_of w) else names) ws) ws
    by true e f = (λ t. kept_names (with_name names (name_of w)) ws (name_of w) (new_name names (name_of w)), e)
    by false e f = (λ t. cc, f)

place_below : (names : List (List ℕ)) (name : List ℕ) → has_name names name ≡ true → place_of names name < length names
place_below [] name h = cc
place_below (n ∷ ns) name h = by (same_name name n) h (place_below ns name)
  where
    by : (b : Bool) → (b || has_name ns name) ≡ true → (has_name ns name ≡ true → place_of ns name < length ns) → cond (not b) (1 + place_of ns name) 0 < length (n ∷ ns)
    by true e rest = omega arith
    by false e rest = let k : place_of ns name < length ns = rest e in omega (arith, k)

pub size_of : (w : List ℕ) → unsigned_abs (integer_value w) ≡ integer_size w
unfolding integer_value
size_of w = by (is_negative w) (integer_size w)
  where
    by : (b : Bool) (n : ℕ) → unsigned_abs (if b then neg_ℤ (pos n) else pos n) ≡ n
    by true zero = refl
    by true (suc n) = refl
    by false n = refl

-- integers
pub integer_writable : (w : List ℕ) → IsSmall w → is_integer (kind_of w) ≡ true → IsWritable (integer_value w)
integer_writable w s h =
    let le : integer_size w ≤ largest_number = s h in
    subst (λ n. n ≤ largest_number) (sym (size_of w)) le

pub integers_writable : (ws : List (List ℕ)) → are_integers ws ≡ true → AreSmall ws → All IsWritable (integers_of ws)
integers_writable [] h s = All-nil IsWritable
integers_writable (w ∷ ws) h s =
    let t = both (is_integer (kind_of w)) (are_integers ws) h in
    All-cons IsWritable (integer_value w) (integers_of ws) (integer_writable w (first_small w ws s) t.0) (integers_writable ws t.1 (rest_small w ws s))

-- literals
pub literals_writable : (names ws : List (List ℕ)) → are_literals ws ≡ true → HasNames names ws → All (IsLitWritable (length names)) (literals_of names ws)
literals_writable names [] h k = All-nil (IsLitWritable (length names))
literals_writable names (w ∷ ws) h k =
    let t = both (is_literal (kind_of w)) (are_literals ws) h in
    All-cons (IsLitWritable (length names)) (lit_of names w) (literals_of names ws) (place_below names (name_of w) (k.0 t.0)) (literals_writable names ws t.1 k.1)

-- terms, and what stands behind them
pub terms_writable : (names ws : List (List ℕ)) → HasNames names ws → AreSmall ws → All (IsTermWritable (length names)) (terms_of names ws)
terms_writable names [] k s = All-nil (IsTermWritable (length names))
terms_writable names (a ∷ []) k s = All-nil (IsTermWritable (length names))
terms_writable names (a ∷ b ∷ rest) k s = by (is_term a b) refl (terms_writable names rest k.1.1 (rest_small b rest (rest_small a (b ∷ rest) s)))
  where
    by : (t : Bool) → is_term a b ≡ t → All (IsTermWritable (length names)) (terms_of names rest) → All (IsTermWritable (length names)) (if t then term_of names a b ∷ terms_of names rest else [])
    by true e h =
        let p = both (is_integer (kind_of a)) (is_literal (kind_of b)) e in
        All-cons (IsTermWritable (length names)) (term_of names a b) (terms_of names rest)
        (record { coef = integer_writable a (first_small a (b ∷ rest) s) p.0; named = place_below names (name_of b) (k.1.0 p.1) }) h
    by false e h = All-nil (IsTermWritable (length names))

behind_small : (ws : List (List ℕ)) → AreSmall ws → AreSmall (behind_terms ws)
behind_small [] s = s
behind_small (a ∷ []) s = s
behind_small (a ∷ b ∷ rest) s = by (is_term a b) (behind_small rest (rest_small b rest (rest_small a (b ∷ rest) s)))
  where
    by : (t : Bool) → AreSmall (behind_terms rest) → AreSmall (if t then behind_terms rest else a ∷ b ∷ rest)
    by true h = h
    by false h = s

right_writable : (ws : List (List ℕ)) (n : ℤ) → closing_of ws ≡ Some n → AreSmall ws → IsWritable n
right_writable [] n h s = cc
right_writable (a ∷ []) n h s = cc
right_writable (a ∷ b ∷ []) n h s = by (is_at_least (kind_of a)) (is_integer (kind_of b)) refl h
  where
    by : (t u : Bool) → is_integer (kind_of b) ≡ u → (if t && u then Some (integer_value b) else None) ≡ Some n → IsWritable n
    by true true e f =
        let same : integer_value b ≡ n = cc in
        subst IsWritable same (integer_writable b (first_small b [] (rest_small a (b ∷ []) s)) e)
    by true false e f = cc
    by false u e f = cc
right_writable (a ∷ b ∷ c ∷ rest) n h s = cc

abbrev made : List (List ℕ) → List (List ℕ) → ℤ → Signed
made names ws right = record { terms = terms_of names ws; relation = relations.AtLeast; right = right }

pub constraint_writable : (names ws : List (List ℕ)) (c : Signed) → constraint_of names ws ≡ Some c → HasNames names ws → AreSmall ws → IsConstraintWritable (length names) c
constraint_writable names ws c h k s = by (closing_of (behind_terms ws)) refl h
  where
    by : (o : Option ℤ) → closing_of (behind_terms ws) ≡ o → option_map (made names ws) o ≡ Some c → IsConstraintWritable (length names) c
    by None e f = cc
    by (Some n) e f =
        let same : made names ws n ≡ c = cc in
        subst (IsConstraintWritable (length names)) same
        (record { terms = terms_writable names ws k s; relation = refl; right = right_writable (behind_terms ws) n e (behind_small ws s) })

-- items
variable_writable : (names : List (List ℕ)) (w : List ℕ) → is_variable w ≡ true → (is_literal (kind_of w) ≡ true → has_name names (name_of w) ≡ true) → IsNamed (length names) (variable_of names w)
variable_writable names w h k = place_below names (name_of w) (k (both (is_literal (kind_of w)) (not (is_negated w)) h).0)

pair_writable : (names : List (List ℕ)) (a b : List ℕ) → is_pair a b ≡ true → (is_literal (kind_of a) ≡ true → has_name names (name_of a) ≡ true) → IsSmall a → IsItemWritable (length names) (pair_of names a b)
pair_writable names a b h k s = by (bytes_eq b (codes "*")) (bytes_eq b (codes "d")) (bytes_eq b (codes "w")) (is_integer (kind_of a)) (is_variable a) refl refl refl refl refl h
  where
    star_or_w : bytes_eq b (codes "*") ≡ true → bytes_eq b (codes "w") ≡ true → ⊥
    star_or_w e f = let no : false ≡ true = sym (ap (λ v. bytes_eq v (codes "*")) (same_word b (codes "w") f)) ∙ e in cc

    d_or_w : bytes_eq b (codes "d") ≡ true → bytes_eq b (codes "w") ≡ true → ⊥
    d_or_w e f = let no : false ≡ true = sym (ap (λ v. bytes_eq v (codes "d")) (same_word b (codes "w") f)) ∙ e in cc

    by : (m d w i v : Bool) → bytes_eq b (codes "*") ≡ m → bytes_eq b (codes "d") ≡ d → bytes_eq b (codes "w") ≡ w → is_integer (kind_of a) ≡ i → is_variable a ≡ v → ((i && (m || d)) || (v && w)) ≡ true
        → IsItemWritable (length names) (if m then items.Multiply (integer_value a) else if d then items.Divide (integer_value a) else items.Weaken (variable_of names a))
    by true d w true v em ed ew e f g = integer_writable a s e
    by false true w true v em ed ew e f g = integer_writable a s e
    by false false true true true em ed ew e f g = variable_writable names a f k
    by false false true true false em ed ew e f g = cc
    by false false false true true em ed ew e f g = cc
    by false false false true false em ed ew e f g = cc
    by true d true false true em ed ew e f g = absurd (star_or_w em ew)
    by true d true false false em ed ew e f g = cc
    by true d false false true em ed ew e f g = cc
    by true d false false false em ed ew e f g = cc
    by false true true false true em ed ew e f g = absurd (d_or_w ed ew)
    by false true true false false em ed ew e f g = cc
    by false true false false true em ed ew e f g = cc
    by false true false false false em ed ew e f g = cc
    by false false true false true em ed ew e f g = variable_writable names a f k
    by false false true false false em ed ew e f g = cc
    by false false false false true em ed ew e f g = cc
    by false false false false false em ed ew e f g = cc

single_writable : (names : List (List ℕ)) (a : List ℕ) → (is_literal (kind_of a) ≡ true → has_name names (name_of a) ≡ true) → IsSmall a → IsItemWritable (length names) (single_of names a)
single_writable names a k s = by (is_integer (kind_of a)) (is_literal (kind_of a)) (bytes_eq a (codes "+")) refl refl
  where
    by : (i l p : Bool) → is_integer (kind_of a) ≡ i → is_literal (kind_of a) ≡ l
        → IsItemWritable (length names) (if i then items.Id (integer_value a) else if l then items.Axiom (lit_of names a) else if p then items.Add else items.Saturate)
    by true l p e f = integer_writable a s e
    by false true p e f = place_below names (name_of a) (k f)
    by false false true e f = tt
    by false false false e f = tt

pub items_writable : (names ws : List (List ℕ)) → are_items ws ≡ true → HasNames names ws → AreSmall ws → All (IsItemWritable (length names)) (items_of names ws)
items_writable names [] h k s = All-nil (IsItemWritable (length names))
items_writable names (a ∷ []) h k s =
    All-cons (IsItemWritable (length names)) (single_of names a) [] (single_writable names a k.0 (first_small a [] s)) (All-nil (IsItemWritable (length names)))
items_writable names (a ∷ b ∷ rest) h k s =
    by (is_pair a b) refl h (λ e. items_writable names rest e k.1.1 (rest_small b rest (rest_small a (b ∷ rest) s))) (λ e. items_writable names (b ∷ rest) e k.1 (rest_small a (b ∷ rest) s))
  where
    by : (t : Bool) → is_pair a b ≡ t → (if t then are_items rest else is_single a && are_items (b ∷ rest)) ≡ true
        → (are_items rest ≡ true → All (IsItemWritable (length names)) (items_of names rest))
        → (are_items (b ∷ rest) ≡ true → All (IsItemWritable (length names)) (items_of names (b ∷ rest)))
        → All (IsItemWritable (length names)) (if t then pair_of names a b ∷ items_of names rest else single_of names a ∷ items_of names (b ∷ rest))
    by true e f g m = All-cons (IsItemWritable (length names)) (pair_of names a b) (items_of names rest) (pair_writable names a b e k.0 (first_small a (b ∷ rest) s)) (g f)
    by false e f g m =
        All-cons (IsItemWritable (length names)) (single_of names a) (items_of names (b ∷ rest)) (single_writable names a k.0 (first_small a (b ∷ rest) s))
        (m (both (is_single a) (are_items (b ∷ rest)) f).1)

-- names and images
image_writable : (names : List (List ℕ)) (w : List ℕ) → (is_literal (kind_of w) ≡ true → has_name names (name_of w) ≡ true) → IsImageWritable (length names) (image_of names w)
image_writable names w k = by (is_literal (kind_of w)) (bytes_eq w (codes "0")) refl
  where
    by : (l z : Bool) → is_literal (kind_of w) ≡ l → IsImageWritable (length names) (if l then images.Lit (lit_of names w) else if z then images.Zero else images.One)
    by true z e = place_below names (name_of w) (k e)
    by false true e = tt
    by false false e = tt

pub images_writable : (names ws : List (List ℕ)) → are_images ws ≡ true → HasNames names ws → All (IsPairWritable (length names)) (images_of names ws)
images_writable names [] h k = All-nil (IsPairWritable (length names))
images_writable names (x ∷ []) h k = cc
images_writable names (x ∷ i ∷ []) h k =
    All-cons (IsPairWritable (length names)) (variable_of names x, image_of names i) []
    (variable_writable names x (both (is_variable x) (is_image i) h).0 k.0, image_writable names i k.1.0)
    (All-nil (IsPairWritable (length names)))
images_writable names (x ∷ i ∷ j ∷ rest) h k =
    by (is_arrow (kind_of i)) h (λ e. images_writable names rest e k.1.1.1) (λ e. images_writable names (j ∷ rest) e k.1.1)
  where
    by : (t : Bool) → (if t then is_variable x && (is_image j && are_images rest) else is_variable x && (is_image i && are_images (j ∷ rest))) ≡ true
        → (are_images rest ≡ true → All (IsPairWritable (length names)) (images_of names rest))
        → (are_images (j ∷ rest) ≡ true → All (IsPairWritable (length names)) (images_of names (j ∷ rest)))
        → All (IsPairWritable (length names)) (if t then (variable_of names x, image_of names j) ∷ images_of names rest else (variable_of names x, image_of names i) ∷ images_of names (j ∷ rest))
    by true e f g =
        let p = both (is_variable x) (is_image j && are_images rest) e in
        All-cons (IsPairWritable (length names)) (variable_of names x, image_of names j) (images_of names rest)
        (variable_writable names x p.0 k.0, image_writable names j k.1.1.0) (f (both (is_image j) (are_images rest) p.1).1)
    by false e f g =
        let p = both (is_variable x) (is_image i && are_images (j ∷ rest)) e in
        All-cons (IsPairWritable (length names)) (variable_of names x, image_of names i) (images_of names (j ∷ rest))
        (variable_writable names x p.0 k.0, image_writable names i k.1.0) (g (both (is_image i) (are_images (j ∷ rest)) p.1).1)

-- steps
pub chosen : {A : Type 0} (P : A → Type 0) (t : Bool) (x y : A) → (if t then Some x else None) ≡ Some y → (t ≡ true → P x) → P y
chosen P true x y h g = let same : x ≡ y = cc in subst P same (g refl)
chosen P false x y h g = cc

rup_writable : (names front : List (List ℕ)) (b : Option (List (List ℕ))) (step : Step) → rup_by names front b ≡ Some step → HasNames names front → AreSmall front → IsStepWritable (length names) step
rup_writable names front None step h k s = cc
rup_writable names front (Some hints) step h k s = by (constraint_of names front) refl h
  where
    by : (o : Option Signed) → constraint_of names front ≡ o → option_map (λ c. steps.Rup c) o ≡ Some step → IsStepWritable (length names) step
    by None e f = cc
    by (Some c) e f = let same : steps.Rup c ≡ step = cc in subst (IsStepWritable (length names)) same (constraint_writable names front c e k s)

red_writable : (names front : List (List ℕ)) (b : Option (List (List ℕ))) (step : Step) → red_by names front b ≡ Some step → HasNames names (front ++ witness_words b) → AreSmall (front ++ witness_words b)
    → IsStepWritable (length names) step
red_writable names front None step h k s = cc
red_writable names front (Some witness) step h k s = by (constraint_of names front) refl h
  where
    w : Halves
    w = halves witness

    parts : (c : Signed) → constraint_of names front ≡ Some c → are_images w.front ≡ true → IsConstraintWritable (length names) c × All (IsPairWritable (length names)) (images_of names w.front)
    parts c e t = (constraint_writable names front c e (HasNames-front names front w.front k) (front_small front w.front s), images_writable names w.front t (HasNames-back names front w.front k))

    made : (c : Signed) (t : Bool) (o : Option Bool) → (t ≡ true → IsConstraintWritable (length names) c × All (IsPairWritable (length names)) (images_of names w.front))
        → (if t then option_map (λ block. red_step c (images_of names w.front) block) o else None) ≡ Some step → IsStepWritable (length names) step
    made c true None g f = cc
    made c true (Some true) g f = let same : steps.RedBegin c (images_of names w.front) ≡ step = cc in subst (IsStepWritable (length names)) same (g refl)
    made c true (Some false) g f = let same : steps.Red c (images_of names w.front) ≡ step = cc in subst (IsStepWritable (length names)) same (g refl)
    made c false o g f = cc

    by : (o : Option Signed) → constraint_of names front ≡ o → red_with names w o ≡ Some step → IsStepWritable (length names) step
    by None e f = cc
    by (Some c) e f = made c (are_images w.front) (begins_block w.behind) (parts c e) f

goal_writable : (ws : List (List ℕ)) (goal : GoalName) → goal_of ws ≡ Some goal → AreSmall ws → IsGoalWritable goal
goal_writable [] goal h s = cc
goal_writable (w ∷ []) goal h s = by (is_integer (kind_of w)) (bytes_eq w (codes "#1")) (bytes_eq w (codes "#2")) refl h
  where
    by : (i a b : Bool) → is_integer (kind_of w) ≡ i → (if i then Some (goals.Live (integer_value w)) else if a then Some goals.Itself else if b then Some goals.Objective else None) ≡ Some goal → IsGoalWritable goal
    by true a b e h = let same : goals.Live (integer_value w) ≡ goal = cc in subst IsGoalWritable same (integer_writable w (first_small w [] s) e)
    by false true b e h = let same : goals.Itself ≡ goal = cc in subst IsGoalWritable same tt
    by false false true e h = let same : goals.Objective ≡ goal = cc in subst IsGoalWritable same tt
    by false false false e h = cc
goal_writable (w ∷ v ∷ rest) goal h s = cc

goal_step_writable : (count : ℕ) (ws : List (List ℕ)) (step : Step) → option_map (λ x. steps.Goal x) (goal_of ws) ≡ Some step → AreSmall ws → IsStepWritable count step
goal_step_writable count ws step h s = by (goal_of ws) refl h
  where
    by : (o : Option GoalName) → goal_of ws ≡ o → option_map (λ x. steps.Goal x) o ≡ Some step → IsStepWritable count step
    by None e f = cc
    by (Some goal) e f = let same : steps.Goal goal ≡ step = cc in subst (IsStepWritable count) same (goal_writable ws goal e s)

ruled_writable : (rule : Rule) (names ws : List (List ℕ)) (step : Step) → step_by rule names ws ≡ Some step → HasNames names (counted_by rule ws) → AreSmall (counted_by rule ws) → IsStepWritable (length names) step
ruled_writable rules.Pol names ws step h k s =
    chosen (IsStepWritable (length names)) (are_items (unclosed ws)) (steps.Pol (items_of names (unclosed ws))) step h (λ t. items_writable names (unclosed ws) t k s)
ruled_writable rules.Rup names ws step h k s = rup_writable names (halves ws).front (halves ws).behind step h k s
ruled_writable rules.Red names ws step h k s = red_writable names (halves ws).front (halves ws).behind step h k s
ruled_writable rules.Sol names ws step h k s =
    chosen (IsStepWritable (length names)) (are_literals (unclosed ws)) (steps.Sol (literals_of names (unclosed ws))) step h (λ t. literals_writable names (unclosed ws) t k)
ruled_writable rules.Soli names ws step h k s =
    chosen (IsStepWritable (length names)) (are_literals (unclosed ws)) (steps.Soli (literals_of names (unclosed ws))) step h (λ t. literals_writable names (unclosed ws) t k)
ruled_writable rules.Del names ws step h k s =
    chosen (IsStepWritable (length names)) (is_deletion ws) (steps.Del (integers_of (unclosed (drop 1 ws)))) step h
    (λ t. integers_writable (unclosed (drop 1 ws)) (both (is_first (codes "id") ws) (are_integers (unclosed (drop 1 ws))) t).1 s)
ruled_writable rules.Goal names ws step h k s = goal_step_writable (length names) (unclosed ws) step h s
ruled_writable rules.End names ws step h k s = chosen (IsStepWritable (length names)) (is_closing (unclosed ws)) steps.End step h (λ t. tt)

words_writable : (names ws : List (List ℕ)) (step : Step) → step_of names ws ≡ Some step → HasNames names (counted ws) → AreSmall (counted ws) → IsStepWritable (length names) step
unfolding step_of counted
words_writable names [] step h k s = cc
words_writable names (w ∷ rest) step h k s = by (rule_of w) h k s
  where
    by : (o : Option Rule) → step_with names rest o ≡ Some step → HasNames names (counted_with rest o) → AreSmall (counted_with rest o) → IsStepWritable (length names) step
    by None h k s = cc
    by (Some rule) h k s = ruled_writable rule names rest step h k s

-- a step that is read can be written
pub step_writable : (old ws new : List (List ℕ)) (step : Step) → IsStep old ws step new → IsStepWritable (length new) step
step_writable old ws new step r =
    words_writable new ws step r.says (subst (λ n. HasNames n (counted ws)) (sym r.names) (has_names old (counted ws))) r.small

-- conclusions
lower_writable : (w : List ℕ) → IsSmall w → IsLowerWritable (lower_of w)
lower_writable w s = by (is_integer (kind_of w)) (bytes_eq w (codes "INF")) refl
  where
    by : (i f : Bool) → is_integer (kind_of w) ≡ i → IsLowerWritable (if i then lowers.At (integer_value w) else if f then lowers.Inf else lowers.MinusInf)
    by true f e = integer_writable w s e
    by false true e = tt
    by false false e = tt

upper_writable : (w : List ℕ) → IsSmall w → IsUpperWritable (upper_of w)
upper_writable w s = by (is_integer (kind_of w)) refl
  where
    by : (i : Bool) → is_integer (kind_of w) ≡ i → IsUpperWritable (if i then uppers.At (integer_value w) else uppers.Inf)
    by true e = integer_writable w s e
    by false e = tt

hint_writable : (names ws : List (List ℕ)) → is_hint ws ≡ true → HasNames names (hinted ws) → IsHintWritable (length names) (hint_of names ws)
hint_writable names [] h k = tt
hint_writable names (w ∷ rest) h k = literals_writable names rest (both _ (are_literals rest) h).1 k

past_small : (ws : List (List ℕ)) → AreSmall ws → AreSmall (past_id ws)
past_small [] s = s
past_small (a ∷ []) s = s
past_small (a ∷ b ∷ rest) s = by (is_id_hint a b)
  where
    by : (t : Bool) → AreSmall (if t then rest else a ∷ b ∷ rest)
    by true = rest_small b rest (rest_small a (b ∷ rest) s)
    by false = s

upper_part_writable : (names ws : List (List ℕ)) (l : Lower) (c : Conclusion) → IsLowerWritable l → bounds_by names l ws ≡ Some c → HasNames names (hinted (drop 1 ws)) → AreSmall ws → IsConclusionWritable (length names) c
upper_part_writable names [] l c w h k s = cc
upper_part_writable names (u ∷ rest) l c w h k s =
    chosen (IsConclusionWritable (length names)) (is_upper u && is_hint rest) (conclusions.Bounds l (upper_of u) (hint_of names rest)) c h
    (λ t. (w, upper_writable u (first_small u rest s), hint_writable names rest (both (is_upper u) (is_hint rest) t).1 k))

bounds_writable : (names ws : List (List ℕ)) (c : Conclusion) → bounds_of names ws ≡ Some c → HasNames names (hinted (drop 1 (past_id (drop 1 ws)))) → AreSmall ws → IsConclusionWritable (length names) c
bounds_writable names [] c h k s = cc
bounds_writable names (l ∷ rest) c h k s = by (is_lower l) h
  where
    by : (t : Bool) → (if t then bounds_by names (lower_of l) (past_id rest) else None) ≡ Some c → IsConclusionWritable (length names) c
    by true h = upper_part_writable names (past_id rest) (lower_of l) c (lower_writable l (first_small l rest s)) h k (past_small rest (rest_small l rest s))
    by false h = cc

kind_writable : (v : ConclusionKind) (names ws : List (List ℕ)) (c : Conclusion) → conclusion_by v names ws ≡ Some c → HasNames names (literals_by v ws) → AreSmall ws → IsConclusionWritable (length names) c
kind_writable kinds.Nothing names ws c h k s = chosen (IsConclusionWritable (length names)) (is_empty ws) conclusions.Nothing c h (λ t. tt)
kind_writable kinds.Sat names ws c h k s =
    chosen (IsConclusionWritable (length names)) (is_hint ws) (conclusions.Sat (hint_of names ws)) c h (λ t. hint_writable names ws t k)
kind_writable kinds.Unsat names ws c h k s = chosen (IsConclusionWritable (length names)) (is_empty (past_id ws)) conclusions.Unsat c h (λ t. tt)
kind_writable kinds.Bounds names ws c h k s = bounds_writable names ws c h k s

judgement_writable : (names ws : List (List ℕ)) (c : Conclusion) → conclusion_said names ws ≡ Some c → HasNames names (literals_said ws) → AreSmall (drop 1 ws) → IsConclusionWritable (length names) c
judgement_writable names [] c h k s = cc
judgement_writable names (w ∷ rest) c h k s = by (conclusion_kind_of w) h k
  where
    by : (o : Option ConclusionKind) → judged_with names rest o ≡ Some c → HasNames names (literals_with rest o) → IsConclusionWritable (length names) c
    by None h k = cc
    by (Some v) h k = kind_writable v names rest c h k s

-- a conclusion that is read can be written
pub conclusion_writable : (old ws new : List (List ℕ)) (c : Conclusion) → new ≡ names_in old (conclusion_literals ws) → conclusion_of new ws ≡ Some c → AreSmall (drop 1 (unclosed (drop 1 ws)))
    → IsConclusionWritable (length new) c
unfolding conclusion_of conclusion_literals
conclusion_writable old ws new c n h s = by (is_first (codes "conclusion") ws) h
  where
    by : (t : Bool) → (if t then conclusion_said new (unclosed (drop 1 ws)) else None) ≡ Some c → IsConclusionWritable (length new) c
    by true h =
        judgement_writable new (unclosed (drop 1 ws)) c h
        (subst (λ m. HasNames m (literals_said (unclosed (drop 1 ws)))) (sym n) (has_names old (literals_said (unclosed (drop 1 ws))))) s
    by false h = cc

-- so can a step at its section
step_line_writable : (section : Section) (old ws new : List (List ℕ)) (line : Line) → new ≡ names_in old (counted ws) → option_map (λ x. lines.Step x) (step_at_section section new ws) ≡ Some line → AreSmall (counted ws)
    → IsLineWritable (length new) line
step_line_writable section old ws new line n h s = by (is_misplaced section ws) (step_of new ws) refl h
  where
    by : (t : Bool) (o : Option Step) → step_of new ws ≡ o → option_map (λ x. lines.Step x) (if t then None else o) ≡ Some line → IsLineWritable (length new) line
    by true o e f = cc
    by false None e f = cc
    by false (Some step) e f =
        let same : lines.Step step ≡ line = cc in
        subst (IsLineWritable (length new)) same (words_writable new ws step e (subst (λ m. HasNames m (counted ws)) (sym n) (has_names old (counted ws))) s)

-- so can whatever a line says
said_writable : (section : Section) (old ws new : List (List ℕ)) (line : Line) → new ≡ names_in old (naming section ws) → line_of section new ws ≡ Some line → AreSmall (measured section ws) → IsLineWritable (length new) line
said_writable sections.Header old ws new line n h s = chosen (IsLineWritable (length new)) (are_words header (unclosed ws)) lines.Header line h (λ t. tt)
said_writable sections.Count old ws new line n h s = by (count_of (unclosed ws)) h
  where
    by : (o : Option ℤ) → option_map (λ m. lines.Count m) o ≡ Some line → IsLineWritable (length new) line
    by None e = cc
    by (Some m) e = let same : lines.Count m ≡ line = cc in subst (IsLineWritable (length new)) same tt
said_writable sections.Step old ws new line n h s = by (are_words output (unclosed ws)) h
  where
    by : (t : Bool) → (if t then Some lines.Output else option_map (λ x. lines.Step x) (step_at_section sections.Step new ws)) ≡ Some line → IsLineWritable (length new) line
    by true f = let same : lines.Output ≡ line = cc in subst (IsLineWritable (length new)) same tt
    by false f = step_line_writable sections.Step old ws new line n f s
said_writable sections.Block old ws new line n h s = step_line_writable sections.Block old ws new line n h s
said_writable sections.Goal old ws new line n h s = step_line_writable sections.Goal old ws new line n h s
said_writable sections.Conclusion old ws new line n h s = by (conclusion_of new ws) refl h
  where
    by : (o : Option Conclusion) → conclusion_of new ws ≡ o → option_map (λ x. lines.Conclusion x) o ≡ Some line → IsLineWritable (length new) line
    by None e f = cc
    by (Some c) e f =
        let same : lines.Conclusion c ≡ line = cc in
        subst (IsLineWritable (length new)) same (conclusion_writable old ws new c n e s)
said_writable sections.End old ws new line n h s = chosen (IsLineWritable (length new)) (are_words ending (unclosed ws)) lines.End line h (λ t. tt)
said_writable sections.After old ws new line n h s = cc

pub line_writable : (section : Section) (old ws new : List (List ℕ)) (line : Line) → IsLine section old ws line new → IsLineWritable (length new) line
line_writable section old ws new line r = said_writable section old ws new line r.names r.says r.small
