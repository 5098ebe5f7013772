-- No variable stands twice on the left of a substitution where no name does, and the other way round.
use Rattle.std.proofs.Common.{◌≡◌, ◌≢◌, ℕ, suc, ◌+◌, Bool, true, false, not, cond, ◌&&◌, ◌||◌, if◌then◌else◌, List, [], ◌∷◌, ◌++◌, map, refl, sym, ap, ◌∙◌, arith}
use Rattle.std.specs.Prelude.{All}
use Rattle.std.specs.List.{list_any}
use Rattle.std.specs.Str.{bytes_eq}
use Rattle.std.proofs.lemmas.List.Elements.{All-head, All-tail, All-cons, All-nil}
use Rattle.std.proofs.lemmas.List.Kept.{AllPairs-cons}
use Rattle.std.proofs.lemmas.Slice.Eq.{bytes_eq-Decides}
use Rattle.pb_text.specs.Lexeme.{kind_of}
use Rattle.pb_text.specs.Word.{name_of, is_negated}
use Rattle.linear.specs.Table.{same_name, has_name, place_of}
use Rattle.linear.specs.declared.term.Var.{Var}
use Rattle.substitution.specs.declared.image.Image.{Image}
use Rattle.substitution.specs.Images.{NamesOnce}
use Rattle.proof_text.specs.Kinds.{is_literal, is_arrow}
use Rattle.proof_text.specs.Words.{past_arrow}
use Rattle.proof_text.specs.Forms.{is_variable, variable_of, is_image, image_of, are_images, images_of, lefts, repeats}
use Rattle.proof_text.proofs.PolItems.{same_word, or_false}
use Rattle.proof_text.proofs.SubstitutionsRead.{image_no_arrow}
use Rattle.proof_text.proofs.ReadIsWritable.{both, HasNames}

-- the name on the left of a pair that was read, and the names behind it
pub next_left : (x i : List ℕ) (left rest : List (List ℕ)) → past_arrow left ≡ i ∷ rest → is_image i ≡ true → lefts (x ∷ left) ≡ x ∷ lefts rest
next_left x i [] rest at h = cc
next_left x i (a ∷ more) rest at h = by (is_arrow (kind_of a)) refl at
  where
    plain : (ws : List (List ℕ)) → is_arrow (kind_of i) ≡ false → lefts (x ∷ i ∷ ws) ≡ x ∷ lefts ws
    plain [] n = refl
    plain (j ∷ ws) n = ap (λ t. x ∷ (if t then lefts ws else lefts (j ∷ ws))) n

    by : (t : Bool) → is_arrow (kind_of a) ≡ t → (if t then more else a ∷ more) ≡ i ∷ rest → lefts (x ∷ a ∷ more) ≡ x ∷ lefts rest
    by true e f = ap (λ ws. lefts (x ∷ a ∷ ws)) f ∙ ap (λ t. x ∷ (if t then lefts rest else lefts (i ∷ rest))) e
    by false e f = ap (λ ws. lefts (x ∷ ws)) f ∙ plain rest (image_no_arrow i h)

-- one name more was passed
pub more_lefts : {S : Type 0} (f : S → List ℕ) (xs ys : List S) (y : S) (left rest whole : List (List ℕ)) → ys ≡ xs ++ y ∷ [] → map f xs ++ left ≡ whole → left ≡ f y ∷ rest → map f ys ++ rest ≡ whole
more_lefts {S = S} f xs ys y left rest whole e g h = ap (λ zs. map f zs ++ rest) e ∙ pushed xs ∙ ap (λ ws. map f xs ++ ws) (sym h) ∙ g
  where
    pushed : (zs : List S) → map f (zs ++ y ∷ []) ++ rest ≡ map f zs ++ f y ∷ rest
    pushed [] = refl
    pushed (z ∷ zs) = ap (λ ws. f z ∷ ws) (pushed zs)

-- names with one number are one name
same_place : (names : List (List ℕ)) (a b : List ℕ) → has_name names a ≡ true → has_name names b ≡ true → place_of names a ≡ place_of names b → a ≡ b
same_place [] a b h k e = cc
same_place (n ∷ ns) a b h k e = by (same_name a n) (same_name b n) refl refl h k e (same_place ns a b)
  where
    by : (s t : Bool) → same_name a n ≡ s → same_name b n ≡ t → (s || has_name ns a) ≡ true → (t || has_name ns b) ≡ true → cond (not s) (1 + place_of ns a) 0 ≡ cond (not t) (1 + place_of ns b) 0
        → (has_name ns a ≡ true → has_name ns b ≡ true → place_of ns a ≡ place_of ns b → a ≡ b) → a ≡ b
    by true true p q h k e f = same_word a n p ∙ sym (same_word b n q)
    by true false p q h k e f = absurd (omega (arith, e))
    by false true p q h k e f = absurd (omega (arith, e))
    by false false p q h k e f = f h k (omega (arith, e))

plain_name : (w : List ℕ) → is_negated w ≡ false → name_of w ≡ w
plain_name [] h = refl
plain_name (b ∷ rest) h = ap (λ t. if t then rest else b ∷ rest) h

not_true : (p : Bool) → not p ≡ true → p ≡ false
not_true true h = cc
not_true false h = refl

neither : (p q : Bool) → (p || q) ≡ false → (p ≡ false) × (q ≡ false)
neither true q h = cc
neither false q h = (refl, h)

-- a word with another number is another word
other_word : (names : List (List ℕ)) (x y : List ℕ) → place_of names (name_of x) ≢ place_of names (name_of y) → bytes_eq y x ≡ false
other_word names x y h =
    elim (bytes_eq y x) as (λ t. bytes_eq y x ≡ t → t ≡ false) [
      | true ↦ λ e. absurd (h (ap (λ w. place_of names (name_of w)) (sym (same_word y x e))))
      | false ↦ λ e. refl
    ] refl

-- another name has another number
other_number : (names : List (List ℕ)) (x y : List ℕ) → bytes_eq y x ≡ false → has_name names (name_of x) ≡ true → has_name names (name_of y) ≡ true → is_negated x ≡ false → is_negated y ≡ false
    → place_of names (name_of x) ≢ place_of names (name_of y)
other_number names x y h k l m n e =
    let same : y ≡ x = sym (plain_name y n) ∙ sym (same_place names (name_of x) (name_of y) k l e) ∙ plain_name x m in
    cc (sym h ∙ (bytes_eq-Decides y x).1 same)

abbrev Far : List (List ℕ) → List ℕ → Var × Image → Type 0
Far names x q = place_of names (name_of x) ≢ q.0.0

none_among : (names ws : List (List ℕ)) (x : List ℕ) → All (Far names x) (images_of names ws) → list_any (λ v. bytes_eq v x) (lefts ws) ≡ false
none_among names [] x h = refl
none_among names (y ∷ []) x h = refl
none_among names (y ∷ i ∷ []) x h = or_false (bytes_eq y x) false (other_word names x y (All-head (Far names x) _ [] h)) refl
none_among names (y ∷ i ∷ j ∷ rest) x h = by (is_arrow (kind_of i)) h (none_among names rest x) (none_among names (j ∷ rest) x)
  where
    by : (t : Bool) → All (Far names x) (if t then (variable_of names y, image_of names j) ∷ images_of names rest else (variable_of names y, image_of names i) ∷ images_of names (j ∷ rest))
        → (All (Far names x) (images_of names rest) → list_any (λ v. bytes_eq v x) (lefts rest) ≡ false)
        → (All (Far names x) (images_of names (j ∷ rest)) → list_any (λ v. bytes_eq v x) (lefts (j ∷ rest)) ≡ false)
        → (bytes_eq y x || list_any (λ v. bytes_eq v x) (if t then lefts rest else lefts (j ∷ rest))) ≡ false
    by true h f g = or_false (bytes_eq y x) _ (other_word names x y (All-head (Far names x) _ (images_of names rest) h)) (f (All-tail (Far names x) _ (images_of names rest) h))
    by false h f g = or_false (bytes_eq y x) _ (other_word names x y (All-head (Far names x) _ (images_of names (j ∷ rest)) h)) (g (All-tail (Far names x) _ (images_of names (j ∷ rest)) h))

once_head : (p : Var × Image) (ps : List (Var × Image)) → NamesOnce (p ∷ ps) → All (λ q. p.0.0 ≢ q.0.0) ps
once_head p ps h k d lt = h 0 (suc k) d (omega arith) (omega arith)

once_tail : (p : Var × Image) (ps : List (Var × Image)) → NamesOnce (p ∷ ps) → NamesOnce ps
once_tail p ps h i j d lt within = h (suc i) (suc j) d (omega arith) (omega arith)

-- no variable stands twice, so no name does
pub no_name_twice : (names ws : List (List ℕ)) → NamesOnce (images_of names ws) → repeats (lefts ws) ≡ false
no_name_twice names [] h = refl
no_name_twice names (x ∷ []) h = refl
no_name_twice names (x ∷ i ∷ []) h = refl
no_name_twice names (x ∷ i ∷ j ∷ rest) h = by (is_arrow (kind_of i)) h (no_name_twice names rest) (no_name_twice names (j ∷ rest))
  where
    by : (t : Bool) → NamesOnce (if t then (variable_of names x, image_of names j) ∷ images_of names rest else (variable_of names x, image_of names i) ∷ images_of names (j ∷ rest))
        → (NamesOnce (images_of names rest) → repeats (lefts rest) ≡ false) → (NamesOnce (images_of names (j ∷ rest)) → repeats (lefts (j ∷ rest)) ≡ false)
        → repeats (x ∷ (if t then lefts rest else lefts (j ∷ rest))) ≡ false
    by true h f g =
        let p : Var × Image = (variable_of names x, image_of names j) in
        or_false _ _ (none_among names rest x (once_head p (images_of names rest) h)) (f (once_tail p (images_of names rest) h))
    by false h f g =
        let p : Var × Image = (variable_of names x, image_of names i) in
        or_false _ _ (none_among names (j ∷ rest) x (once_head p (images_of names (j ∷ rest)) h)) (g (once_tail p (images_of names (j ∷ rest)) h))

-- a name on the left, which the table has
record IsLeft (names : List (List ℕ)) (x : List ℕ) : Type 0 where
  known : has_name names (name_of x) ≡ true
  plain : is_negated x ≡ false

left_is : (names : List (List ℕ)) (x : List ℕ) → is_variable x ≡ true → (is_literal (kind_of x) ≡ true → has_name names (name_of x) ≡ true) → IsLeft names x
left_is names x h k =
    let p = both (is_literal (kind_of x)) (not (is_negated x)) h in
    record { known = k p.0; plain = not_true (is_negated x) p.1 }

far_from : (names ws : List (List ℕ)) (x : List ℕ) → IsLeft names x → list_any (λ v. bytes_eq v x) (lefts ws) ≡ false → are_images ws ≡ true → HasNames names ws → All (Far names x) (images_of names ws)
far_from names [] x l h a k = All-nil (Far names x)
far_from names (y ∷ []) x l h a k = All-nil (Far names x)
far_from names (y ∷ i ∷ []) x l h a k =
    let m = left_is names y (both (is_variable y) (is_image i) a).0 k.0 in
    All-cons (Far names x) (variable_of names y, image_of names i) []
    (other_number names x y (neither (bytes_eq y x) false h).0 l.known m.known l.plain m.plain)
    (All-nil (Far names x))
far_from names (y ∷ i ∷ j ∷ rest) x l h a k =
    by (is_arrow (kind_of i)) a h (λ g b. far_from names rest x l g b k.1.1.1) (λ g b. far_from names (j ∷ rest) x l g b k.1.1)
  where
    apart : is_variable y ≡ true → bytes_eq y x ≡ false → place_of names (name_of x) ≢ place_of names (name_of y)
    apart v n = let m = left_is names y v k.0 in other_number names x y n l.known m.known l.plain m.plain

    by : (t : Bool) → (if t then is_variable y && (is_image j && are_images rest) else is_variable y && (is_image i && are_images (j ∷ rest))) ≡ true
        → (bytes_eq y x || list_any (λ v. bytes_eq v x) (if t then lefts rest else lefts (j ∷ rest))) ≡ false
        → (list_any (λ v. bytes_eq v x) (lefts rest) ≡ false → are_images rest ≡ true → All (Far names x) (images_of names rest))
        → (list_any (λ v. bytes_eq v x) (lefts (j ∷ rest)) ≡ false → are_images (j ∷ rest) ≡ true → All (Far names x) (images_of names (j ∷ rest)))
        → All (Far names x) (if t then (variable_of names y, image_of names j) ∷ images_of names rest else (variable_of names y, image_of names i) ∷ images_of names (j ∷ rest))
    by true a h f g =
        let p = both (is_variable y) (is_image j && are_images rest) a in
        let n = neither (bytes_eq y x) _ h in
        All-cons (Far names x) (variable_of names y, image_of names j) (images_of names rest) (apart p.0 n.0) (f n.1 (both (is_image j) (are_images rest) p.1).1)
    by false a h f g =
        let p = both (is_variable y) (is_image i && are_images (j ∷ rest)) a in
        let n = neither (bytes_eq y x) _ h in
        All-cons (Far names x) (variable_of names y, image_of names i) (images_of names (j ∷ rest)) (apart p.0 n.0) (g n.1 (both (is_image i) (are_images (j ∷ rest)) p.1).1)

abbrev Apart : Var × Image → Var × Image → Type 0
Apart p q = p.0.0 ≢ q.0.0

-- no name stands twice, so no variable does
pub no_variable_twice : (names ws : List (List ℕ)) → repeats (lefts ws) ≡ false → are_images ws ≡ true → HasNames names ws → NamesOnce (images_of names ws)
no_variable_twice names [] h a k = λ i j d lt within. absurd (omega arith)
no_variable_twice names (x ∷ []) h a k = λ i j d lt within. absurd (omega arith)
no_variable_twice names (x ∷ i ∷ []) h a k = AllPairs-cons Apart (variable_of names x, image_of names i) [] (All-nil _) (λ i j d lt within. absurd (omega arith))
no_variable_twice names (x ∷ i ∷ j ∷ rest) h a k =
    by (is_arrow (kind_of i)) a h (λ g b. no_variable_twice names rest g b k.1.1.1) (λ g b. no_variable_twice names (j ∷ rest) g b k.1.1)
  where
    by : (t : Bool) → (if t then is_variable x && (is_image j && are_images rest) else is_variable x && (is_image i && are_images (j ∷ rest))) ≡ true
        → repeats (x ∷ (if t then lefts rest else lefts (j ∷ rest))) ≡ false
        → (repeats (lefts rest) ≡ false → are_images rest ≡ true → NamesOnce (images_of names rest))
        → (repeats (lefts (j ∷ rest)) ≡ false → are_images (j ∷ rest) ≡ true → NamesOnce (images_of names (j ∷ rest)))
        → NamesOnce (if t then (variable_of names x, image_of names j) ∷ images_of names rest else (variable_of names x, image_of names i) ∷ images_of names (j ∷ rest))
    by true a h f g =
        let p = both (is_variable x) (is_image j && are_images rest) a in
        let q = both (is_image j) (are_images rest) p.1 in
        let n = neither (list_any (λ v. bytes_eq v x) (lefts rest)) (repeats (lefts rest)) h in
        AllPairs-cons Apart (variable_of names x, image_of names j) (images_of names rest) (far_from names rest x (left_is names x p.0 k.0) n.0 q.1 k.1.1.1) (f n.1 q.1)
    by false a h f g =
        let p = both (is_variable x) (is_image i && are_images (j ∷ rest)) a in
        let q = both (is_image i) (are_images (j ∷ rest)) p.1 in
        let n = neither (list_any (λ v. bytes_eq v x) (lefts (j ∷ rest))) (repeats (lefts (j ∷ rest))) h in
        AllPairs-cons Apart (variable_of names x, image_of names i) (images_of names (j ∷ rest)) (far_from names (j ∷ rest) x (left_is names x p.0 k.0) n.0 q.1 k.1.1) (g n.1 q.1)
