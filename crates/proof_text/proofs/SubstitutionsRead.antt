-- Names and images in turn.
use Rattle.std.proofs.Common.{◌≡◌, ℕ, ◌≤◌, Bool, true, false, not, ◌&&◌, ◌||◌, if◌then◌else◌, List, [], ◌∷◌, ◌++◌, length, refl, sym, ap, subst, ◌∙◌, arith, codes, lit≤}
use Rattle.std.specs.Str.{bytes_eq}
use Rattle.pb_text.specs.Lexeme.{kind_of, kind_of_word}
use Rattle.pb_text.specs.Name.{is_name}
use Rattle.pb_text.specs.Word.{name_of, is_negated, is_integer as integer_word, is_literal as literal_word, is_misspelt}
use Rattle.pb_text.specs.Number.{integer_size, largest_number}
use Rattle.pb_text.specs.declared.kind.Kind.{Kind}
use Rattle.pb_text.specs.declared.kind.Kind.TheVariants.{Symbol, Stray, Integer, Literal, Misspelt, Other}
use Rattle.linear.specs.declared.term.Lit.{Lit}
use Rattle.linear.specs.declared.term.Var.{Var}
use Rattle.substitution.specs.declared.image.Image.{Image}
use Rattle.substitution.specs.declared.image.Image.TheVariants as images
use Rattle.proof_text.specs.Kinds.{is_integer, is_literal, is_arrow}
use Rattle.proof_text.specs.Words.{AreSmall, past_arrow}
use Rattle.proof_text.specs.NamesMet.{NamesMet, met, met_in}
use Rattle.proof_text.specs.Numbering.{lit_of}
use Rattle.proof_text.specs.Forms.{is_variable, variable_of, is_image, image_of, are_images, images_of}
use Rattle.proof_text.specs.PartsRead.{Takes, IsImageRead}
use Rattle.proof_text.specs.PartsDenied.{Denies}
use Rattle.proof_text.specs.declared.fault.ProofFault.{ProofFault}
use Rattle.proof_text.proofs.WordsByKind.{all_small, rest_small, only_small, small_other, literal_alone, denied_more}
use Rattle.proof_text.proofs.NamesNumbered.{met_literal, met_other, met_in-append}
use Rattle.proof_text.proofs.PartsInTurn.{lit_met}
use Rattle.proof_text.proofs.PolItems.{same_word, and_true}

pub zero_kind : (is_literal (kind_of (codes "0")) ≡ false) × (integer_size (codes "0") ≤ largest_number)
unfolding kind_of kind_of_word integer_word literal_word is_misspelt is_name integer_size
zero_kind = (refl, lit≤ tt)

pub one_kind : (is_literal (kind_of (codes "1")) ≡ false) × (integer_size (codes "1") ≤ largest_number)
unfolding kind_of kind_of_word integer_word literal_word is_misspelt is_name integer_size
one_kind = (refl, lit≤ tt)

pub zero_read : (k : NamesMet) (w : List ℕ) → bytes_eq w (codes "0") ≡ true → IsImageRead k w images.Zero k
zero_read k w h = subst (λ v. IsImageRead k v images.Zero k) (sym (same_word w (codes "0") h)) (record {
  form = ap (λ t. t || true || false) zero_kind.0;
  value = λ more. sym (ap (λ t. if t then images.Lit (lit_of (met_in k more).names (codes "0")) else images.Zero) zero_kind.0);
  known = sym (met_other k (codes "0") [] zero_kind.0);
  small = λ e. zero_kind.1;
})

pub one_read : (k : NamesMet) (w : List ℕ) → bytes_eq w (codes "1") ≡ true → IsImageRead k w images.One k
one_read k w h = subst (λ v. IsImageRead k v images.One k) (sym (same_word w (codes "1") h)) (record {
  form = ap (λ t. t || false || true) one_kind.0;
  value = λ more. sym (ap (λ t. if t then images.Lit (lit_of (met_in k more).names (codes "1")) else images.One) one_kind.0);
  known = sym (met_other k (codes "1") [] one_kind.0);
  small = λ e. one_kind.1;
})

pub literal_image : (k new : NamesMet) (w : List ℕ) (l : Lit) → is_literal (kind_of w) ≡ true → new ≡ met k (name_of w) → l ≡ lit_of new.names w → IsImageRead k w (images.Lit l) new
literal_image k new w l h e f = record {
  form = ap (λ t. t || bytes_eq w (codes "0") || bytes_eq w (codes "1")) h;
  value = λ more.
      ap (λ x. images.Lit x) (sym (lit_met k new w [] more l h e f) ∙ ap (λ (m : NamesMet). lit_of (met_in m more).names w) (met_literal k w [] h ∙ sym e))
      ∙ sym (ap (λ t. if t then images.Lit (lit_of (met_in new more).names w) else if bytes_eq w (codes "0") then images.Zero else images.One) h);
  known = e ∙ sym (met_literal k w [] h);
  small = small_other w (literal_alone (kind_of w) h).0;
}

-- an arrow is no image
arrow_alone : (k : Kind) → is_arrow k ≡ true → (is_literal k ≡ false) × (is_integer k ≡ false)
arrow_alone (Symbol s) h = (refl, refl)
arrow_alone Stray h = cc
arrow_alone Integer h = cc
arrow_alone Literal h = cc
arrow_alone Misspelt h = cc
arrow_alone Other h = cc

literal_no_arrow : (k : Kind) → is_literal k ≡ true → is_arrow k ≡ false
literal_no_arrow (Symbol s) h = cc
literal_no_arrow Stray h = cc
literal_no_arrow Integer h = cc
literal_no_arrow Literal h = refl
literal_no_arrow Misspelt h = cc
literal_no_arrow Other h = cc

zero_no_arrow : is_arrow (kind_of (codes "0")) ≡ false
unfolding kind_of kind_of_word integer_word literal_word is_misspelt is_name
zero_no_arrow = refl

one_no_arrow : is_arrow (kind_of (codes "1")) ≡ false
unfolding kind_of kind_of_word integer_word literal_word is_misspelt is_name
one_no_arrow = refl

pub image_no_arrow : (w : List ℕ) → is_image w ≡ true → is_arrow (kind_of w) ≡ false
image_no_arrow w h = by (is_literal (kind_of w)) (bytes_eq w (codes "0")) (bytes_eq w (codes "1")) refl refl refl h
  where
    by : (l z o : Bool) → is_literal (kind_of w) ≡ l → bytes_eq w (codes "0") ≡ z → bytes_eq w (codes "1") ≡ o → (l || z || o) ≡ true → is_arrow (kind_of w) ≡ false
    by true z o e f g h = literal_no_arrow (kind_of w) e
    by false true o e f g h = ap (λ v. is_arrow (kind_of v)) (same_word w (codes "0") f) ∙ zero_no_arrow
    by false false true e f g h = ap (λ v. is_arrow (kind_of v)) (same_word w (codes "1") g) ∙ one_no_arrow
    by false false false e f g h = cc

-- a name, an arrow and an image
pub arrow_pair : (names : List (List ℕ)) (x a i : List ℕ) (rest : List (List ℕ)) → is_arrow (kind_of a) ≡ true
    → (are_images (x ∷ a ∷ i ∷ rest) ≡ (is_variable x && (is_image i && are_images rest)))
    × (images_of names (x ∷ a ∷ i ∷ rest) ≡ (variable_of names x, image_of names i) ∷ images_of names rest)
arrow_pair names x a i rest h = (
  ap (λ t. if t then is_variable x && (is_image i && are_images rest) else is_variable x && (is_image a && are_images (i ∷ rest))) h,
  ap (λ t. if t then (variable_of names x, image_of names i) ∷ images_of names rest else (variable_of names x, image_of names a) ∷ images_of names (i ∷ rest)) h,
)

-- a name and an image
plain_pair : (names : List (List ℕ)) (x i : List ℕ) (rest : List (List ℕ)) → is_arrow (kind_of i) ≡ false
    → (are_images (x ∷ i ∷ rest) ≡ (is_variable x && (is_image i && are_images rest)))
    × (images_of names (x ∷ i ∷ rest) ≡ (variable_of names x, image_of names i) ∷ images_of names rest)
plain_pair names x i [] h = (ap (λ t. is_variable x && t) (sym (and_true (is_image i))), refl)
plain_pair names x i (j ∷ rest) h = (
  ap (λ t. if t then is_variable x && (is_image j && are_images rest) else is_variable x && (is_image i && are_images (j ∷ rest))) h,
  ap (λ t. if t then (variable_of names x, image_of names j) ∷ images_of names rest else (variable_of names x, image_of names i) ∷ images_of names (j ∷ rest)) h,
)

abbrev both : Var → Image → Var × Image
both v i = (v, i)

record Middle (k : NamesMet) (left : List (List ℕ)) (i : List ℕ) (rest : List (List ℕ)) (x : List ℕ) : Type 0 where
  form : are_images (x ∷ left) ≡ (is_variable x && (is_image i && are_images rest))
  values : (names : List (List ℕ)) → images_of names (x ∷ left) ≡ (variable_of names x, image_of names i) ∷ images_of names rest
  known : (m : NamesMet) → met_in m left ≡ met_in m (i ∷ rest)
  small : AreSmall (i ∷ rest) → AreSmall left
  later : AreSmall left → AreSmall (i ∷ rest)
  shorter : length (i ∷ rest) ≤ length left

middle : (k : NamesMet) (x i : List ℕ) (left rest : List (List ℕ)) → past_arrow left ≡ i ∷ rest → is_image i ≡ true → Middle k left i rest x
middle k x i [] rest at h = cc
middle k x i (a ∷ more) rest at h = by (is_arrow (kind_of a)) refl at
  where
    by : (t : Bool) → is_arrow (kind_of a) ≡ t → (if t then more else a ∷ more) ≡ i ∷ rest → Middle k (a ∷ more) i rest x
    by true e f =
        let arrow = arrow_alone (kind_of a) e in
        subst (λ ws. Middle k (a ∷ ws) i rest x) (sym f) (record {
          form = (arrow_pair [] x a i rest e).0;
          values = λ names. (arrow_pair names x a i rest e).1;
          known = λ m. met_other m a (i ∷ rest) arrow.0;
          small = λ s. all_small a (i ∷ rest) (small_other a arrow.1) s;
          later = λ s. rest_small a (i ∷ rest) s;
          shorter = omega arith;
        })
    by false e f =
        subst (λ ws. Middle k ws i rest x) (sym f) (record {
          form = (plain_pair [] x i rest (image_no_arrow i h)).0;
          values = λ names. (plain_pair names x i rest (image_no_arrow i h)).1;
          known = λ m. refl;
          small = λ s. s;
          later = λ s. s;
          shorter = omega arith;
        })

-- the name and the image that stand next
pub next_pair : (k mid new : NamesMet) (x i : List ℕ) (left rest : List (List ℕ)) (l : Lit) (image : Image) → past_arrow left ≡ i ∷ rest
    → is_literal (kind_of x) ≡ true → l.negated ≡ false → mid ≡ met k (name_of x) → l ≡ lit_of mid.names x → IsImageRead mid i image new
    → Takes are_images images_of k (x ∷ left) (both l.var image) new rest
next_pair k mid new x i left rest l image at h sign e f r =
    let m = middle k x i left rest at r.form in
    let negated : is_negated x ≡ false = sym (ap (λ (y : Lit). y.negated) f) ∙ sign in
    let variable : is_variable x ≡ true = ap (λ t. t && not (is_negated x)) h ∙ ap not negated in
    let first : met_in k (x ∷ left) ≡ met_in mid left = met_literal k x left h ∙ ap (λ n. met_in n left) (sym e) in
    let known : met_in k (x ∷ left) ≡ met_in new rest = first ∙ m.known mid ∙ met_in-append mid (i ∷ []) rest ∙ ap (λ n. met_in n rest) (sym r.known) in
    record {
      same = m.form ∙ ap (λ t. t && (is_image i && are_images rest)) variable ∙ ap (λ t. t && are_images rest) r.form;
      first = λ more.
          let names = (met_in (met_in k (x ∷ left)) more).names in
          let var : variable_of names x ≡ l.var = ap (λ (y : Lit). y.var) (lit_met k mid x left more l h e f) in
          let value : image_of names i ≡ image =
          ap (λ (n : NamesMet). image_of (met_in n more).names i) known ∙ ap (λ (n : NamesMet). image_of n.names i) (sym (met_in-append new rest more)) ∙ sym (r.value (rest ++ more)) in
          m.values names ∙ ap (λ v. both v (image_of names i) ∷ images_of names rest) var ∙ ap (λ v. both l.var v ∷ images_of names rest) value;
      known = known;
      small = λ s. all_small x left (small_other x (literal_alone (kind_of x) h).0) (m.small (all_small i rest r.small s));
      later = λ s. rest_small i rest (m.later (rest_small x left s));
      shorter = let n = m.shorter in omega (arith, n);
    }

-- a name without an image
pub no_image_left : (x : List ℕ) (left : List (List ℕ)) → past_arrow left ≡ [] → are_images (x ∷ left) ≡ false
no_image_left x [] at = refl
no_image_left x (a ∷ []) at = by (is_arrow (kind_of a)) refl at
  where
    or_false : (p q r : Bool) → p ≡ false → q ≡ false → r ≡ false → (p || q || r) ≡ false
    or_false true q r h k m = cc
    or_false false true r h k m = cc
    or_false false false r h k m = m

    and_false : (p q : Bool) → q ≡ false → (p && q) ≡ false
    and_false true q h = h
    and_false false q h = refl

    not_zero : is_arrow (kind_of a) ≡ true → bytes_eq a (codes "0") ≡ false
    not_zero e = elim (bytes_eq a (codes "0")) as (λ t. bytes_eq a (codes "0") ≡ t → t ≡ false) [
      | true ↦ λ f. absurd (cc (sym e ∙ ap (λ v. is_arrow (kind_of v)) (same_word a (codes "0") f) ∙ zero_no_arrow))
      | false ↦ λ f. refl
    ] refl

    not_one : is_arrow (kind_of a) ≡ true → bytes_eq a (codes "1") ≡ false
    not_one e = elim (bytes_eq a (codes "1")) as (λ t. bytes_eq a (codes "1") ≡ t → t ≡ false) [
      | true ↦ λ f. absurd (cc (sym e ∙ ap (λ v. is_arrow (kind_of v)) (same_word a (codes "1") f) ∙ one_no_arrow))
      | false ↦ λ f. refl
    ] refl

    by : (t : Bool) → is_arrow (kind_of a) ≡ t → (if t then [] else a ∷ []) ≡ [] → (is_variable x && is_image a) ≡ false
    by true e f = and_false (is_variable x) (is_image a) (or_false (is_literal (kind_of a)) (bytes_eq a (codes "0")) (bytes_eq a (codes "1")) (arrow_alone (kind_of a) e).0 (not_zero e) (not_one e))
    by false e f = cc
no_image_left x (a ∷ b ∷ more) at = by (is_arrow (kind_of a)) at
  where
    by : (t : Bool) → (if t then b ∷ more else a ∷ b ∷ more) ≡ [] → are_images (x ∷ a ∷ b ∷ more) ≡ false
    by true e = cc
    by false e = cc

-- the first word is no name
pub no_name : (x : List ℕ) (left : List (List ℕ)) → is_variable x ≡ false → are_images (x ∷ left) ≡ false
no_name x [] h = refl
no_name x (i ∷ []) h = ap (λ t. t && is_image i) h
no_name x (i ∷ j ∷ rest) h = by (is_arrow (kind_of i))
  where
    by : (t : Bool) → (if t then is_variable x && (is_image j && are_images rest) else is_variable x && (is_image i && are_images (j ∷ rest))) ≡ false
    by true = ap (λ t. t && (is_image j && are_images rest)) h
    by false = ap (λ t. t && (is_image i && are_images (j ∷ rest))) h

-- the word where an image is due is none
no_image : (x i : List ℕ) (left rest : List (List ℕ)) → past_arrow left ≡ i ∷ rest → is_image i ≡ false → are_images (x ∷ left) ≡ false
no_image x i [] rest at h = cc
no_image x i (a ∷ more) rest at h = by (is_arrow (kind_of a)) refl at
  where
    none : (v : Bool) → (v && (is_image i && are_images rest)) ≡ false
    none true = ap (λ t. t && are_images rest) h
    none false = refl

    by : (t : Bool) → is_arrow (kind_of a) ≡ t → (if t then more else a ∷ more) ≡ i ∷ rest → are_images (x ∷ a ∷ more) ≡ false
    by true e f = ap (λ ws. are_images (x ∷ a ∷ ws)) f ∙ (arrow_pair [] x a i rest e).0 ∙ none (is_variable x)
    by false e f =
        let same : a ≡ i = cc in
        let n : is_arrow (kind_of i) ≡ false = ap (λ v. is_arrow (kind_of v)) (sym same) ∙ e in
        ap (λ ws. are_images (x ∷ ws)) f ∙ (plain_pair [] x i rest n).0 ∙ none (is_variable x)

only_image_small : (i : List ℕ) (left rest : List (List ℕ)) → past_arrow left ≡ i ∷ rest → AreSmall left → AreSmall (i ∷ [])
only_image_small i [] rest at s = cc
only_image_small i (a ∷ more) rest at s = by (is_arrow (kind_of a)) at
  where
    by : (t : Bool) → (if t then more else a ∷ more) ≡ i ∷ rest → AreSmall (i ∷ [])
    by true f = only_small i rest (subst AreSmall f (rest_small a more s))
    by false f = only_small i rest (subst AreSmall f s)

pub denied_image : (f : ProofFault) (x i : List ℕ) (left rest : List (List ℕ)) → past_arrow left ≡ i ∷ rest → Denies f (is_image i) (i ∷ []) → Denies f (are_images (x ∷ left)) (x ∷ left)
denied_image f x i left rest at d =
    denied_more f (is_image i) _ (i ∷ []) (x ∷ left) (λ e. no_image x i left rest at e) (λ s. only_image_small i left rest at (rest_small x left s)) d

pub not_plain : (x : List ℕ) → is_negated x ≡ true → is_variable x ≡ false
not_plain x h = by (is_literal (kind_of x)) h
  where
    by : (t : Bool) → is_negated x ≡ true → (t && not (is_negated x)) ≡ false
    by true h = ap not h
    by false h = refl

pub not_named : (x : List ℕ) → is_literal (kind_of x) ≡ false → is_variable x ≡ false
not_named x h = ap (λ t. t && not (is_negated x)) h
