-- The item of a `pol` line that stands next.
use Rattle.std.proofs.Common.{◌≡◌, ℕ, ℤ, Bool, true, false, not, ◌&&◌, ◌||◌, if◌then◌else◌, List, [], ◌∷◌, drop, refl, sym, ap, subst, ◌∙◌, arith, codes}
use Rattle.std.specs.Str.{bytes_eq}
use Rattle.std.proofs.lemmas.Slice.Eq.{bytes_eq-Decides}
use Rattle.pb_text.specs.Lexeme.{kind_of, kind_of_word}
use Rattle.pb_text.specs.Name.{is_name}
use Rattle.pb_text.specs.Word.{name_of, is_negated, is_integer as integer_word, is_literal as literal_word, is_misspelt}
use Rattle.pb_text.specs.Number.{integer_value}
use Rattle.linear.specs.declared.term.Lit.{Lit}
use Rattle.proof_steps.specs.declared.step.Item.{Item}
use Rattle.proof_steps.specs.declared.step.Item.TheVariants as items
use Rattle.proof_text.specs.Kinds.{is_integer, is_literal}
use Rattle.proof_text.specs.Words.{IsSmall, is_first}
use Rattle.proof_text.specs.NamesMet.{NamesMet, met, met_in}
use Rattle.proof_text.specs.Numbering.{lit_of}
use Rattle.proof_text.specs.Forms.{is_variable, is_pair, pair_of, is_single, single_of, are_items, items_of}
use Rattle.proof_text.specs.PartsRead.{Takes}
use Rattle.proof_text.proofs.WordsByKind.{all_small, rest_small, small_other, integer_alone, literal_alone}
use Rattle.proof_text.proofs.PartsInTurn.{lit_met}
use Rattle.proof_text.proofs.NamesNumbered.{met_literal, met_other}

-- the word that a test found
pub same_word : (w v : List ℕ) → bytes_eq w v ≡ true → w ≡ v
same_word w v h = (bytes_eq-Decides w v).0 h

-- the word at the front of others
pub first_word : (v : List ℕ) (ws : List (List ℕ)) → is_first v ws ≡ true → ws ≡ v ∷ drop 1 ws
first_word v [] h = cc
first_word v (w ∷ rest) h = ap (λ (x : List ℕ). x ∷ rest) (same_word w v h)

-- what is left where a word was passed, and where it was not
pub passed : (v : List ℕ) (left rest : List (List ℕ)) → is_first v left ≡ true → rest ≡ (if is_first v left then drop 1 left else left) → rest ≡ drop 1 left
passed v left rest h e = e ∙ ap (λ t. if t then drop 1 left else left) h

pub not_passed : (v : List ℕ) (left rest : List (List ℕ)) → is_first v left ≡ false → rest ≡ (if is_first v left then drop 1 left else left) → rest ≡ left
not_passed v left rest h e = e ∙ ap (λ t. if t then drop 1 left else left) h

-- an operation is neither an integer nor a literal
star_kind : (is_integer (kind_of (codes "*")) ≡ false) × (is_literal (kind_of (codes "*")) ≡ false)
unfolding kind_of kind_of_word integer_word literal_word is_misspelt is_name
star_kind = (refl, refl)

divide_kind : (is_integer (kind_of (codes "d")) ≡ false) × (is_literal (kind_of (codes "d")) ≡ false)
unfolding kind_of kind_of_word integer_word literal_word is_misspelt is_name
divide_kind = (refl, refl)

weaken_kind : (is_integer (kind_of (codes "w")) ≡ false) × (is_literal (kind_of (codes "w")) ≡ false)
unfolding kind_of kind_of_word integer_word literal_word is_misspelt is_name
weaken_kind = (refl, refl)

-- do the first of the words and the one before them make an item
abbrev pub pairs : List ℕ → List (List ℕ) → Bool
pairs a [] = false
pairs a (b ∷ rest) = is_pair a b

pub items_pair : (names : List (List ℕ)) (a b : List ℕ) (rest : List (List ℕ)) → is_pair a b ≡ true
    → (items_of names (a ∷ b ∷ rest) ≡ pair_of names a b ∷ items_of names rest) × (are_items (a ∷ b ∷ rest) ≡ are_items rest)
items_pair names a b rest h = (
  ap (λ t. if t then pair_of names a b ∷ items_of names rest else single_of names a ∷ items_of names (b ∷ rest)) h,
  ap (λ t. if t then are_items rest else is_single a && are_items (b ∷ rest)) h,
)

pub and_true : (p : Bool) → (p && true) ≡ p
and_true true = refl
and_true false = refl

pub items_single : (names : List (List ℕ)) (a : List ℕ) (rest : List (List ℕ)) → pairs a rest ≡ false
    → (items_of names (a ∷ rest) ≡ single_of names a ∷ items_of names rest) × (are_items (a ∷ rest) ≡ (is_single a && are_items rest))
items_single names a [] h = (refl, sym (and_true (is_single a)))
items_single names a (b ∷ rest) h = (
  ap (λ t. if t then pair_of names a b ∷ items_of names rest else single_of names a ∷ items_of names (b ∷ rest)) h,
  ap (λ t. if t then are_items rest else is_single a && are_items (b ∷ rest)) h,
)

-- what makes a pair, by its tests
pair_tests : (i s d v w : Bool) → i ≡ true → (s || d) ≡ true → ((i && (s || d)) || (v && w)) ≡ true
pair_tests true s d v w h k = ap (λ t. t || (v && w)) k
pair_tests false s d v w h k = cc

or_left : (p q : Bool) → p ≡ true → (p || q) ≡ true
or_left true q h = refl
or_left false q h = cc

or_right : (p q : Bool) → q ≡ true → (p || q) ≡ true
or_right true q h = refl
or_right false q h = h

-- a factor and its operation
factor : (k : NamesMet) (a b : List ℕ) (rest : List (List ℕ)) (i : Item) → is_integer (kind_of a) ≡ true → IsSmall a
    → (is_integer (kind_of b) ≡ false) × (is_literal (kind_of b) ≡ false) → (bytes_eq b (codes "*") || bytes_eq b (codes "d")) ≡ true
    → ((names : List (List ℕ)) → pair_of names a b ≡ i) → Takes are_items items_of k (a ∷ b ∷ rest) i k rest
factor k a b rest i h small other op value =
    let pair : is_pair a b ≡ true = pair_tests (is_integer (kind_of a)) (bytes_eq b (codes "*")) (bytes_eq b (codes "d")) (is_variable a) (bytes_eq b (codes "w")) h op in
    record {
      same = (items_pair [] a b rest pair).1;
      first = λ more.
          let n = (met_in (met_in k (a ∷ b ∷ rest)) more).names in
          (items_pair n a b rest pair).0 ∙ ap (λ x. x ∷ items_of n rest) (value n);
      known = met_other k a (b ∷ rest) (integer_alone (kind_of a) h).0 ∙ met_other k b rest other.1;
      small = λ s. all_small a (b ∷ rest) small (all_small b rest (small_other b other.0) s);
      later = λ s. rest_small b rest (rest_small a (b ∷ rest) s);
      shorter = omega arith;
    }

pub multiplied : (k : NamesMet) (a : List ℕ) (left rest : List (List ℕ)) (n : ℤ) → is_integer (kind_of a) ≡ true → n ≡ integer_value a → IsSmall a
    → is_first (codes "*") left ≡ true → rest ≡ drop 1 left → Takes are_items items_of k (a ∷ left) (items.Multiply n) k rest
multiplied k a left rest n h e small f g =
    let at : left ≡ codes "*" ∷ rest = first_word (codes "*") left f ∙ ap (λ r. codes "*" ∷ r) (sym g) in
    subst (λ ws. Takes are_items items_of k (a ∷ ws) (items.Multiply n) k rest) (sym at)
    (factor k a (codes "*") rest (items.Multiply n) h small star_kind refl (λ names. ap (λ x. items.Multiply x) (sym e)))

pub divided : (k : NamesMet) (a : List ℕ) (left rest : List (List ℕ)) (n : ℤ) → is_integer (kind_of a) ≡ true → n ≡ integer_value a → IsSmall a
    → is_first (codes "d") left ≡ true → rest ≡ drop 1 left → Takes are_items items_of k (a ∷ left) (items.Divide n) k rest
divided k a left rest n h e small f g =
    let at : left ≡ codes "d" ∷ rest = first_word (codes "d") left f ∙ ap (λ r. codes "d" ∷ r) (sym g) in
    subst (λ ws. Takes are_items items_of k (a ∷ ws) (items.Divide n) k rest) (sym at)
    (factor k a (codes "d") rest (items.Divide n) h small divide_kind refl (λ names. ap (λ x. items.Divide x) (sym e)))

-- an integer is no name
not_variable : (k : Bool) (n : Bool) → k ≡ false → (k && n) ≡ false
not_variable true n h = cc
not_variable false n h = refl

no_pair : (i s d v w : Bool) → (s || d) ≡ false → (v && w) ≡ false → ((i && (s || d)) || (v && w)) ≡ false
no_pair true s d v w h k = ap (λ t. t || (v && w)) h ∙ k
no_pair false s d v w h k = k

pub or_false : (p q : Bool) → p ≡ false → q ≡ false → (p || q) ≡ false
or_false true q h k = cc
or_false false q h k = k

pub and_false_left : (p q : Bool) → p ≡ false → (p && q) ≡ false
and_false_left true q h = cc
and_false_left false q h = refl

integer_pairs : (a : List ℕ) (left : List (List ℕ)) → is_integer (kind_of a) ≡ true → is_first (codes "*") left ≡ false → is_first (codes "d") left ≡ false → pairs a left ≡ false
integer_pairs a [] h s d = refl
integer_pairs a (b ∷ rest) h s d =
    no_pair (is_integer (kind_of a)) (bytes_eq b (codes "*")) (bytes_eq b (codes "d")) (is_variable a) (bytes_eq b (codes "w"))
    (or_false (bytes_eq b (codes "*")) (bytes_eq b (codes "d")) s d)
    (and_false_left (is_variable a) (bytes_eq b (codes "w")) (not_variable (is_literal (kind_of a)) (not (is_negated a)) (integer_alone (kind_of a) h).0))

-- a word that is an item by itself
single : (k : NamesMet) (a : List ℕ) (left : List (List ℕ)) (i : Item) → pairs a left ≡ false → is_single a ≡ true → is_literal (kind_of a) ≡ false → IsSmall a
    → ((names : List (List ℕ)) → single_of names a ≡ i) → Takes are_items items_of k (a ∷ left) i k left
single k a left i apart one other small value =
    record {
      same = (items_single [] a left apart).1 ∙ ap (λ t. t && are_items left) one;
      first = λ more.
          let n = (met_in (met_in k (a ∷ left)) more).names in
          (items_single n a left apart).0 ∙ ap (λ x. x ∷ items_of n left) (value n);
      known = met_other k a left other;
      small = all_small a left small;
      later = rest_small a left;
      shorter = omega arith;
    }

pub referred : (k : NamesMet) (a : List ℕ) (left : List (List ℕ)) (n : ℤ) → is_integer (kind_of a) ≡ true → n ≡ integer_value a → IsSmall a
    → is_first (codes "*") left ≡ false → is_first (codes "d") left ≡ false → Takes are_items items_of k (a ∷ left) (items.Id n) k left
referred k a left n h e small s d =
    single k a left (items.Id n) (integer_pairs a left h s d)
    (ap (λ t. t || is_literal (kind_of a) || bytes_eq a (codes "+") || bytes_eq a (codes "s")) h)
    (integer_alone (kind_of a) h).0 small
    (λ names. ap (λ t. if t then items.Id (integer_value a) else if is_literal (kind_of a) then items.Axiom (lit_of names a) else if bytes_eq a (codes "+") then items.Add else items.Saturate) h ∙ ap (λ x. items.Id x) (sym e))

-- an operation by itself
other_pairs : (a : List ℕ) (left : List (List ℕ)) → is_integer (kind_of a) ≡ false → is_literal (kind_of a) ≡ false → pairs a left ≡ false
other_pairs a [] h l = refl
other_pairs a (b ∷ rest) h l =
    ap (λ i. (i && (bytes_eq b (codes "*") || bytes_eq b (codes "d"))) || (is_variable a && bytes_eq b (codes "w"))) h
    ∙ and_false_left (is_variable a) (bytes_eq b (codes "w")) (not_variable (is_literal (kind_of a)) (not (is_negated a)) l)

abbrev chosen : Bool → Bool → Bool → ℤ → Lit → Item
chosen i l p n x = if i then items.Id n else if l then items.Axiom x else if p then items.Add else items.Saturate

pub added : (k : NamesMet) (a : List ℕ) (left : List (List ℕ)) → is_integer (kind_of a) ≡ false → is_literal (kind_of a) ≡ false → bytes_eq a (codes "+") ≡ true
    → Takes are_items items_of k (a ∷ left) items.Add k left
added k a left h l e =
    single k a left items.Add (other_pairs a left h l)
    (or_left (is_integer (kind_of a) || is_literal (kind_of a) || bytes_eq a (codes "+")) (bytes_eq a (codes "s")) (or_right (is_integer (kind_of a) || is_literal (kind_of a)) (bytes_eq a (codes "+")) e))
    l (small_other a h)
    (λ names. rw (h, l, e) refl)

pub saturated : (k : NamesMet) (a : List ℕ) (left : List (List ℕ)) → is_integer (kind_of a) ≡ false → is_literal (kind_of a) ≡ false → bytes_eq a (codes "+") ≡ false → bytes_eq a (codes "s") ≡ true
    → Takes are_items items_of k (a ∷ left) items.Saturate k left
saturated k a left h l p e =
    single k a left items.Saturate (other_pairs a left h l)
    (or_right (is_integer (kind_of a) || is_literal (kind_of a) || bytes_eq a (codes "+")) (bytes_eq a (codes "s")) e)
    l (small_other a h)
    (λ names. rw (h, l, p) refl)

-- `+` and `s` where they stand first
plus_kind : (is_integer (kind_of (codes "+")) ≡ false) × (is_literal (kind_of (codes "+")) ≡ false)
unfolding kind_of kind_of_word integer_word literal_word is_misspelt is_name
plus_kind = (refl, refl)

saturate_kind : (is_integer (kind_of (codes "s")) ≡ false) × (is_literal (kind_of (codes "s")) ≡ false)
unfolding kind_of kind_of_word integer_word literal_word is_misspelt is_name
saturate_kind = (refl, refl)

pub addition_first : (k : NamesMet) (left rest : List (List ℕ)) → is_first (codes "+") left ≡ true → rest ≡ drop 1 left → Takes are_items items_of k left items.Add k rest
addition_first k left rest f g =
    let at : left ≡ codes "+" ∷ rest = first_word (codes "+") left f ∙ ap (λ r. codes "+" ∷ r) (sym g) in
    subst (λ ws. Takes are_items items_of k ws items.Add k rest) (sym at) (added k (codes "+") rest plus_kind.0 plus_kind.1 refl)

pub saturation_first : (k : NamesMet) (left rest : List (List ℕ)) → is_first (codes "s") left ≡ true → rest ≡ drop 1 left → Takes are_items items_of k left items.Saturate k rest
saturation_first k left rest f g =
    let at : left ≡ codes "s" ∷ rest = first_word (codes "s") left f ∙ ap (λ r. codes "s" ∷ r) (sym g) in
    subst (λ ws. Takes are_items items_of k ws items.Saturate k rest) (sym at) (saturated k (codes "s") rest saturate_kind.0 saturate_kind.1 refl refl)

-- a variable and the weakening by it
pub weakened : (k new : NamesMet) (a : List ℕ) (left rest : List (List ℕ)) (l : Lit) → is_literal (kind_of a) ≡ true → new ≡ met k (name_of a) → l ≡ lit_of new.names a
    → l.negated ≡ false → is_first (codes "w") left ≡ true → rest ≡ drop 1 left → Takes are_items items_of k (a ∷ left) (items.Weaken l.var) new rest
weakened k new a left rest l h e f sign g at =
    let b = codes "w" in
    let there : left ≡ b ∷ rest = first_word b left g ∙ ap (λ r. b ∷ r) (sym at) in
    let negated : is_negated a ≡ false = sym (ap (λ (x : Lit). x.negated) f) ∙ sign in
    let variable : is_variable a ≡ true = ap (λ t. t && not (is_negated a)) h ∙ ap not negated in
    let integer : is_integer (kind_of a) ≡ false = (literal_alone (kind_of a) h).0 in
    let pair : is_pair a b ≡ true = ap (λ i. (i && false) || (is_variable a && true)) integer ∙ ap (λ t. t && true) variable in
    let whole : met_in k (a ∷ b ∷ rest) ≡ met_in (met k (name_of a)) rest = met_literal k a (b ∷ rest) h ∙ met_other (met k (name_of a)) b rest weaken_kind.1 in
    let t : Takes are_items items_of k (a ∷ b ∷ rest) (items.Weaken l.var) new rest = record {
      same = (items_pair [] a b rest pair).1;
      first = λ more.
          let n = (met_in (met_in k (a ∷ b ∷ rest)) more).names in
          (items_pair n a b rest pair).0 ∙ ap (λ (x : Lit). items.Weaken x.var ∷ items_of n rest) (lit_met k new a (b ∷ rest) more l h e f);
      known = whole ∙ ap (λ m. met_in m rest) (sym e);
      small = λ s. all_small a (b ∷ rest) (small_other a integer) (all_small b rest (small_other b weaken_kind.0) s);
      later = λ s. rest_small b rest (rest_small a (b ∷ rest) s);
      shorter = omega arith;
    } in
    subst (λ ws. Takes are_items items_of k (a ∷ ws) (items.Weaken l.var) new rest) (sym there) t

-- a literal that begins no weakening
literal_pairs : (a : List ℕ) (left : List (List ℕ)) → is_literal (kind_of a) ≡ true → (is_negated a ≡ false → is_first (codes "w") left ≡ false) → pairs a left ≡ false
literal_pairs a [] h g = refl
literal_pairs a (b ∷ rest) h g =
    ap (λ i. (i && (bytes_eq b (codes "*") || bytes_eq b (codes "d"))) || (is_variable a && bytes_eq b (codes "w"))) (literal_alone (kind_of a) h).0
    ∙ ap (λ t. (t && not (is_negated a)) && bytes_eq b (codes "w")) h
    ∙ by (is_negated a) g
  where
    by : (n : Bool) → (n ≡ false → bytes_eq b (codes "w") ≡ false) → (not n && bytes_eq b (codes "w")) ≡ false
    by true g = refl
    by false g = g refl

pub axiomatic : (k new : NamesMet) (a : List ℕ) (left : List (List ℕ)) (l : Lit) → is_literal (kind_of a) ≡ true → new ≡ met k (name_of a) → l ≡ lit_of new.names a
    → (l.negated ≡ false → is_first (codes "w") left ≡ false) → Takes are_items items_of k (a ∷ left) (items.Axiom l) new left
axiomatic k new a left l h e f g =
    let integer : is_integer (kind_of a) ≡ false = (literal_alone (kind_of a) h).0 in
    let apart : pairs a left ≡ false = literal_pairs a left h (λ s. g (ap (λ (x : Lit). x.negated) f ∙ s)) in
    let whole : met_in k (a ∷ left) ≡ met_in (met k (name_of a)) left = met_literal k a left h in
    let one : is_single a ≡ true = ap (λ i. i || is_literal (kind_of a) || bytes_eq a (codes "+") || bytes_eq a (codes "s")) integer ∙ ap (λ i. i || bytes_eq a (codes "+") || bytes_eq a (codes "s")) h in
    let value : (n : List (List ℕ)) → lit_of n a ≡ l → single_of n a ≡ items.Axiom l = λ n lit.
    ap (λ i. chosen i (is_literal (kind_of a)) (bytes_eq a (codes "+")) (integer_value a) (lit_of n a)) integer
    ∙ ap (λ i. chosen false i (bytes_eq a (codes "+")) (integer_value a) (lit_of n a)) h
    ∙ ap (λ x. items.Axiom x) lit in
    record {
      same = (items_single [] a left apart).1 ∙ ap (λ t. t && are_items left) one;
      first = λ more.
          let n = (met_in (met_in k (a ∷ left)) more).names in
          (items_single n a left apart).0 ∙ ap (λ x. x ∷ items_of n left) (value n (lit_met k new a left more l h e f));
      known = whole ∙ ap (λ m. met_in m left) (sym e);
      small = all_small a left (small_other a integer);
      later = rest_small a left;
      shorter = omega arith;
    }
