-- The text of words that are written one after another.
use Rattle.std.proofs.Common.{◌≡◌, ℕ, ◌+◌, ◌<◌, ◌≤◌, List, [], ◌∷◌, ◌++◌, length, take, get_or, sym, ap, ◌∙◌, append_assoc}
use Rattle.std.specs.List.{flat_map}
use Rattle.std.proofs.lemmas.List.{append-nil, take_more, take_all}
use Rattle.proof_write.specs.Writing.{spaced}
use Rattle.proof_write.proofs.WordsCut.{spaced-append}

-- one word and then another
pub two_words : (a b c v w : List ℕ) → b ≡ a ++ spaced (v ∷ []) → c ≡ b ++ spaced (w ∷ []) → c ≡ a ++ spaced (v ∷ w ∷ [])
two_words a b c v w e f =
    f ∙ ap (λ x. x ++ spaced (w ∷ [])) e ∙ append_assoc a (spaced (v ∷ [])) (spaced (w ∷ [])) ∙ ap (λ x. a ++ x) (sym (spaced-append (v ∷ []) (w ∷ [])))

pub more_words : (a b c : List ℕ) (vs ws : List (List ℕ)) → b ≡ a ++ spaced vs → c ≡ b ++ spaced ws → c ≡ a ++ spaced (vs ++ ws)
more_words a b c vs ws e f =
    f ∙ ap (λ x. x ++ spaced ws) e ∙ append_assoc a (spaced vs) (spaced ws) ∙ ap (λ x. a ++ x) (sym (spaced-append vs ws))

pub flat_map-last : {X Y : Type 0} (f : X → List Y) (xs : List X) (x : X) → flat_map f (xs ++ x ∷ []) ≡ flat_map f xs ++ f x
flat_map-last f [] x = append-nil (f x)
flat_map-last f (y ∷ xs) x = ap (λ z. f y ++ z) (flat_map-last f xs x) ∙ sym (append_assoc (f y) (flat_map f xs) (f x))

-- one part more of a list is written
pub next_part : {X : Type 0} (f : X → List (List ℕ)) (xs : List X) (i : ℕ) (x : X) (a b c : List ℕ) → i < length xs → x ≡ get_or xs i x
    → b ≡ a ++ spaced (flat_map f (take i xs)) → c ≡ b ++ spaced (f x) → c ≡ a ++ spaced (flat_map f (take (i + 1) xs))
next_part f xs i x a b c l at e g =
    more_words a b c (flat_map f (take i xs)) (f x) e g
    ∙ ap (λ ws. a ++ spaced ws) (sym (ap (flat_map f) (take_more xs i x l ∙ ap (λ y. take i xs ++ y ∷ []) (sym at)) ∙ flat_map-last f (take i xs) x))

-- all are
pub all_parts : {X : Type 0} (f : X → List (List ℕ)) (xs : List X) (i : ℕ) (a b : List ℕ) → length xs ≤ i → b ≡ a ++ spaced (flat_map f (take i xs)) → b ≡ a ++ spaced (flat_map f xs)
all_parts f xs i a b l e = e ∙ ap (λ ys. a ++ spaced (flat_map f ys)) (take_all i xs l)

-- one text more
pub next_text : {X : Type 0} (f : X → List ℕ) (xs : List X) (i : ℕ) (x : X) (a b c : List ℕ) → i < length xs → x ≡ get_or xs i x
    → b ≡ a ++ flat_map f (take i xs) → c ≡ b ++ f x → c ≡ a ++ flat_map f (take (i + 1) xs)
next_text f xs i x a b c l at e g =
    g ∙ ap (λ t. t ++ f x) e ∙ append_assoc a (flat_map f (take i xs)) (f x)
    ∙ ap (λ ts. a ++ ts) (sym (ap (flat_map f) (take_more xs i x l ∙ ap (λ y. take i xs ++ y ∷ []) (sym at)) ∙ flat_map-last f (take i xs) x))

pub no_part : {X : Type 0} (f : X → List (List ℕ)) (xs : List X) (a : List ℕ) → a ≡ a ++ spaced (flat_map f (take 0 xs))
no_part f xs a = sym (append-nil a)

pub four_parts : (a b c d e : List ℕ) (vs ws xs ys : List (List ℕ)) → b ≡ a ++ spaced vs → c ≡ b ++ spaced ws → d ≡ c ++ spaced xs → e ≡ d ++ spaced ys → e ≡ a ++ spaced (vs ++ (ws ++ (xs ++ ys)))
four_parts a b c d e vs ws xs ys f g h k =
    more_words a b e vs (ws ++ (xs ++ ys)) f (more_words b c e ws (xs ++ ys) g (more_words c d e xs ys h k))

pub three_parts : (a b c d w : List ℕ) (vs ws : List (List ℕ)) → b ≡ a ++ w → c ≡ b ++ spaced vs → d ≡ c ++ spaced ws → d ≡ a ++ (w ++ spaced (vs ++ ws))
three_parts a b c d w vs ws e f g = more_words b c d vs ws f g ∙ ap (λ x. x ++ spaced (vs ++ ws)) e ∙ append_assoc a w (spaced (vs ++ ws))

-- a line begun, and two words behind it
pub two_behind : (a b c d w y z : List ℕ) (vs : List (List ℕ)) → b ≡ a ++ (w ++ spaced vs) → c ≡ b ++ spaced (y ∷ []) → d ≡ c ++ spaced (z ∷ []) → d ≡ a ++ (w ++ spaced (vs ++ y ∷ z ∷ []))
two_behind a b c d w y z vs e f g =
    let last = spaced (y ∷ z ∷ []) in
    two_words b c d y z f g
    ∙ ap (λ x. x ++ last) e
    ∙ append_assoc a (w ++ spaced vs) last
    ∙ ap (λ x. a ++ x) (append_assoc w (spaced vs) last ∙ ap (λ x. w ++ x) (sym (spaced-append vs (y ∷ z ∷ []))))

-- four texts, one behind another
pub four_texts : (a b c d e x y z w : List ℕ) → b ≡ a ++ x → c ≡ b ++ y → d ≡ c ++ z → e ≡ d ++ w → e ≡ a ++ x ++ y ++ z ++ w
four_texts a b c d e x y z w f g h k = k ∙ ap (λ t. t ++ w) (h ∙ ap (λ t. t ++ z) (g ∙ ap (λ t. t ++ y) f))

pub four_apart : (a x y z w : List ℕ) → a ++ x ++ y ++ z ++ w ≡ a ++ (x ++ y ++ z ++ w)
four_apart a x y z w = ap (λ t. t ++ z ++ w) (append_assoc a x y) ∙ ap (λ t. t ++ w) (append_assoc a (x ++ y) z) ∙ append_assoc a (x ++ y ++ z) w

-- the four as one text behind what was there
pub four_behind : (a b c d e x y z w : List ℕ) → b ≡ a ++ x → c ≡ b ++ y → d ≡ c ++ z → e ≡ d ++ w → e ≡ a ++ (x ++ y ++ z ++ w)
four_behind a b c d e x y z w f g h k = four_texts a b c d e x y z w f g h k ∙ four_apart a x y z w
