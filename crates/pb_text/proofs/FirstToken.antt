-- The first token of what follows a position, where one stands there: a symbol of its longest length, or a longest word.
use Rattle.std.proofs.Common.{◌≡◌, ℕ, zero, suc, ◌+◌, ◌<◌, ◌≤◌, Bool, true, false, not, ◌&&◌, List, [], ◌∷◌, ◌++◌, length, take, drop, refl, ap, subst, ◌∙◌, arith, add-one}
use Rattle.std.specs.Prelude.{if◌then◌else◌}
use Rattle.std.proofs.lemmas.List.{drop-drop, length-take-le}
use Rattle.pb_text.specs.Lexeme.{Position, cut, is_white, lexemes_from, lexeme_at}
use Rattle.pb_text.specs.Cutting.{begins_white, begins_word, behind}
pub use Rattle.pb_text.specs.Cutting.{IsWordFront}
use Rattle.pb_text.proofs.Cutting.{word_grows, word_ends, word_first}
use Rattle.pb_text.proofs.Positions.{AreDense}

-- what the cut of a word's front comes to
word_cut : (n : ℕ) (p : Position) (rest : List ℕ) → p.comment ≡ false → ((k : ℕ) → k < n → begins_word (drop k rest) ≡ true) →
    cut p rest ≡ record { word = take n rest ++ (cut (behind n p) (drop n rest)).word; tokens = (cut (behind n p) (drop n rest)).tokens }
word_cut zero p rest plain bytes = let e : p.start + 0 ≡ p.start = omega arith in rw e refl
word_cut (suc n) p rest plain bytes =
    let before : cut p rest ≡ record { word = take n rest ++ (cut (behind n p) (drop n rest)).word; tokens = (cut (behind n p) (drop n rest)).tokens } =
    word_cut n p rest plain (λ k h. bytes k (omega (arith, h))) in
    let Grown : ℕ → List ℕ → Type 0 = λ m xs. cut p rest ≡ record { word = take m rest ++ (cut (behind m p) xs).word; tokens = (cut (behind m p) xs).tokens } in
    let after : Grown (n + 1) (drop 1 (drop n rest)) = word_grows p n rest (drop n rest) plain refl (bytes n (omega arith)) before in
    let f : drop 1 (drop n rest) ≡ drop (suc n) rest = drop-drop 1 n rest ∙ ap (λ (m : ℕ). drop m rest) (add-one n) in
    subst (λ (m : ℕ). Grown m (drop (suc n) rest)) (add-one n) (subst (Grown (n + 1)) f after)

-- a longest word is the first token
pub word_token : (n : ℕ) (p : Position) (rest : List ℕ) → p.comment ≡ false → 0 < n → IsWordFront n rest →
    lexemes_from p rest ≡ lexeme_at p (take n rest) ∷ lexemes_from (behind n p) (drop n rest)
word_token n p rest plain some w =
    let l : 0 < length (take n rest) = let within : n ≤ length rest = w.within in rw length-take-le some in
    word_first p (take n rest) rest _ l (word_ends p n rest (drop n rest) plain refl w.ends (word_cut n p rest plain w.bytes))

-- how many bytes of a word stand at the front
pub word_size : List ℕ → ℕ
word_size [] = 0
word_size (b ∷ rest) = if begins_word (b ∷ rest) then suc (word_size rest) else 0

pub word_some : (b : ℕ) (rest : List ℕ) → begins_word (b ∷ rest) ≡ true → 0 < word_size (b ∷ rest)
unfolding word_size
word_some b rest e = rw e (omega arith)

-- one byte of a word more
pub word_longer : (n b : ℕ) (rest : List ℕ) → begins_word (b ∷ rest) ≡ true → IsWordFront n rest → IsWordFront (suc n) (b ∷ rest)
word_longer n b rest e w = record { within = omega (arith, w.within); bytes = at; ends = w.ends }
  where
    at : (k : ℕ) → k < suc n → begins_word (drop k (b ∷ rest)) ≡ true
    at zero h = e
    at (suc k) h = w.bytes k (omega (arith, h))

pub word_front : (rest : List ℕ) → IsWordFront (word_size rest) rest
unfolding word_size
word_front [] = record { within = omega arith; bytes = λ k h. absurd (omega (arith, h)); ends = refl }
word_front (b ∷ rest) = by (word_front rest) (begins_word (b ∷ rest)) refl
  where
    by : IsWordFront (word_size rest) rest → (t : Bool) → begins_word (b ∷ rest) ≡ t → IsWordFront (if t then suc (word_size rest) else 0) (b ∷ rest)
    by w true e = word_longer (word_size rest) b rest e w
    by w false e = record { within = omega arith; bytes = λ k h. absurd (omega (arith, h)); ends = e }

-- a word's bytes are no white space
pub word_dense : (n : ℕ) (rest : List ℕ) → ((k : ℕ) → k < n → begins_word (drop k rest) ≡ true) → AreDense n rest
word_dense n rest bytes k h = plain (drop k rest) (bytes k h)
  where
    first : (a b : Bool) → (not a && b) ≡ true → a ≡ false
    first true b e = absurd (cc e)
    first false b e = refl

    plain : (xs : List ℕ) → begins_word xs ≡ true → begins_white xs ≡ false
    plain [] e = refl
    plain (x ∷ xs) e = first (is_white x) _ e
