-- Assignments in words: what a value more in a word stands for, and what a word more does.
use Rattle.std.proofs.Common.{◌≡◌, ℕ, zero, suc, ◌+◌, ◌-◌, ◌*◌, ◌/◌, ◌%◌, ◌<◌, ◌≤◌, ◌==◌, min, Bool, true, false, List, [], ◌∷◌, ◌++◌, length, take, drop, get_or, flat_map, refl, sym, ap, subst, ◌∙◌, inl, inr, append_assoc, length-append, arith}
use mir.Val.{bool_byte}
use Rattle.std.proofs.Math.Nat.{sub-zero, suc-sub-suc, zero-sub}
use Rattle.std.proofs.Math.Seq.{take-nil}
use Rattle.std.proofs.lemmas.Bool.{cases_lt}
use Rattle.std.proofs.lemmas.List.{flat_map_more, length-take, take_all}
use Rattle.solutions.specs.Packed.{word_values, packed_values}

-- a value in front of those of a word
value_in_front : (n word : ℕ) (value : Bool) → word_values (suc n) (2 * word + bool_byte value) ≡ value ∷ word_values n word
unfolding word_values
value_in_front n word true =
    let half : (2 * word + 1) / 2 ≡ word = omega arith in
    let odd : (2 * word + 1) % 2 ≡ 1 = omega arith in
    rw (half, odd) refl
value_in_front n word false =
    let half : (2 * word + 0) / 2 ≡ word = omega arith in
    let even : (2 * word + 0) % 2 ≡ 0 = omega arith in
    rw (half, even) refl

-- the word of some values is made of that of all but the first
pub word_made : (values : List Bool) (word front : ℕ) → 1 ≤ length values
    → word_values (length (take (length values - 1) (drop 1 values))) word ≡ take (length values - 1) (drop 1 values)
    → front ≡ bool_byte (get_or values 0 false) → word_values (length values) (2 * word + front) ≡ values
word_made [] word front some behind first = absurd (omega arith)
word_made (value ∷ values) word front some behind first =
    let rest : take (length (value ∷ values) - 1) values ≡ values = take_all (length (value ∷ values) - 1) values (omega arith) in
    ap (λ k. word_values (suc (length values)) (2 * word + k)) first
    ∙ value_in_front (length values) word value
    ∙ ap (λ vs. value ∷ vs) (subst (λ vs. word_values (length vs) word ≡ vs) rest behind)

pub no_values : (word : ℕ) → word_values 0 word ≡ []
unfolding word_values
no_values word = refl

pub none_left : (values : List Bool) → length values < 1 → word_values (length values) 0 ≡ values
none_left [] h = no_values 0
none_left (value ∷ values) h = absurd (omega arith)

length-word_values : (n word : ℕ) → length (word_values n word) ≡ n
unfolding word_values
length-word_values zero word = refl
length-word_values (suc n) word = ap suc (length-word_values n (word / 2))

-- the first values of a word
take-word_values : (k n word : ℕ) → k ≤ n → take k (word_values n word) ≡ word_values k word
unfolding word_values
take-word_values zero n word h = refl
take-word_values (suc k) zero word h = absurd (omega arith)
take-word_values (suc k) (suc n) word h = ap (λ xs. (word % 2 == 1) ∷ xs) (take-word_values k n (word / 2) (omega arith))

-- the values of a word that an assignment has room for
values_wanted : (k word : ℕ) → take k (word_values 64 word) ≡ word_values (min 64 k) word
values_wanted k word = elim (cases_lt 64 k) [
  | inl more ↦
      let least : min 64 k ≡ 64 = omega arith in
      rw least (take_all k (word_values 64 word) (omega (arith, length-word_values 64 word)))
  | inr h ↦ let least : min 64 k ≡ k = omega arith in rw least (take-word_values k 64 word h)
]

-- the first value of a word is appended
pub value_appended : (old now : List Bool) (count i word rest : ℕ) → i < count → now ++ word_values (count - i) rest ≡ old ++ word_values count word
    → (now ++ (rest % 2 == 1) ∷ []) ++ word_values (count - (i + 1)) (rest / 2) ≡ old ++ word_values count word
unfolding word_values
value_appended old now count i word rest below h =
    let left : count - i ≡ suc (count - (i + 1)) = omega arith in
    append_assoc now ((rest % 2 == 1) ∷ []) (word_values (count - (i + 1)) (rest / 2)) ∙ (rw left at h)

-- the beginning of two lists
take_both : {X : Type 0} (n : ℕ) (xs ys : List X) → take n (xs ++ ys) ≡ take n xs ++ take (n - length xs) ys
take_both n [] ys = rw (take-nil n, sub-zero n) refl
take_both zero (x ∷ xs) ys = rw (zero-sub (length (x ∷ xs))) refl
take_both (suc n) (x ∷ xs) ys = rw (suc-sub-suc n (length xs)) (ap (λ zs. x ∷ zs) (take_both n xs ys))

-- one word more stands for as many values more as the assignment still has
pub word_appended : (n : ℕ) (words : List ℕ) (word count : ℕ) → count ≡ min 64 (n - length (packed_values words n))
    → packed_values (words ++ word ∷ []) n ≡ packed_values words n ++ word_values count word
word_appended n words word count is =
    let xs : List Bool = flat_map (word_values 64) words in
    let long : length (take n xs) ≡ min n (length xs) = length-take n xs in
    let wanted : min 64 (n - length xs) ≡ count = omega arith in
    ap (take n) (sym (flat_map_more (word_values 64) [] words word))
    ∙ take_both n xs (word_values 64 word)
    ∙ ap (λ ys. take n xs ++ ys) (values_wanted (n - length xs) word ∙ ap (λ k. word_values k word) wanted)

-- the word of a chunk is appended
pub chunk_appended : (all chunk rest left : List Bool) (words : List ℕ) (word : ℕ) → packed_values words (length all) ++ rest ≡ all → rest ≡ chunk ++ left
    → length chunk ≡ min 64 (length rest) → word_values (length chunk) word ≡ chunk → packed_values (words ++ word ∷ []) (length all) ++ left ≡ all
chunk_appended all chunk rest left words word h parts size is =
    let before : List Bool = packed_values words (length all) in
    let long : length before + length rest ≡ length all = sym (length-append before rest) ∙ ap length h in
    let count : length chunk ≡ min 64 (length all - length before) = omega arith in
    ap (λ xs. xs ++ left) (word_appended (length all) words word (length chunk) count ∙ ap (λ xs. before ++ xs) is)
    ∙ append_assoc before chunk left
    ∙ ap (λ xs. before ++ xs) (sym parts)
    ∙ h
