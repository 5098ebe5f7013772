-- Integers as they are written.
use Rattle.std.proofs.Common.{◌≡◌, ℕ, suc, ℤ, pos, negsuc, neg_ℤ, ◌+◌, ◌-◌, ◌*◌, ◌/◌, ◌%◌, ◌^◌, ◌<◌, ◌≤◌, Bool, true, false, ◌&&◌, ◌||◌, if◌then◌else◌, List, [], ◌∷◌, ◌++◌, length, refl, ap, ◌∙◌, arith, length-append}
use Rattle.std.specs.Prelude.{◌==◌, nat_lt}
use Rattle.std.specs.List.{list_all}
use Rattle.std.specs.Fmt.{decimal, signed_decimal}
use Rattle.std.proofs.lemmas.Fmt.{decimal_by_steps_wide}
use Rattle.std.proofs.lemmas.Bool.Decides.{nat_tests}
use Rattle.std.proofs.Math.Nat.{pow-suc}
use Rattle.pb_text.specs.Name.{is_digit}
use Rattle.pb_text.specs.Word.{without_sign, is_digits, is_integer}
use Rattle.pb_text.specs.Number.{digits_value, integer_size, integer_value, is_negative, largest_number}
use Rattle.pb_text.specs.Lexeme.{kind_of}
use Rattle.pb_text.specs.declared.kind.Kind.TheVariants.{Integer}
use Rattle.pb_text.proofs.KindTests.{integer_is}
use Rattle.proof_text.specs.Words.{IsSmall}
use Rattle.proof_text.specs.Writable.{IsWritable}
use Rattle.proof_write.proofs.WordsCut.{plain, IsToken, plain_token}

-- digits that write this number
record Writes (n : ℕ) (ds : List ℕ) : Type 0 where
  digits : list_all is_digit ds ≡ true
  clear : list_all plain ds ≡ true
  value : digits_value ds ≡ n
  some : 0 < length ds

digit_is : (d : ℕ) → d < 10 → (is_digit (48 + d) ≡ true) × (plain (48 + d) ≡ true)
digit_is d h = (grind (arith, nat_tests), grind (arith, nat_tests))

all-last : (p : ℕ → Bool) (ds : List ℕ) (d : ℕ) → list_all p ds ≡ true → p d ≡ true → list_all p (ds ++ d ∷ []) ≡ true
all-last p [] d h k = ap (λ t. t && true) k
all-last p (x ∷ ds) d h k = by (p x) h (all-last p ds d)
  where
    by : (t : Bool) → (t && list_all p ds) ≡ true → (list_all p ds ≡ true → p d ≡ true → list_all p (ds ++ d ∷ []) ≡ true) → (t && list_all p (ds ++ d ∷ [])) ≡ true
    by true h g = g h k
    by false h g = cc

ten_more : (x t v d : ℕ) → x * (t * 10) + (v * 10 + d) ≡ (x * t + v) * 10 + d
ten_more x t v d = omega arith

value-last : (ds : List ℕ) (d : ℕ) → digits_value (ds ++ d ∷ []) ≡ digits_value ds * 10 + (d - 48)
value-last [] d = omega arith
value-last (x ∷ ds) d =
    let n : length (ds ++ d ∷ []) ≡ suc (length ds) = length-append ds (d ∷ []) ∙ omega arith in
    let t : 10 ^ length (ds ++ d ∷ []) ≡ 10 ^ length ds * 10 = ap (λ k. 10 ^ k) n ∙ pow-suc 10 (length ds) in
    ap (λ p. (x - 48) * p + digits_value (ds ++ d ∷ [])) t
    ∙ ap (λ v. (x - 48) * (10 ^ length ds * 10) + v) (value-last ds d)
    ∙ ten_more (x - 48) (10 ^ length ds) (digits_value ds) (d - 48)

one_digit : (n : ℕ) → n < 10 → Writes n ((48 + n) ∷ [])
one_digit n h = record {
  digits = ap (λ t. t && true) (digit_is n h).0;
  clear = ap (λ t. t && true) (digit_is n h).1;
  value = omega arith;
  some = omega arith;
}

digit_more : (n : ℕ) (ds : List ℕ) → 10 ≤ n → Writes (n / 10) ds → Writes n (ds ++ ((48 + n % 10) ∷ []))
digit_more n ds h w =
    let d : n % 10 < 10 = omega arith in
    let v : digits_value (ds ++ ((48 + n % 10) ∷ [])) ≡ digits_value ds * 10 + (48 + n % 10 - 48) = value-last ds (48 + n % 10) in
    record {
      digits = all-last is_digit ds (48 + n % 10) w.digits (digit_is (n % 10) d).0;
      clear = all-last plain ds (48 + n % 10) w.clear (digit_is (n % 10) d).1;
      value = let e = w.value in omega (arith, v, e);
      some = omega (arith, length-append ds ((48 + n % 10) ∷ []));
    }

writes : (n : ℕ) → n < 10 ^ 64 → Writes n (decimal n)
writes n h = decimal_by_steps_wide Writes one_digit digit_more n h

-- a written integer
pub record IsNumeral (n : ℤ) (w : List ℕ) : Type 0 where
  pub token : IsToken w
  pub kind : kind_of w ≡ Integer
  pub value : integer_value w ≡ n
  pub small : IsSmall w

not_sign : (d : ℕ) → is_digit d ≡ true → ((d == 43) || (d == 45)) ≡ false
not_sign d h = grind (arith, nat_tests)

not_minus : (d : ℕ) → is_digit d ≡ true → (d == 45) ≡ false
not_minus d h = grind (arith, nat_tests)

-- digits have no sign
unsigned : (ds : List ℕ) → list_all is_digit ds ≡ true → (without_sign ds ≡ ds) × (is_negative ds ≡ false)
unsigned [] h = (refl, refl)
unsigned (d ∷ ds) h = by (is_digit d) refl h
  where
    by : (t : Bool) → is_digit d ≡ t → (t && list_all is_digit ds) ≡ true → (without_sign (d ∷ ds) ≡ d ∷ ds) × (is_negative (d ∷ ds) ≡ false)
    by true e h = (ap (λ t. if t then ds else d ∷ ds) (not_sign d e), not_minus d e)
    by false e h = cc

and_true : (p q : Bool) → p ≡ true → q ≡ true → (p && q) ≡ true
and_true true q h k = k
and_true false q h k = cc

lt_test : (n : ℕ) → 0 < n → nat_lt 0 n ≡ true
lt_test n h = grind (arith, nat_tests)

plain_numeral : (n : ℕ) → n ≤ largest_number → IsNumeral (pos n) (decimal n)
unfolding integer_value integer_size is_integer
plain_numeral n h =
    let w = writes n (omega arith) in
    let u = unsigned (decimal n) w.digits in
    let size : digits_value (without_sign (decimal n)) ≡ n = ap digits_value u.0 ∙ w.value in
    record {
      token = plain_token (decimal n) w.clear w.some;
      kind = integer_is (decimal n) (ap is_digits u.0 ∙ and_true _ _ (lt_test (length (decimal n)) w.some) w.digits);
      value = ap (λ t. if t then neg_ℤ (pos (integer_size (decimal n))) else pos (integer_size (decimal n))) u.1 ∙ ap (λ x. pos x) size;
      small = λ e. omega (arith, size, h);
    }

negative_numeral : (n : ℕ) → suc n ≤ largest_number → IsNumeral (negsuc n) (45 ∷ decimal (suc n))
unfolding integer_value integer_size is_integer
negative_numeral n h =
    let w = writes (suc n) (omega arith) in
    let longer : 0 < length (45 ∷ decimal (suc n)) = omega arith in
    record {
      token = plain_token (45 ∷ decimal (suc n)) w.clear longer;
      kind = integer_is (45 ∷ decimal (suc n)) (and_true _ _ (lt_test (length (decimal (suc n))) w.some) w.digits);
      value = ap (λ x. neg_ℤ (pos x)) w.value;
      small = λ e. let v = w.value in omega (arith, v, h);
    }

pub numeral : (n : ℤ) → IsWritable n → IsNumeral n (signed_decimal n)
numeral (pos n) h = plain_numeral n h
numeral (negsuc n) h = negative_numeral n h
