-- Bytes of words at the front of a text, read one by one: which they are, and what their number comes to.
use Rattle.std.proofs.Common.{◌≡◌, ℕ, suc, ◌+◌, ◌-◌, ◌*◌, ◌^◌, ◌≤◌, ◌==◌, Bool, true, false, ◌&&◌, not, inl, inr, List, [], ◌∷◌, ◌++◌, length, take, drop, refl, ap, sym, subst, ◌∙◌, arith}
use Rattle.std.specs.List.{list_all}
use Rattle.std.proofs.lemmas.Bool.{cases_lt}
use Rattle.std.proofs.lemmas.Bool.Decides.{nat_tests, Decides-eqb}
use Rattle.std.proofs.lemmas.List.{length-append}
use Rattle.std.proofs.lemmas.List.Folds.{list_all-append}
use Rattle.std.proofs.Math.Nat.{pow-suc}
use Rattle.pb_text.specs.Name.{is_digit, continues_name}
use Rattle.pb_text.specs.Number.{digits_value}
use Rattle.pb_text.specs.Cutting.{begins_word, IsWordFront}
use Rattle.pb_text.specs.Scan.{IsRun}
use Rattle.pb_text.proofs.Cutting.{take_next}
use Rattle.pb_text.proofs.Positions.{drop_next}

-- a byte that passes a test is none that fails it
pub other_byte : (t : ℕ → Bool) (b c : ℕ) → t b ≡ true → t c ≡ false → (b == c) ≡ false
other_byte t b c h k =
    elim (b == c) as (λ (r : Bool). (b == c) ≡ r → r ≡ false) [
      | true ↦ λ e. absurd (cc (ap t ((Decides-eqb b c).0 e), h, k))
      | false ↦ λ e. refl
    ] refl

-- a byte of a word passes a test that white space and the bytes of symbols fail
pub plain_byte : (t : ℕ → Bool) (b : ℕ) (rest : List ℕ) → t b ≡ true →
    t 32 ≡ false → t 9 ≡ false → t 13 ≡ false → t 10 ≡ false → t 59 ≡ false → t 58 ≡ false → t 61 ≡ false → t 60 ≡ false → t 62 ≡ false → t 45 ≡ false →
    begins_word (b ∷ rest) ≡ true
plain_byte t b rest h space tab cr lf semicolon colon equals less greater minus =
    rw (
      other_byte t b 32 h space,
      other_byte t b 9 h tab,
      other_byte t b 13 h cr,
      other_byte t b 10 h lf,
      other_byte t b 59 h semicolon,
      other_byte t b 58 h colon,
      other_byte t b 61 h equals,
      other_byte t b 60 h less,
      other_byte t b 62 h greater,
      other_byte t b 45 h minus,
    ) refl

pub digit_test : (b : ℕ) → 48 ≤ b → b ≤ 57 → is_digit b ≡ true
digit_test b low high = grind (arith, nat_tests)

pub digit_byte : (b : ℕ) (rest : List ℕ) → is_digit b ≡ true → begins_word (b ∷ rest) ≡ true
digit_byte b rest h = plain_byte is_digit b rest h refl refl refl refl refl refl refl refl refl refl

-- a byte that continues a name and is no `-`
plainly : ℕ → Bool
plainly b = continues_name b && not (b == 45)

both : (s t : Bool) → s ≡ true → t ≡ false → (s && not t) ≡ true
both true true h k = absurd (cc k)
both true false h k = refl
both false t h k = absurd (cc h)

pub not_that : (b c : ℕ) → (b ≡ c → ⊥) → (b == c) ≡ false
not_that b c h =
    elim (b == c) as (λ (r : Bool). (b == c) ≡ r → r ≡ false) [
      | true ↦ λ e. absurd (h ((Decides-eqb b c).0 e))
      | false ↦ λ e. refl
    ] refl

pub name_byte : (b : ℕ) (rest : List ℕ) → continues_name b ≡ true → (b ≡ 45 → ⊥) → begins_word (b ∷ rest) ≡ true
unfolding plainly
name_byte b rest h other =
    plain_byte plainly b rest (both (continues_name b) (b == 45) h (not_that b 45 other)) refl refl refl refl refl refl refl refl refl refl

-- no byte yet
pub run_none : (test : ℕ → Bool) (text : List ℕ) → IsRun test 0 text text
run_none test text = record { within = omega arith; behind = refl; bytes = λ k h. absurd (omega (arith, h)); passed = refl }

pass_next : (test : ℕ → Bool) (xs : List ℕ) (b : ℕ) → list_all test xs ≡ true → test b ≡ true → list_all test (xs ++ b ∷ []) ≡ true
pass_next test xs b h k = list_all-append test xs (b ∷ []) ∙ rw (h, k) refl

-- one byte more
pub run_longer : (test : ℕ → Bool) (n b : ℕ) (text rest tail : List ℕ) → rest ≡ b ∷ tail → IsRun test n text rest → test b ≡ true → begins_word (b ∷ tail) ≡ true →
    IsRun test (n + 1) text tail
run_longer test n b text rest tail e r h word =
    let here : drop n text ≡ b ∷ tail = sym r.behind ∙ e in
    record {
      within = omega (arith, r.within, ap length e);
      behind = sym (drop_next n text b tail here);
      bytes = λ k l. elim (cases_lt k n) [
        | inl before ↦ r.bytes k before
        | inr after ↦
            let same : n ≡ k = omega (arith, l, after) in
            subst (λ (m : ℕ). begins_word (drop m text) ≡ true) same (ap begins_word here ∙ word)
      ];
      passed = ap (list_all test) (take_next n text b tail (sym here)) ∙ pass_next test (take n text) b r.passed h;
    }

-- a run behind which no byte of a word stands is a word's front
pub run_front : (test : ℕ → Bool) (n : ℕ) (text rest : List ℕ) → IsRun test n text rest → begins_word rest ≡ false → IsWordFront n text
run_front test n text rest r ends = record {
  within = omega (arith, r.within);
  bytes = r.bytes;
  ends = ap begins_word (sym r.behind) ∙ ends;
}

in_tens : (d t v c : ℕ) → d * (10 * t) + (v * 10 + c) ≡ (d * t + v) * 10 + c
in_tens d t v c = omega arith

-- one digit behind others
value_pushed : (xs : List ℕ) (b : ℕ) → digits_value (xs ++ b ∷ []) ≡ digits_value xs * 10 + (b - 48)
value_pushed [] b = omega arith
value_pushed (x ∷ xs) b =
    let size : length (xs ++ b ∷ []) ≡ suc (length xs) = omega (arith, length-append xs (b ∷ [])) in
    let power : 10 ^ length (xs ++ b ∷ []) ≡ 10 * 10 ^ length xs = ap (λ (n : ℕ). 10 ^ n) size ∙ omega (arith, pow-suc 10 (length xs)) in
    ap (λ (t : ℕ). (x - 48) * t + digits_value (xs ++ b ∷ [])) power
    ∙ ap (λ (v : ℕ). (x - 48) * (10 * 10 ^ length xs) + v) (value_pushed xs b)
    ∙ in_tens (x - 48) (10 ^ length xs) (digits_value xs) (b - 48)

pub value_longer : (n b : ℕ) (text tail : List ℕ) → drop n text ≡ b ∷ tail → digits_value (take (n + 1) text) ≡ digits_value (take n text) * 10 + (b - 48)
value_longer n b text tail here = ap digits_value (take_next n text b tail (sym here)) ∙ value_pushed (take n text) b
