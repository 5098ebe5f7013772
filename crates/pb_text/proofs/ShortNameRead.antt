-- The number of a short name, read digit by digit.
use Rattle.std.proofs.Common.{◌≡◌, ℕ, ◌+◌, ◌*◌, ◌-◌, List, [], ◌∷◌, ◌++◌, take, drop, reverse, refl, sym, ap, subst, ◌∙◌, arith}
use Rattle.std.proofs.lemmas.Grind.{reverse_onto}
use Rattle.std.proofs.lemmas.List.Elements.{All-nil, All-cons}
use Rattle.pb_text.specs.ShortName.{IsDigit, IsShort}
use Rattle.pb_text.proofs.Cutting.{take_next}

-- `x` alone
pub nothing_read : IsShort (120 ∷ []) 0
nothing_read = record { digits = []; are_digits = All-nil IsDigit; spelled = refl; numbered = refl }

tails : (x : ℕ) (xs ys : List ℕ) → x ∷ xs ≡ x ∷ ys → xs ≡ ys
tails x xs ys e = cc e

-- one digit more
pub digit_read : (read : List ℕ) (number d : ℕ) → IsShort (120 ∷ read) number → IsDigit d → IsShort (120 ∷ (read ++ d ∷ [])) (number * 11 + (d - 47))
digit_read read number d s is =
    let before : read ≡ reverse s.digits = tails 120 read (reverse s.digits) s.spelled in
    record {
      digits = d ∷ s.digits;
      are_digits = All-cons IsDigit d s.digits is s.are_digits;
      spelled = ap (λ xs. 120 ∷ (xs ++ d ∷ [])) before ∙ ap (λ xs. 120 ∷ xs) (sym (reverse_onto s.digits d []));
      numbered = omega (arith, s.numbered);
    }

-- the same where the digits are the front of a text
pub short_longer : (n number d more : ℕ) (text tail : List ℕ) → drop n text ≡ d ∷ tail → IsShort (120 ∷ take n text) number → IsDigit d → more ≡ d - 47 →
    IsShort (120 ∷ take (n + 1) text) (number * 11 + more)
short_longer n number d more text tail here s is e =
    subst (λ (k : ℕ). IsShort (120 ∷ take (n + 1) text) (number * 11 + k)) (sym e)
    (subst (λ (xs : List ℕ). IsShort (120 ∷ xs) (number * 11 + (d - 47))) (sym (take_next n text d tail (sym here))) (digit_read (take n text) number d s is))
