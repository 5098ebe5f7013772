-- The count line.
use Rattle.std.proofs.Common.{◌≡◌, ℕ, ℤ, Bool, true, false, ◌&&◌, if◌then◌else◌, Option, Some, None, List, [], ◌∷◌, drop, refl, sym, ap, subst, ◌∙◌, codes}
use Rattle.std.specs.Str.{bytes_eq}
use Rattle.pb_text.specs.Lexeme.{kind_of, kind_of_word}
use Rattle.pb_text.specs.Name.{is_name}
use Rattle.pb_text.specs.Word.{is_integer as integer_word, is_literal as literal_word, is_misspelt}
use Rattle.pb_text.specs.Number.{integer_value}
use Rattle.proof_text.specs.Kinds.{is_integer}
use Rattle.proof_text.specs.Words.{is_first, is_empty, IsSmall, AreSmall}
use Rattle.proof_text.specs.Frame.{count_of}
use Rattle.proof_text.specs.PartsDenied.{Denies}
use Rattle.proof_text.specs.declared.fault.ProofFault.{ProofFault}
use Rattle.proof_text.specs.declared.fault.ProofFault.TheVariants as faults
use Rattle.proof_text.proofs.PolItems.{first_word}
use Rattle.proof_text.proofs.WordsByKind.{all_small, none_small, small_other, rest_small, only_small}

f_kind : is_integer (kind_of (codes "f")) ≡ false
unfolding kind_of kind_of_word integer_word literal_word is_misspelt is_name
f_kind = refl

-- `f`, an integer and no more
pub counted_by_two : (w : List ℕ) (ws rest more : List (List ℕ)) (n : ℤ) → is_first (codes "f") ws ≡ true → rest ≡ drop 1 ws → rest ≡ w ∷ more → more ≡ [] → is_integer (kind_of w) ≡ true → n ≡ integer_value w → IsSmall w
    → (count_of ws ≡ Some n) × AreSmall ws
counted_by_two w ws rest more n h d e m i v small =
    let at : ws ≡ codes "f" ∷ w ∷ [] = first_word (codes "f") ws h ∙ ap (λ x. codes "f" ∷ x) (sym d ∙ e ∙ ap (λ x. w ∷ x) m) in
    subst (λ x. (count_of x ≡ Some n) × AreSmall x) (sym at)
    (ap (λ t. if t then Some (integer_value w) else None) i ∙ ap (λ x. Some x) (sym v), all_small (codes "f") (w ∷ []) (small_other (codes "f") f_kind) (all_small w [] small none_small))

not_counted : (f w : List ℕ) (more : List (List ℕ)) (n : ℤ) → is_integer (kind_of w) ≡ false → count_of (f ∷ w ∷ more) ≡ Some n → ⊥
not_counted f w [] n h e = by (bytes_eq f (codes "f")) e
  where
    by : (t : Bool) → (if t && is_integer (kind_of w) then Some (integer_value w) else None) ≡ Some n → ⊥
    by true e = let none : ◌≡◌ {A = Option ℤ} None (Some n) = sym (ap (λ t. if t then Some (integer_value w) else None) h) ∙ e in cc
    by false e = cc
not_counted f w (v ∷ more) n h e = cc

-- what a fault in the number says of the line
denied_by : (f : ProofFault) (a w : List ℕ) (more : List (List ℕ)) (n : ℤ) → Denies f (is_integer (kind_of w)) (w ∷ []) → count_of (a ∷ w ∷ more) ≡ Some n → AreSmall (a ∷ w ∷ more)
    → (f ≡ faults.OutOfMemory → ⊥) → ⊥
denied_by faults.BadHeader a w more n d e s x = absurd d
denied_by faults.BadCount a w more n d e s x = absurd d
denied_by faults.UnknownRule a w more n d e s x = not_counted a w more n d e
denied_by faults.RuleLeftOut a w more n d e s x = not_counted a w more n d e
denied_by faults.BadLine a w more n d e s x = not_counted a w more n d e
denied_by faults.Truncated a w more n d e s x = absurd d
denied_by faults.TextAfterEnd a w more n d e s x = absurd d
denied_by faults.IntegerTooLarge a w more n d e s x = d (only_small w more (rest_small a (w ∷ more) s))
denied_by faults.OutOfMemory a w more n d e s x = x refl
denied_by faults.TooManyIds a w more n d e s x = absurd d

pub no_count : (f : ProofFault) (w : List ℕ) (ws rest more : List (List ℕ)) → is_first (codes "f") ws ≡ true → rest ≡ drop 1 ws → rest ≡ w ∷ more → Denies f (is_integer (kind_of w)) (w ∷ []) → (f ≡ faults.OutOfMemory → ⊥)
    → (n : ℤ) → count_of ws ≡ Some n → AreSmall ws → ⊥
no_count f w ws rest more h d e denies x n says small =
    let at : ws ≡ codes "f" ∷ w ∷ more = first_word (codes "f") ws h ∙ ap (λ x. codes "f" ∷ x) (sym d ∙ e) in
    denied_by f (codes "f") w more n denies (sym (ap count_of at) ∙ says) (subst AreSmall at small) x

pub none_left : (ws : List (List ℕ)) → is_empty ws ≡ true → ws ≡ []
none_left [] h = refl
none_left (w ∷ ws) h = cc
