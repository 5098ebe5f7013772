-- Words by their kinds, and what faults say of them.
use Rattle.std.proofs.Common.{◌≡◌, ℕ, ◌<◌, ◌≤◌, Bool, true, false, List, [], ◌∷◌, refl, sym, ap, ◌∙◌, arith}
use Rattle.std.proofs.lemmas.List.Elements.{All-head, All-tail, All-cons, All-nil}
use Rattle.pb_text.specs.Lexeme.{kind_of}
use Rattle.pb_text.specs.Number.{integer_size, largest_number}
use Rattle.pb_text.specs.declared.kind.Kind.{Kind}
use Rattle.pb_text.specs.declared.kind.Kind.TheVariants.{Symbol, Stray, Integer, Literal, Misspelt, Other}
use Rattle.proof_text.specs.Kinds.{is_integer, is_literal, is_semicolon}
use Rattle.proof_text.specs.Words.{IsSmall, AreSmall}
use Rattle.proof_text.specs.PartsDenied.{Denies, IsForm}
use Rattle.proof_text.specs.declared.fault.ProofFault.{ProofFault}
use Rattle.proof_text.specs.declared.fault.ProofFault.TheVariants as faults

pub integer_kind : (k : Kind) → k ≡ Integer → is_integer k ≡ true
integer_kind k h = ap is_integer h

pub no_integer : (k : Kind) → (k ≡ Integer → ⊥) → is_integer k ≡ false
no_integer (Symbol s) h = refl
no_integer Stray h = refl
no_integer Integer h = absurd (h refl)
no_integer Literal h = refl
no_integer Misspelt h = refl
no_integer Other h = refl

pub no_literal : (k : Kind) → (k ≡ Literal → ⊥) → is_literal k ≡ false
no_literal (Symbol s) h = refl
no_literal Stray h = refl
no_literal Integer h = refl
no_literal Literal h = absurd (h refl)
no_literal Misspelt h = refl
no_literal Other h = refl

-- a kind is one thing
pub integer_alone : (k : Kind) → is_integer k ≡ true → (is_literal k ≡ false) × (is_semicolon k ≡ false)
integer_alone (Symbol s) h = cc
integer_alone Stray h = cc
integer_alone Integer h = (refl, refl)
integer_alone Literal h = cc
integer_alone Misspelt h = cc
integer_alone Other h = cc

pub literal_alone : (k : Kind) → is_literal k ≡ true → (is_integer k ≡ false) × (is_semicolon k ≡ false)
literal_alone (Symbol s) h = cc
literal_alone Stray h = cc
literal_alone Integer h = cc
literal_alone Literal h = (refl, refl)
literal_alone Misspelt h = cc
literal_alone Other h = cc

pub semicolon_alone : (k : Kind) → is_semicolon k ≡ true → (is_integer k ≡ false) × (is_literal k ≡ false)
semicolon_alone (Symbol s) h = (refl, refl)
semicolon_alone Stray h = cc
semicolon_alone Integer h = cc
semicolon_alone Literal h = cc
semicolon_alone Misspelt h = cc
semicolon_alone Other h = cc

-- a word that is no integer is small
pub small_other : (w : List ℕ) → is_integer (kind_of w) ≡ false → IsSmall w
small_other w h e = absurd (cc (sym h ∙ e))

pub small_value : (w : List ℕ) → integer_size w ≤ largest_number → IsSmall w
small_value w h e = h

-- an integer that is too large
pub one_large : (w : List ℕ) → kind_of w ≡ Integer → largest_number < integer_size w → AreSmall (w ∷ []) → ⊥
one_large w k h small =
    let one : IsSmall w = All-head IsSmall w [] small in
    let le : integer_size w ≤ largest_number = one (integer_kind (kind_of w) k) in
    absurd (omega (arith, h, le))

pub all_small : (w : List ℕ) (rest : List (List ℕ)) → IsSmall w → AreSmall rest → AreSmall (w ∷ rest)
all_small w rest h k = All-cons IsSmall w rest h k

pub none_small : AreSmall []
none_small = All-nil IsSmall

pub first_small : (w : List ℕ) (rest : List (List ℕ)) → AreSmall (w ∷ rest) → IsSmall w
first_small w rest h = All-head IsSmall w rest h

pub rest_small : (w : List ℕ) (rest : List (List ℕ)) → AreSmall (w ∷ rest) → AreSmall rest
rest_small w rest h = All-tail IsSmall w rest h

pub only_small : (w : List ℕ) (rest : List (List ℕ)) → AreSmall (w ∷ rest) → AreSmall (w ∷ [])
only_small w rest h = all_small w [] (first_small w rest h) none_small

-- a fault of form, wherever the form is not there
pub denied : (f : ProofFault) (p : Bool) (ws : List (List ℕ)) → IsForm f → p ≡ false → Denies f p ws
denied faults.BadHeader p ws h e = absurd h
denied faults.BadCount p ws h e = absurd h
denied faults.UnknownRule p ws h e = e
denied faults.RuleLeftOut p ws h e = e
denied faults.BadLine p ws h e = e
denied faults.Truncated p ws h e = absurd h
denied faults.TextAfterEnd p ws h e = absurd h
denied faults.IntegerTooLarge p ws h e = absurd h
denied faults.OutOfMemory p ws h e = absurd h
denied faults.TooManyIds p ws h e = absurd h

-- a fault of a part is one of the whole
pub denied_more : (f : ProofFault) (p q : Bool) (ws vs : List (List ℕ)) → (p ≡ false → q ≡ false) → (AreSmall vs → AreSmall ws) → Denies f p ws → Denies f q vs
denied_more faults.BadHeader p q ws vs g s h = h
denied_more faults.BadCount p q ws vs g s h = h
denied_more faults.UnknownRule p q ws vs g s h = g h
denied_more faults.RuleLeftOut p q ws vs g s h = g h
denied_more faults.BadLine p q ws vs g s h = g h
denied_more faults.Truncated p q ws vs g s h = h
denied_more faults.TextAfterEnd p q ws vs g s h = h
denied_more faults.IntegerTooLarge p q ws vs g s h = λ small. h (s small)
denied_more faults.OutOfMemory p q ws vs g s h = h
denied_more faults.TooManyIds p q ws vs g s h = h
