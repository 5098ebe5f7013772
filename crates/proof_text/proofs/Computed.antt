-- Worked cases by computing: each condition of a line, and that a line is none.
use Rattle.std.proofs.Common.{◌≡◌, ◌≢◌, ℕ, ◌≤◌, length, Bool, true, false, not, ◌&&◌, ◌||◌, nat_le, Option, Some, None, List, [], ◌∷◌, refl, sym, subst, ◌∙◌, arith}
use Rattle.std.specs.Prelude.{All}
use Rattle.std.specs.List.{list_all}
use Rattle.std.proofs.lemmas.List.Elements.{All-nil, All-cons}
use Rattle.std.proofs.lemmas.List.Kept.{AllPairs-cons}
use Rattle.std.proofs.lemmas.Bool.Decides.{nat_tests}
use Rattle.pb_text.specs.Lexeme.{kind_of}
use Rattle.pb_text.specs.Number.{integer_size, largest_number}
use Rattle.linear.specs.Largest.{most_names}
use Rattle.linear.specs.declared.term.Var.{Var}
use Rattle.linear.specs.declared.constraint.Signed.{Signed}
use Rattle.substitution.specs.declared.image.Image.{Image}
use Rattle.substitution.specs.declared.image.Image.TheVariants as images
use Rattle.substitution.specs.Images.{NamesOnce}
use Rattle.proof_steps.specs.declared.step.Step.TheVariants as steps
use Rattle.proof_text.specs.Kinds.{is_integer}
use Rattle.proof_text.specs.Words.{words, IsSmall, AreSmall}
use Rattle.proof_text.specs.Spells.{line_of, measured, IsProperLine, IsLine}
use Rattle.proof_text.specs.declared.line.Line.{Line}
use Rattle.proof_text.specs.declared.line.Line.TheVariants as lines
use Rattle.proof_text.specs.declared.line.Section.{Section}
use Rattle.proof_text.specs.Numbering.{names_in}
use Rattle.proof_text.specs.Spells.{naming}
use Rattle.proof_text.specs.Cases.{variable, SpellsNothing}

pub nothing : (section : Section) (text : List ℕ) → ((names : List (List ℕ)) → line_of section names (words text) ≡ None) → SpellsNothing section text
nothing section text h old line new l =
    let both : ◌≡◌ {A = Option Line} None (Some line) = sym (h new) ∙ l.says in
    absurd cc

-- is a word no integer, or one within 2^120
abbrev pub is_small : List ℕ → Bool
is_small w = not (is_integer (kind_of w)) || nat_le (integer_size w) largest_number

-- proofs that words are small, by computing
within : (t : Bool) (n : ℕ) → not t || nat_le n largest_number ≡ true → t ≡ true → n ≤ largest_number
within true n h e = grind (arith, nat_tests, h)
within false n h e = absurd cc

both : (a b : Bool) → a && b ≡ true → (a ≡ true) × (b ≡ true)
both true b h = (refl, h)
both false b h = absurd cc

pub all_small : (ws : List (List ℕ)) → list_all is_small ws ≡ true → AreSmall ws
all_small [] h = All-nil IsSmall
all_small (w ∷ ws) h =
    let p : (is_small w ≡ true) × (list_all is_small ws ≡ true) = both (is_small w) (list_all is_small ws) h in
    All-cons IsSmall w ws (within (is_integer (kind_of w)) (integer_size w) p.0) (all_small ws p.1)

-- proofs that no name stands twice, or that one does
abbrev Apart : Var × Image → Var × Image → Type 0
Apart p q = p.0.0 ≢ q.0.0

pub one_left : (x : Image) → NamesOnce ((variable 0, x) ∷ [])
one_left x = AllPairs-cons Apart (variable 0, x) [] (All-nil _) (λ i j d lt below. absurd (omega arith))

apart_from : (p q : Var × Image) (qs : List (Var × Image)) → Apart p q → All (Apart p) qs → All (Apart p) (q ∷ qs)
apart_from p q qs h k = All-cons (Apart p) q qs h k

pub three_left : (x y z : Image) → NamesOnce ((variable 0, x) ∷ (variable 2, y) ∷ (variable 1, z) ∷ [])
three_left x y z =
    let last : NamesOnce ((variable 1, z) ∷ []) = AllPairs-cons Apart (variable 1, z) [] (All-nil _) (λ i j d lt below. absurd (omega arith)) in
    let two : NamesOnce ((variable 2, y) ∷ (variable 1, z) ∷ []) = AllPairs-cons Apart (variable 2, y) ((variable 1, z) ∷ []) (apart_from (variable 2, y) (variable 1, z) [] (λ e. absurd (omega (arith, e))) (All-nil _)) last in
    AllPairs-cons Apart (variable 0, x) ((variable 2, y) ∷ (variable 1, z) ∷ [])
    (apart_from (variable 0, x) (variable 2, y) ((variable 1, z) ∷ []) (λ e. absurd (omega (arith, e))) (apart_from (variable 0, x) (variable 1, z) [] (λ e. absurd (omega (arith, e))) (All-nil _))) two

pub twice_left : (c : Signed) (x : Var) (line : Line)
    → ◌≡◌ {A = Option Line} (Some (lines.Step (steps.Red c ((x, images.One) ∷ (x, images.Zero) ∷ [])))) (Some line) → IsProperLine line → ⊥
twice_left c x line says proper =
    let same : line ≡ lines.Step (steps.Red c ((x, images.One) ∷ (x, images.Zero) ∷ [])) = cc in
    let once : NamesOnce ((x, images.One) ∷ (x, images.Zero) ∷ []) = subst IsProperLine same proper in
    once 0 1 (x, images.One) (omega arith) (omega arith) refl

-- a line is what its words say, each condition by computing
pub spells : {section : Section} {old ws : List (List ℕ)} {line : Line} {new : List (List ℕ)}
    → new ≡ names_in old (naming section ws) → line_of section new ws ≡ Some line → IsProperLine line → list_all is_small (measured section ws) ≡ true → length new ≤ most_names
    → IsLine section old ws line new
spells {section} {old} {ws} n s p m few = record { names = n; few = few; says = s; proper = p; small = all_small (measured section ws) m }
