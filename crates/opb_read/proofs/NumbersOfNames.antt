-- Names keep their numbers when those of more tokens are added.
use Rattle.std.proofs.Common.{◌≡◌, ℕ, ◌<◌, ◌≤◌, Bool, true, false, List, [], ◌∷◌, length, if◌then◌else◌, refl, ◌∙◌, arith}
use Rattle.pb_text.specs.Lexeme.{Lexeme}
use Rattle.pb_text.specs.Word.{name_of}
use Rattle.linear.specs.Table.{has_name, place_of, with_name}
use Rattle.linear.proofs.NumbersOfNames.{with_name-more, place_stays, has_stays, number_of-added, place_of-less}
use Rattle.opb_read.specs.Kinds.{is_literal}
use Rattle.opb_read.specs.Forms.{names_in}

pub names_in-more : (names : List (List ℕ)) (ts : List Lexeme) → length names ≤ length (names_in names ts)
names_in-more names [] = omega arith
names_in-more names (t ∷ ts) = by (is_literal t.kind) (names_in-more (with_name names (name_of t.text)) ts) (names_in-more names ts)
  where
    by : (b : Bool) → length (with_name names (name_of t.text)) ≤ length (names_in (with_name names (name_of t.text)) ts) → length names ≤ length (names_in names ts)
        → length names ≤ length (names_in (if b then with_name names (name_of t.text) else names) ts)
    by true h k = omega (arith, with_name-more names (name_of t.text), h)
    by false h k = k

pub number_stays : (names : List (List ℕ)) (ts : List Lexeme) (name : List ℕ) → has_name names name ≡ true → place_of (names_in names ts) name ≡ place_of names name
number_stays names [] name h = refl
number_stays names (t ∷ ts) name h =
    by (is_literal t.kind) (number_stays (with_name names (name_of t.text)) ts name (has_stays names name (name_of t.text) h)) (number_stays names ts name h)
  where
    by : (b : Bool) → place_of (names_in (with_name names (name_of t.text)) ts) name ≡ place_of (with_name names (name_of t.text)) name
        → place_of (names_in names ts) name ≡ place_of names name
        → place_of (names_in (if b then with_name names (name_of t.text) else names) ts) name ≡ place_of names name
    by true e k = e ∙ place_stays names name (name_of t.text) h
    by false e k = k

-- the number of a name that is read next stays to the end, and is one of the table's
pub number_at_end : (names : List (List ℕ)) (name : List ℕ) (ts : List Lexeme)
    → (place_of (names_in (with_name names name) ts) name ≡ place_of names name) × (place_of names name < length (names_in (with_name names name) ts))
number_at_end names name ts =
    let added : (has_name (with_name names name) name ≡ true) × (place_of (with_name names name) name ≡ place_of names name) = number_of-added names name in
    let at : place_of (names_in (with_name names name) ts) name ≡ place_of (with_name names name) name = number_stays (with_name names name) ts name added.0 in
    let below : place_of (with_name names name) name < length (with_name names name) = place_of-less (with_name names name) name added.0 in
    let more : length (with_name names name) ≤ length (names_in (with_name names name) ts) = names_in-more (with_name names name) ts in
    let same : place_of (with_name names name) name ≡ place_of names name = added.1 in
    (at ∙ same, omega (arith, same, below, more))
