-- A text parted at its first LF.
use Rattle.std.proofs.Common.{◌≡◌, ℕ, zero, suc, ◌+◌, ◌<◌, ◌≤◌, ◌==◌, Bool, true, false, not, ◌&&◌, ◌||◌, if◌then◌else◌, List, [], ◌∷◌, length, take, drop, get_or, refl, ap, sym, ◌∙◌, subst, arith, add-one}
use Rattle.std.proofs.lemmas.List.Sums.{sum_by-cons}
use Rattle.std.proofs.lemmas.List.{take_all}
use Rattle.memchr.specs.Find.{Nowhere, NoneBefore, Passes, is_byte}
use Rattle.std.specs.List.{list_all}
use Rattle.pb_text.specs.Lexeme.{Position, Lexeme, Cut, begins_comment, is_white, symbol_length, all_tokens, lexemes, lexemes_from}
use Rattle.pb_text.specs.Cutting.{behind}
use Rattle.pb_text.proofs.Cutting.{white_passed, past_plain, end_empty}
use Rattle.proof_lines.specs.Lines.{Parted, parted, onto, counting, counting_from, breaks, counts, has_no_break}

-- no byte of the text is an LF
abbrev NoBreak : List ℕ → ℕ → Type 0
NoBreak text n = (k : ℕ) → k < n → (get_or text k 0 == 10) ≡ true → ⊥

breaks-cons : (b : ℕ) (rest : List ℕ) → breaks (b ∷ rest) ≡ (if b == 10 then 1 else 0) + breaks rest
breaks-cons b rest = sum_by-cons (λ (x : ℕ). if x == 10 then 1 else 0) b rest

-- a text of one line
abbrev only : List ℕ → Parted
only text = record { first = text; others = [] }

-- a byte in front of a parted text
abbrev before : Bool → ℕ → Parted → Parted
before t b p = if t then record { first = []; others = p.first ∷ p.others } else record { first = b ∷ p.first; others = p.others }

whole : (text : List ℕ) → NoBreak text (length text) → (parted text ≡ only text) × (breaks text ≡ 0)
whole [] h = (refl, refl)
whole (b ∷ rest) h = by (b == 10) (h 0 (omega arith)) (whole rest (λ k l e. h (suc k) (omega arith) e)) (breaks-cons b rest)
  where
    by : (t : Bool) → (t ≡ true → ⊥) → (parted rest ≡ only rest) × (breaks rest ≡ 0) → breaks (b ∷ rest) ≡ (if t then 1 else 0) + breaks rest
        → (before t b (parted rest) ≡ only (b ∷ rest)) × (breaks (b ∷ rest) ≡ 0)
    by true n p c = absurd (n refl)
    by false n p c = (ap (before false b) p.0, omega (arith, p.1, c))

-- the text up to its first LF, and the lines behind it
abbrev split : ℕ → List ℕ → Parted
split k text = record { first = take k text; others = (parted (drop (suc k) text)).first ∷ (parted (drop (suc k) text)).others }

at_break : (k : ℕ) (text : List ℕ) → k < length text → (get_or text k 0 == 10) ≡ true → NoBreak text k
    → (parted text ≡ split k text) × (breaks text ≡ 1 + breaks (drop (suc k) text))
at_break k [] l e h = absurd (omega arith)
at_break zero (b ∷ rest) l e h =
    (ap (λ t. before t b (parted rest)) e, breaks-cons b rest ∙ ap (λ t. (if t then 1 else 0) + breaks rest) e)
at_break (suc k) (b ∷ rest) l e h = by (b == 10) (h 0 (omega arith)) (at_break k rest (omega arith) e (λ j m f. h (suc j) (omega arith) f)) (breaks-cons b rest)
  where
    by : (t : Bool) → (t ≡ true → ⊥) → (parted rest ≡ split k rest) × (breaks rest ≡ 1 + breaks (drop (suc k) rest)) → breaks (b ∷ rest) ≡ (if t then 1 else 0) + breaks rest
        → (before t b (parted rest) ≡ split (suc k) (b ∷ rest)) × (breaks (b ∷ rest) ≡ 1 + breaks (drop (suc k) rest))
    by true n p c = absurd (n refl)
    by false n p c = (ap (before false b) p.0, omega (arith, p.1, c))

-- an empty line does not count
pub nothing_left : (number : ℕ) → counting_from number [] ≡ []
unfolding counting_from lexemes lexemes_from
nothing_left number = refl

-- the last line
pub last_line : (number : ℕ) (text : List ℕ) → Nowhere (Passes (is_byte 10) text) 0 (length text)
    → counting_from number text ≡ onto (record { number = number; text = text }) (counting_from number [])
unfolding counting_from
last_line number text h =
    let p : (parted text ≡ only text) × (breaks text ≡ 0) = whole text (λ k l e. h k (omega arith) l e) in
    ap (λ (p : Parted). counting number (p.first ∷ p.others)) p.0
    ∙ ap (λ more. onto (record { number = number; text = text }) more) (sym (nothing_left number))

pub last_breaks : (text : List ℕ) → Nowhere (Passes (is_byte 10) text) 0 (length text) → breaks text ≡ 0
last_breaks text h = (whole text (λ k l e. h k (omega arith) l e)).1

-- a line that an LF ends
pub ended_line : (number k : ℕ) (text : List ℕ) → NoneBefore (Passes (is_byte 10) text) 0 (length text) k → Passes (is_byte 10) text k
    → counting_from number text ≡ onto (record { number = number; text = take k text }) (counting_from (number + 1) (drop (k + 1) text))
unfolding counting_from
ended_line number k text b e =
    let p : (parted text ≡ split k text) × (breaks text ≡ 1 + breaks (drop (suc k) text)) = at_break k text b.high e (λ j l f. b.before j (omega arith) l f) in
    ap (λ (p : Parted). counting number (p.first ∷ p.others)) p.0
    ∙ ap (λ n. onto (record { number = number; text = take k text }) (counting_from (number + 1) (drop n text))) (sym (add-one k))

pub ended_breaks : (k : ℕ) (text : List ℕ) → NoneBefore (Passes (is_byte 10) text) 0 (length text) k → Passes (is_byte 10) text k
    → breaks text ≡ 1 + breaks (drop (k + 1) text)
ended_breaks k text b e =
    (at_break k text b.high e (λ j l f. b.before j (omega arith) l f)).1 ∙ ap (λ n. 1 + breaks (drop n text)) (sym (add-one k))

clear_front : (t rest : Bool) → (t ≡ true → ⊥) → rest ≡ true → (not t && rest) ≡ true
clear_front true rest n h = absurd (n refl)
clear_front false rest n h = h

unbroken_up_to : (k : ℕ) (text : List ℕ) → k ≤ length text → NoBreak text k → has_no_break (take k text) ≡ true
unbroken_up_to zero text l h = refl
unbroken_up_to (suc k) [] l h = absurd (omega (arith, l))
unbroken_up_to (suc k) (c ∷ rest) l h =
    clear_front (c == 10) (has_no_break (take k rest)) (h 0 (omega arith)) (unbroken_up_to k rest (omega (arith, l)) (λ j m f. h (suc j) (omega (arith, m)) f))

-- a line up to its LF has none
pub first_unbroken : (k : ℕ) (text : List ℕ) → NoneBefore (Passes (is_byte 10) text) 0 (length text) k → has_no_break (take k text) ≡ true
first_unbroken k text b = unbroken_up_to k text (omega (arith, b.high)) (λ j l f. b.before j (omega arith) l f)

-- nor has the last line
pub whole_unbroken : (text : List ℕ) → Nowhere (Passes (is_byte 10) text) 0 (length text) → has_no_break text ≡ true
whole_unbroken text h =
    subst (λ t. has_no_break t ≡ true) (take_all (length text) text (omega arith)) (unbroken_up_to (length text) text (omega arith) (λ j l f. h j (omega arith) l f))

abbrev some_token : List Lexeme → Bool
some_token ts = elim ts [ [] ↦ false | t ∷ rest ↦ true ]

-- the first byte of a line without LF, and its others
unbroken_parts : (b : ℕ) (rest : List ℕ) → has_no_break (b ∷ rest) ≡ true → ((b == 10) ≡ false) × (has_no_break rest ≡ true)
unbroken_parts b rest h = by (b == 10) h
  where
    by : (t : Bool) → (not t && has_no_break rest) ≡ true → (t ≡ false) × (has_no_break rest ≡ true)
    by true h = absurd cc
    by false h = (refl, h)

comment_empty : (p : Position) (line : List ℕ) → p.comment ≡ true → has_no_break line ≡ true → lexemes_from p line ≡ []
comment_empty p [] c h = end_empty p [] refl
comment_empty p (b ∷ rest) c h =
    let parts = unbroken_parts b rest h in
    white_passed p b rest (ap (λ t. t || is_white b) c) ∙ ap (λ q. lexemes_from q rest) (past_plain p b rest parts.0) ∙ comment_empty (behind 1 p) rest c parts.1

has_first : (t s : Bool) (p : Position) (x y z : Cut) → t ≡ false → some_token (all_tokens p y) ≡ true → some_token (all_tokens p z) ≡ true
    → some_token (all_tokens p (if t then x else if s then y else z)) ≡ true
has_first true s p x y z h f g = absurd cc
has_first false true p x y z h f g = f
has_first false false p x y z h f g = g

token_first : (p : Position) (b : ℕ) (rest : List ℕ) → p.comment ≡ false → is_white b ≡ false → some_token (lexemes_from p (b ∷ rest)) ≡ true
unfolding lexemes_from
token_first p b rest c h = has_first (p.comment || is_white b) (symbol_length (b ∷ rest) == 0) p _ _ _ (ap (λ t. t || is_white b) c ∙ h) refl refl

outside_comment : (p : Position) (line : List ℕ) → p.comment ≡ false → has_no_break line ≡ true → some_token (lexemes_from p line) ≡ not (list_all is_white line)
outside_comment p [] c h = ap some_token (end_empty p [] refl)
outside_comment p (b ∷ rest) c h =
    let parts = unbroken_parts b rest h in
    by (is_white b) refl parts.0 (outside_comment (behind 1 p) rest c parts.1)
  where
    by : (t : Bool) → is_white b ≡ t → (b == 10) ≡ false → some_token (lexemes_from (behind 1 p) rest) ≡ not (list_all is_white rest) → some_token (lexemes_from p (b ∷ rest)) ≡ not (t && list_all is_white rest)
    by true e n later = ap some_token (white_passed p b rest (ap (λ t. t || is_white b) c ∙ e) ∙ ap (λ q. lexemes_from q rest) (past_plain p b rest n)) ∙ later
    by false e n later = token_first p b rest c e

-- a line without LF has a token where it is neither blank nor a comment
pub counts_where : (line : List ℕ) → has_no_break line ≡ true → counts line ≡ (not (list_all is_white line) && not (begins_comment line))
unfolding lexemes
counts_where line h = by (begins_comment line)
  where
    start : Bool → Position
    start c = record { start = 0; line = 1; comment = c }

    last : (t : Bool) → t ≡ (t && not false)
    last true = refl
    last false = refl

    none : (t : Bool) → false ≡ (t && not true)
    none true = refl
    none false = refl

    by : (c : Bool) → some_token (lexemes_from (start c) line) ≡ (not (list_all is_white line) && not c)
    by true = ap some_token (comment_empty (start true) line refl h) ∙ none (not (list_all is_white line))
    by false = outside_comment (start false) line refl h ∙ last (not (list_all is_white line))
