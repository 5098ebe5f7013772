-- Names keep their numbers when more are met.
use Rattle.std.proofs.Common.{◌≡◌, ◌⊎◌, inl, inr, ℕ, ◌+◌, ◌<◌, ◌≤◌, Bool, true, false, not, cond, ◌||◌, List, [], ◌∷◌, ◌++◌, length, if◌then◌else◌, refl, sym, ap, subst, ◌∙◌, arith, length-append}
use Rattle.std.specs.Prelude.{nat_lt}
use Rattle.std.proofs.lemmas.Bool.Decides.{nat_tests}
use Rattle.pb_text.specs.Lexeme.{kind_of}
use Rattle.pb_text.specs.Word.{name_of}
use Rattle.linear.specs.Table.{same_name, has_name, place_of, with_name, IsFullFor}
use Rattle.linear.proofs.NumbersOfNames.{with_name-more, place_of-append, has_name-append, has_name-last, number_of-added}
use Rattle.proof_text.specs.Kinds.{is_literal}
use Rattle.proof_text.specs.NamesMet.{NamesMet, met, met_in, but_last}
use Rattle.linear.specs.Largest.{most_names}
use Rattle.proof_text.specs.Numbering.{names_in}

-- all names but the last number every name as before
pub place_of-but_last : (names : List (List ℕ)) (name : List ℕ) → has_name names name ≡ true → place_of (but_last names) name ≡ place_of names name
place_of-but_last [] name h = refl
place_of-but_last (n ∷ []) name h = by (same_name name n) h
  where
    by : (b : Bool) → (b || false) ≡ true → 0 ≡ cond (not b) (1 + 0) 0
    by true e = refl
    by false e = cc
place_of-but_last (n ∷ m ∷ rest) name h = by (same_name name n) h (place_of-but_last (m ∷ rest) name)
  where
    by : (b : Bool) → (b || has_name (m ∷ rest) name) ≡ true → (has_name (m ∷ rest) name ≡ true → place_of (but_last (m ∷ rest)) name ≡ place_of (m ∷ rest) name)
        → cond (not b) (1 + place_of (but_last (m ∷ rest)) name) 0 ≡ cond (not b) (1 + place_of (m ∷ rest) name) 0
    by true e f = refl
    by false e f = ap (λ k. 1 + k) (f e)

-- and a name that is not there has the number of the last
pub place_of-beyond : (names : List (List ℕ)) (name : List ℕ) → has_name names name ≡ false → 0 < length names → 1 + place_of (but_last names) name ≡ length names
place_of-beyond [] name h some = absurd (omega arith)
place_of-beyond (n ∷ []) name h some = refl
place_of-beyond (n ∷ m ∷ rest) name h some = by (same_name name n) h (λ e. place_of-beyond (m ∷ rest) name e (omega arith))
  where
    by : (b : Bool) → (b || has_name (m ∷ rest) name) ≡ false → (has_name (m ∷ rest) name ≡ false → 1 + place_of (but_last (m ∷ rest)) name ≡ length (m ∷ rest))
        → 1 + cond (not b) (1 + place_of (but_last (m ∷ rest)) name) 0 ≡ length (n ∷ m ∷ rest)
    by true e f = cc
    by false e f = let k : 1 + place_of (but_last (m ∷ rest)) name ≡ length (m ∷ rest) = f e in omega (arith, k)

-- a name's number is settled: the table has it, or a name was met for which there was no room
abbrev Settled : NamesMet → List ℕ → Type 0
Settled k name = (has_name k.names name ≡ true) ⊎ (k.full ≡ true)

-- the four things that can become of a table at a name
abbrev by_tests : Bool → Bool → Bool → NamesMet → List ℕ → NamesMet
by_tests full has room k name =
    if full || has then k
    else if room then record { before = k.before; names = k.names ++ name ∷ []; full = k.full }
    else record { before = k.before; names = but_last k.names; full = true }

settled_met : (k : NamesMet) (name : List ℕ) → Settled (met k name) name
settled_met k name = by k.full (has_name k.names name) (nat_lt (length k.names) most_names) refl refl
  where
    by : (f h r : Bool) → k.full ≡ f → has_name k.names name ≡ h → Settled (by_tests f h r k name) name
    by true h r d e = inr d
    by false true r d e = inl e
    by false false true d e = inl (has_name-last k.names name)
    by false false false d e = inr refl

-- a settled number stays
stays : (k : NamesMet) (name other : List ℕ) → Settled k name → Settled (met k other) name × (place_of (met k other).names name ≡ place_of k.names name)
stays k name other s = by k.full (has_name k.names other) (nat_lt (length k.names) most_names) refl s
  where
    by : (f h r : Bool) → k.full ≡ f → Settled k name → Settled (by_tests f h r k other) name × (place_of (by_tests f h r k other).names name ≡ place_of k.names name)
    by true h r d t = (t, refl)
    by false true r d t = (t, refl)
    by false false true d (inl has) = (inl (has_name-append k.names (other ∷ []) name has), place_of-append k.names (other ∷ []) name has)
    by false false false d (inl has) = (inr refl, place_of-but_last k.names name has)
    by false false r d (inr full) = absurd (cc (sym d ∙ full))

stay : (k : NamesMet) (name : List ℕ) (ws : List (List ℕ)) → Settled k name → place_of (met_in k ws).names name ≡ place_of k.names name
stay k name [] s = refl
stay k name (w ∷ ws) s =
    let p = stays k name (name_of w) s in
    by (is_literal (kind_of w)) (stay (met k (name_of w)) name ws p.0 ∙ p.1) (stay k name ws s)
  where
    by : (t : Bool) → place_of (met_in (met k (name_of w)) ws).names name ≡ place_of k.names name → place_of (met_in k ws).names name ≡ place_of k.names name
        → place_of (met_in (if t then met k (name_of w) else k) ws).names name ≡ place_of k.names name
    by true e f = e
    by false e f = f

pub met_in-append : (k : NamesMet) (xs ys : List (List ℕ)) → met_in k (xs ++ ys) ≡ met_in (met_in k xs) ys
met_in-append k [] ys = refl
met_in-append k (w ∷ xs) ys = met_in-append (if is_literal (kind_of w) then met k (name_of w) else k) xs ys

-- the number that a name has once it was met stays
pub number_later : (k : NamesMet) (name : List ℕ) (ws more : List (List ℕ)) → place_of (met_in (met_in (met k name) ws) more).names name ≡ place_of (met k name).names name
number_later k name ws more =
    ap (λ (m : NamesMet). place_of m.names name) (sym (met_in-append (met k name) ws more)) ∙ stay (met k name) name (ws ++ more) (settled_met k name)

pub met_literal : (k : NamesMet) (w : List ℕ) (ws : List (List ℕ)) → is_literal (kind_of w) ≡ true → met_in k (w ∷ ws) ≡ met_in (met k (name_of w)) ws
met_literal k w ws h = ap (λ t. met_in (if t then met k (name_of w) else k) ws) h

pub met_other : (k : NamesMet) (w : List ℕ) (ws : List (List ℕ)) → is_literal (kind_of w) ≡ false → met_in k (w ∷ ws) ≡ met_in k ws
met_other k w ws h = ap (λ t. met_in (if t then met k (name_of w) else k) ws) h

met_before : (k : NamesMet) (name : List ℕ) → (met k name).before ≡ k.before
met_before k name = by k.full (has_name k.names name) (nat_lt (length k.names) most_names)
  where
    by : (f h r : Bool) → (by_tests f h r k name).before ≡ k.before
    by true h r = refl
    by false true r = refl
    by false false true = refl
    by false false false = refl

-- the names from before a line stay
pub before_stays : (k : NamesMet) (ws : List (List ℕ)) → (met_in k ws).before ≡ k.before
before_stays k [] = refl
before_stays k (w ∷ ws) = by (is_literal (kind_of w)) (before_stays (met k (name_of w)) ws ∙ met_before k (name_of w)) (before_stays k ws)
  where
    by : (t : Bool) → (met_in (met k (name_of w)) ws).before ≡ k.before → (met_in k ws).before ≡ k.before → (met_in (if t then met k (name_of w) else k) ws).before ≡ k.before
    by true e f = e
    by false e f = f

met_full : (k : NamesMet) (name : List ℕ) → k.full ≡ true → (met k name).full ≡ true
met_full k name h = ap (λ f. (by_tests f (has_name k.names name) (nat_lt (length k.names) most_names) k name).full) h ∙ h

full_stays : (k : NamesMet) (ws : List (List ℕ)) → k.full ≡ true → (met_in k ws).full ≡ true
full_stays k [] h = h
full_stays k (w ∷ ws) h = by (is_literal (kind_of w)) (full_stays (met k (name_of w)) ws (met_full k (name_of w) h)) (full_stays k ws h)
  where
    by : (t : Bool) → (met_in (met k (name_of w)) ws).full ≡ true → (met_in k ws).full ≡ true → (met_in (if t then met k (name_of w) else k) ws).full ≡ true
    by true e f = e
    by false e f = f

pub names_in-more : (names : List (List ℕ)) (ws : List (List ℕ)) → length names ≤ length (names_in names ws)
names_in-more names [] = omega arith
names_in-more names (w ∷ ws) = by (is_literal (kind_of w)) (names_in-more (with_name names (name_of w)) ws) (names_in-more names ws)
  where
    by : (b : Bool) → length (with_name names (name_of w)) ≤ length (names_in (with_name names (name_of w)) ws) → length names ≤ length (names_in names ws)
        → length names ≤ length (names_in (if b then with_name names (name_of w) else names) ws)
    by true h k = omega (arith, with_name-more names (name_of w), h)
    by false h k = k

-- what one name does to a table that had room so far
one : (k : NamesMet) (name : List ℕ) → k.full ≡ false
    → ((met k name).full ≡ false) × ((met k name).names ≡ with_name k.names name) ⊎ ((met k name).full ≡ true) × (most_names < length (with_name k.names name))
one k name none = by k.full (has_name k.names name) (nat_lt (length k.names) most_names) refl refl
  where
    by : (f h r : Bool) → k.full ≡ f → nat_lt (length k.names) most_names ≡ r
        → ((by_tests f h r k name).full ≡ false) × ((by_tests f h r k name).names ≡ (if h then k.names else k.names ++ name ∷ []))
        ⊎ ((by_tests f h r k name).full ≡ true) × (most_names < length (if h then k.names else k.names ++ name ∷ []))
    by true h r d e = absurd (cc (sym none ∙ d))
    by false true r d e = inl (d, refl)
    by false false true d e = inl (d, refl)
    by false false false d e =
        let full : most_names ≤ length k.names = grind (arith, nat_tests) in
        inr (refl, omega (arith, full, length-append k.names (name ∷ [])))

-- where all names found a number, the table is the one that has them all
pub all_found : (k : NamesMet) (ws : List (List ℕ)) → k.full ≡ false → (met_in k ws).full ≡ false → (met_in k ws).names ≡ names_in k.names ws
all_found k [] h e = refl
all_found k (w ∷ ws) h e = by (is_literal (kind_of w)) e (λ n f. all_found (met k (name_of w)) ws n f) (λ f. all_found k ws h f)
  where
    by : (t : Bool) → (met_in (if t then met k (name_of w) else k) ws).full ≡ false
        → ((met k (name_of w)).full ≡ false → (met_in (met k (name_of w)) ws).full ≡ false → (met_in (met k (name_of w)) ws).names ≡ names_in (met k (name_of w)).names ws)
        → ((met_in k ws).full ≡ false → (met_in k ws).names ≡ names_in k.names ws)
        → (met_in (if t then met k (name_of w) else k) ws).names ≡ names_in (if t then with_name k.names (name_of w) else k.names) ws
    by false e f g = g e
    by true e f g =
        elim (one k (name_of w) h) [
          | inl p ↦ f p.0 e ∙ ap (λ n. names_in n ws) p.1
          | inr p ↦ absurd (cc (sym (full_stays (met k (name_of w)) ws p.0) ∙ e))
        ]

-- where one found none, they are too many
pub too_many : (k : NamesMet) (ws : List (List ℕ)) → k.full ≡ false → (met_in k ws).full ≡ true → most_names < length (names_in k.names ws)
too_many k [] h e = absurd (cc (sym h ∙ e))
too_many k (w ∷ ws) h e = by (is_literal (kind_of w)) e (λ n f. too_many (met k (name_of w)) ws n f) (λ f. too_many k ws h f)
  where
    by : (t : Bool) → (met_in (if t then met k (name_of w) else k) ws).full ≡ true
        → ((met k (name_of w)).full ≡ false → (met_in (met k (name_of w)) ws).full ≡ true → most_names < length (names_in (met k (name_of w)).names ws))
        → ((met_in k ws).full ≡ true → most_names < length (names_in k.names ws))
        → most_names < length (names_in (if t then with_name k.names (name_of w) else k.names) ws)
    by false e f g = g e
    by true e f g =
        elim (one k (name_of w) h) [
          | inl p ↦ subst (λ n. most_names < length (names_in n ws)) p.1 (f p.0 e)
          | inr p ↦ let more : length (with_name k.names (name_of w)) ≤ length (names_in (with_name k.names (name_of w)) ws) = names_in-more (with_name k.names (name_of w)) ws in omega (arith, p.1, more)
        ]

-- the number of a name that was found or added, whether or not the last name counts
pub found_number : (names new : List (List ℕ)) (full : Bool) (name : List ℕ) (n : ℕ) → new ≡ with_name names name → (full ≡ true → most_names ≤ length names) → length new ≤ most_names → n ≡ place_of names name
    → n ≡ place_of (if full then but_last new else new) name
found_number names new full name n e many few at = by (has_name names name) full refl e many
  where
    by : (h f : Bool) → has_name names name ≡ h → new ≡ (if h then names else names ++ name ∷ []) → (f ≡ true → most_names ≤ length names) → n ≡ place_of (if f then but_last new else new) name
    by true true k d m = at ∙ sym (ap (λ ns. place_of (but_last ns) name) d ∙ place_of-but_last names name k)
    by h false k d m = at ∙ sym (ap (λ ns. place_of ns name) e ∙ (number_of-added names name).1)
    by false true k d m =
        let full : most_names ≤ length names = m refl in
        let long : length new ≡ length (names ++ name ∷ []) = ap length d in
        absurd (omega (arith, full, few, long, length-append names (name ∷ [])))

-- the number of a name that found none
pub beyond_number : (names new : List (List ℕ)) (name : List ℕ) → IsFullFor names most_names name → length names ≤ most_names → new ≡ names → 1 + place_of (but_last new) name ≡ most_names
beyond_number names new name h few e =
    let many : most_names ≤ length names = h.full in
    let last : 1 + place_of (but_last names) name ≡ length names = place_of-beyond names name h.unknown (omega (arith, many)) in
    ap (λ ns. 1 + place_of (but_last ns) name) e ∙ omega (arith, last, many, few)
