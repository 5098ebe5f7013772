-- The lines of two texts with an LF between them are the lines of the one and then, numbered on, those of the other.
use Rattle.std.proofs.Common.{◌≡◌, ℕ, ◌+◌, ◌==◌, Bool, true, false, not, ◌&&◌, if◌then◌else◌, List, [], ◌∷◌, ◌++◌, length, refl, ap, sym, ◌∙◌, arith}
use Rattle.std.proofs.lemmas.List.Sums.{sum_by-append, sum_by-cons}
use Rattle.proof_lines.specs.Lines.{Numbered, Parted, parted, onto, counting, counting_from, breaks, counts, has_no_break}

-- a byte in front of a parted text
abbrev before : Bool → ℕ → Parted → Parted
before t b p = if t then record { first = []; others = p.first ∷ p.others } else record { first = b ∷ p.first; others = p.others }

-- two parted texts, the second from a line of its own on
abbrev together : Parted → Parted → Parted
together p q = record { first = p.first; others = p.others ++ q.first ∷ q.others }

parted_joined : (a b : List ℕ) → parted (a ++ 10 ∷ b) ≡ together (parted a) (parted b)
parted_joined [] b = refl
parted_joined (x ∷ a) b = ap (before (x == 10) x) (parted_joined a b) ∙ by (x == 10)
  where
    by : (t : Bool) → before t x (together (parted a) (parted b)) ≡ together (before t x (parted a)) (parted b)
    by true = refl
    by false = refl

pub onto_more : (l : Numbered) (ls ks : List Numbered) → onto l (ls ++ ks) ≡ onto l ls ++ ks
onto_more l ls ks = by (counts l.text)
  where
    by : (t : Bool) → (if t then l ∷ (ls ++ ks) else ls ++ ks) ≡ (if t then l ∷ ls else ls) ++ ks
    by true = refl
    by false = refl

counting_more : (number : ℕ) (ls ks : List (List ℕ)) → counting number (ls ++ ks) ≡ counting number ls ++ counting (number + length ls) ks
counting_more number [] ks = let e : number ≡ number + length {A = List ℕ} [] = omega arith in ap (λ n. counting n ks) e
counting_more number (l ∷ ls) ks =
    let line : Numbered = record { number = number; text = l } in
    ap (λ (more : List Numbered). onto line more) (counting_more (number + 1) ls ks)
    ∙ onto_more line (counting (number + 1) ls) (counting (number + 1 + length ls) ks)
    ∙ ap (λ n. onto line (counting (number + 1) ls) ++ counting n ks) (omega arith)

breaks-cons : (b : ℕ) (rest : List ℕ) → breaks (b ∷ rest) ≡ (if b == 10 then 1 else 0) + breaks rest
breaks-cons b rest = sum_by-cons (λ (x : ℕ). if x == 10 then 1 else 0) b rest

-- a text has a line more than it has LF bytes
others_counted : (text : List ℕ) → length (parted text).others ≡ breaks text
others_counted [] = refl
others_counted (b ∷ rest) = by (b == 10) (others_counted rest) (breaks-cons b rest)
  where
    by : (t : Bool) → length (parted rest).others ≡ breaks rest → breaks (b ∷ rest) ≡ (if t then 1 else 0) + breaks rest → length (before t b (parted rest)).others ≡ breaks (b ∷ rest)
    by true others e = omega (arith, others, e)
    by false others e = omega (arith, others, e)

-- the lines that count of a, LF, b
pub lines_joined : (number : ℕ) (a b : List ℕ) → counting_from number (a ++ 10 ∷ b) ≡ counting_from number a ++ counting_from (number + 1 + breaks a) b
unfolding counting_from
lines_joined number a b =
    let p = parted a in
    let q = parted b in
    ap (λ (r : Parted). counting number (r.first ∷ r.others)) (parted_joined a b)
    ∙ counting_more number (p.first ∷ p.others) (q.first ∷ q.others)
    ∙ ap (λ n. counting number (p.first ∷ p.others) ++ counting n (q.first ∷ q.others)) (let o = others_counted a in omega (arith, o))

pub breaks_joined : (a b : List ℕ) → breaks (a ++ 10 ∷ b) ≡ breaks a + 1 + breaks b
breaks_joined a b =
    let s = sum_by-append (λ (x : ℕ). if x == 10 then 1 else 0) a (10 ∷ b) in
    let c = breaks-cons 10 b in
    omega (arith, s, c)

-- a line without LF
pub one_line : (line : List ℕ) → has_no_break line ≡ true → (parted line ≡ record { first = line; others = [] }) × (breaks line ≡ 0)
one_line [] h = (refl, refl)
one_line (b ∷ rest) h = by (b == 10) h (breaks-cons b rest) (λ u. one_line rest u)
  where
    by : (t : Bool) → (not t && has_no_break rest) ≡ true → breaks (b ∷ rest) ≡ (if t then 1 else 0) + breaks rest
        → (has_no_break rest ≡ true → (parted rest ≡ record { first = rest; others = [] }) × (breaks rest ≡ 0))
        → (before t b (parted rest) ≡ record { first = b ∷ rest; others = [] }) × (breaks (b ∷ rest) ≡ 0)
    by true h c more = absurd cc
    by false h c more = let r = more h in (ap (before false b) r.0, omega (arith, c, r.1))

-- the last line of a text
pub last_counted : (number : ℕ) (line : List ℕ) → has_no_break line ≡ true → counting_from number line ≡ onto (record { number = number; text = line }) []
unfolding counting_from
last_counted number line h = ap (λ (p : Parted). counting number (p.first ∷ p.others)) (one_line line h).0

-- a line that an LF ends, and the lines behind it
pub line_counted : (number : ℕ) (line rest : List ℕ) → has_no_break line ≡ true
    → counting_from number (line ++ 10 ∷ rest) ≡ onto (record { number = number; text = line }) (counting_from (number + 1) rest)
line_counted number line rest h =
    let l : Numbered = record { number = number; text = line } in
    lines_joined number line rest
    ∙ ap (λ ls. ls ++ counting_from (number + 1 + breaks line) rest) (last_counted number line h)
    ∙ sym (onto_more l [] (counting_from (number + 1 + breaks line) rest))
    ∙ ap (λ n. onto l (counting_from n rest)) (let b = (one_line line h).1 in omega (arith, b))
