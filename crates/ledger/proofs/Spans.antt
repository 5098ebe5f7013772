-- Lists in one array: what stands in a span as the array changes.
use Rattle.std.proofs.Common.{◌≡◌, inl, inr, ℕ, zero, suc, ◌+◌, ◌-◌, ◌<◌, ◌≤◌, List, [], ◌∷◌, ◌++◌, length, length-append, get_or, set, take, drop, map, refl, ap, sym, subst, ◌∙◌, arith}
use Rattle.std.proofs.lemmas.Bool.{cases_eq, cases_lt}
use Rattle.std.proofs.lemmas.List.{drop-append-le, drop-set-add, drop-set-lt, drop-take, get_or-map, get_or-set_other, get_or-set_same, get_or_append_left, get_or_default, get_or_push, length-drop, length-set, length-take-le, map_push, take-append-le, take-set-le, take-take}
use Rattle.std.proofs.Math.Seq.{drop-append_seam, take-length, take-set-lt}
use Rattle.linear.specs.declared.term.Lit.{Lit}
use Rattle.ledger.specs.declared.arena.Span.{Span}
use Rattle.ledger.specs.Spans.{AreSpans, end_of, piece}

-- lists are the same where each piece is
pub map_same : {X Y : Type 0} (f g : X → Y) (xs : List X) → ((k : ℕ) (d : X) → k < length xs → f (get_or xs k d) ≡ g (get_or xs k d)) → map f xs ≡ map g xs
map_same f g [] h = refl
map_same {Y = Y} f g (x ∷ xs) h = ap (λ (y : Y). y ∷ map f xs) (h 0 x (omega arith)) ∙ ap (λ (ys : List Y). g x ∷ ys) (map_same f g xs (λ k d low. h (suc k) d (omega (arith, low))))

-- the same but at one place
pub map_set_same : {X Y : Type 0} (f g : X → Y) (xs : List X) (k : ℕ) (y : Y) → k < length xs → ((d : X) → f (get_or xs k d) ≡ y) → ((j : ℕ) (d : X) → j < length xs → (j ≡ k → ⊥) → f (get_or xs j d) ≡ g (get_or xs j d)) → map f xs ≡ set (map g xs) k y
map_set_same f g [] k y low here other = absurd (omega (arith, low))
map_set_same {Y = Y} f g (x ∷ xs) zero y low here other = ap (λ (z : Y). z ∷ map f xs) (here x) ∙ ap (λ (ys : List Y). y ∷ ys) (map_same f g xs (λ j d h. other (suc j) d (omega (arith, h)) (λ e. omega (arith, e))))
map_set_same {Y = Y} f g (x ∷ xs) (suc k) y low here other = ap (λ (z : Y). z ∷ map f xs) (other 0 x (omega arith) (λ e. omega (arith, e))) ∙ ap (λ (ys : List Y). g x ∷ ys) (map_set_same f g xs k y (omega (arith, low)) here (λ j d h apart. other (suc j) d (omega (arith, h)) (λ e. apart (omega (arith, e)))))

-- a longer array
piece_longer : (xs ys : List Lit) (s : Span) → end_of s ≤ length xs → piece (xs ++ ys) s ≡ piece xs s
piece_longer xs ys s h =
    ap (take s.len) (drop-append-le s.start xs ys (omega (arith, h))) ∙ take-append-le s.len (drop s.start xs) ys (omega (arith, h, length-drop s.start xs))

pub pieces_longer : (xs ys : List Lit) (ss : List Span) → AreSpans (length xs) ss → map (piece (xs ++ ys)) ss ≡ map (piece xs) ss
pieces_longer xs ys ss a = map_same (piece (xs ++ ys)) (piece xs) ss (λ k d low. piece_longer xs ys (get_or ss k d) (a.within k d low))

-- the last piece
pub piece_last : (xs ys : List Lit) → piece (xs ++ ys) (record { start = length xs; len = length ys }) ≡ ys
piece_last xs ys = ap (take (length ys)) (drop-append_seam xs ys) ∙ take-length ys

-- a shorter array
piece_shorter : (xs : List Lit) (m : ℕ) (s : Span) → end_of s ≤ m → piece (take m xs) s ≡ piece xs s
piece_shorter xs m s h =
    let rest : m ≡ s.start + (m - s.start) = omega (arith, h) in
    ap (λ (n : ℕ). take s.len (drop s.start (take n xs))) rest ∙ ap (take s.len) (drop-take s.start (m - s.start) xs) ∙ take-take s.len (m - s.start) (drop s.start xs) (omega (arith, h))

pub pieces_shorter : (xs : List Lit) (m : ℕ) (ss : List Span) → ((k : ℕ) (d : Span) → k < length ss → end_of (get_or ss k d) ≤ m) → map (piece (take m xs)) ss ≡ map (piece xs) ss
pieces_shorter xs m ss h = map_same (piece (take m xs)) (piece xs) ss (λ k d low. piece_shorter xs m (get_or ss k d) (h k d low))

-- a literal of the array is another one: outside of a span, and inside
piece_before : (xs : List Lit) (i : ℕ) (l : Lit) (s : Span) → i < s.start → piece (set xs i l) s ≡ piece xs s
piece_before xs i l s h = ap (take s.len) (drop-set-lt s.start xs i l h)

piece_behind : (xs : List Lit) (i : ℕ) (l : Lit) (s : Span) → end_of s ≤ i → piece (set xs i l) s ≡ piece xs s
piece_behind xs i l s h =
    let at : i ≡ s.start + (i - s.start) = omega (arith, h) in
    ap (λ (n : ℕ). take s.len (drop s.start (set xs n l))) at ∙ ap (take s.len) (drop-set-add s.start xs (i - s.start) l) ∙ take-set-le s.len (drop s.start xs) (i - s.start) l (omega (arith, h))

piece_inside : (xs : List Lit) (index : ℕ) (l : Lit) (s : Span) → index < s.len → piece (set xs (s.start + index) l) s ≡ set (piece xs s) index l
piece_inside xs index l s h = ap (take s.len) (drop-set-add s.start xs index l) ∙ take-set-lt s.len (drop s.start xs) index l h

pub pieces_set : (xs : List Lit) (ss : List Span) (k index : ℕ) (l : Lit) (s : Span) → AreSpans (length xs) ss → k < length ss → s ≡ get_or ss k s → index < s.len → map (piece (set xs (s.start + index) l)) ss ≡ set (map (piece xs) ss) k (set (get_or (map (piece xs) ss) k []) index l)
pieces_set xs ss k index l s a low is h =
    map_set_same (piece (set xs (s.start + index) l)) (piece xs) ss k (set (piece xs s) index l) low
    (λ d. ap (piece (set xs (s.start + index) l)) (get_or_default ss k d s low ∙ sym is) ∙ piece_inside xs index l s h)
    (λ j d lower apart. elim (cases_lt j k) [
      | inl before ↦ piece_behind xs (s.start + index) l (get_or ss j d) (omega (arith, a.apart j k d s before low, ap (λ (t : Span). t.start) is))
      | inr behind ↦ piece_before xs (s.start + index) l (get_or ss j d) (omega (arith, h, a.apart k j s d (omega (arith, behind, apart)) lower, ap (λ (t : Span). end_of t) is))
    ]) ∙ ap (λ (ls : List Lit). set (map (piece xs) ss) k (set ls index l)) (sym (get_or-map (piece xs) ss k s [] low ∙ ap (piece xs) (sym is)))

-- the list of a place
pub piece_at : (xs : List Lit) (ss : List Span) (k : ℕ) (s : Span) → k < length ss → s ≡ get_or ss k s → piece xs s ≡ get_or (map (piece xs) ss) k []
piece_at xs ss k s low is = ap (piece xs) is ∙ sym (get_or-map (piece xs) ss k s [] low)

pub length_piece : (xs : List Lit) (s : Span) → end_of s ≤ length xs → length (piece xs s) ≡ s.len
length_piece xs s h = length-take-le s.len (drop s.start xs) (omega (arith, h, length-drop s.start xs))

-- spans with one more, one fewer, and one that is empty
pub spans_longer : (m n : ℕ) (ss : List Span) → m ≤ n → AreSpans m ss → AreSpans n ss
spans_longer m n ss h a = record { within = λ k d low. omega (arith, h, a.within k d low); apart = a.apart }

pub spans_pushed : (m n : ℕ) (ss : List Span) (s : Span) → AreSpans m ss → s.start ≡ m → end_of s ≤ n → m ≤ n → AreSpans n (ss ++ s ∷ [])
spans_pushed m n ss s a begins ends more = record { within = within; apart = apart }
  where
    last : (k : ℕ) (d : Span) → length ss ≤ k → k < length (ss ++ s ∷ []) → get_or (ss ++ s ∷ []) k d ≡ s
    last k d high low = get_or_push ss s d k (omega (arith, high, low, length-append ss (s ∷ [])))

    within : (k : ℕ) (d : Span) → k < length (ss ++ s ∷ []) → end_of (get_or (ss ++ s ∷ []) k d) ≤ n
    within k d low = elim (cases_lt k (length ss)) [
      | inl before ↦ omega (arith, more, a.within k d before, ap (λ (t : Span). end_of t) (get_or_append_left ss (s ∷ []) d k before))
      | inr behind ↦ omega (arith, ends, ap (λ (t : Span). end_of t) (last k d behind low))
    ]

    apart : (i j : ℕ) (d e : Span) → i < j → j < length (ss ++ s ∷ []) → end_of (get_or (ss ++ s ∷ []) i d) ≤ (get_or (ss ++ s ∷ []) j e).start
    apart i j d e h low =
        let first : i < length ss = omega (arith, h, low, length-append ss (s ∷ [])) in
        let is : end_of (get_or (ss ++ s ∷ []) i d) ≡ end_of (get_or ss i d) = ap (λ (t : Span). end_of t) (get_or_append_left ss (s ∷ []) d i first) in
        elim (cases_lt j (length ss)) [
          | inl before ↦ omega (arith, is, a.apart i j d e h before, ap (λ (t : Span). t.start) (get_or_append_left ss (s ∷ []) e j before))
          | inr behind ↦ omega (arith, is, a.within i d first, begins, ap (λ (t : Span). t.start) (last j e behind low))
        ]

pub spans_fewer : (m : ℕ) (ss rest : List Span) (s : Span) → ss ≡ rest ++ s ∷ [] → AreSpans m ss → AreSpans s.start rest
spans_fewer m ss rest s e a = record { within = λ k d low. before k d low; apart = apart }
  where
    b : AreSpans m (rest ++ s ∷ [])
    b = subst (AreSpans m) e a

    before : (k : ℕ) (d : Span) → k < length rest → end_of (get_or rest k d) ≤ s.start
    before k d low =
        omega (arith, b.apart k (length rest) d s low (omega (arith, length-append rest (s ∷ []))), ap (λ (t : Span). end_of t) (get_or_append_left rest (s ∷ []) d k low), ap (λ (t : Span). t.start) (get_or_push rest s s (length rest) refl))

    apart : (i j : ℕ) (d e : Span) → i < j → j < length rest → end_of (get_or rest i d) ≤ (get_or rest j e).start
    apart i j d f h low =
        omega (arith, b.apart i j d f h (omega (arith, low, length-append rest (s ∷ []))), ap (λ (t : Span). end_of t) (get_or_append_left rest (s ∷ []) d i (omega (arith, h, low))), ap (λ (t : Span). t.start) (get_or_append_left rest (s ∷ []) f j low))

pub spans_cleared : (m : ℕ) (ss : List Span) (k : ℕ) (s t : Span) → AreSpans m ss → k < length ss → s ≡ get_or ss k s → t.start ≡ s.start → t.len ≡ 0 → AreSpans m (set ss k t)
spans_cleared m ss k s t a low is begins none = record { within = within; apart = apart }
  where
    no_later : (j : ℕ) (d : Span) → j < length ss → end_of (get_or (set ss k t) j d) ≤ end_of (get_or ss j d)
    no_later j d h = elim (cases_eq j k) [
      | inl e ↦ omega (arith, begins, none, ap (λ (u : Span). end_of u) (ap (λ (i : ℕ). get_or (set ss k t) i d) e ∙ get_or-set_same ss k t d low), ap (λ (u : Span). end_of u) (ap (λ (i : ℕ). get_or ss i d) e ∙ get_or_default ss k d s low ∙ sym is))
      | inr other ↦ omega (arith, ap (λ (u : Span). end_of u) (get_or-set_other ss k j t d other))
    ]

    same_start : (j : ℕ) (d : Span) → j < length ss → (get_or (set ss k t) j d).start ≡ (get_or ss j d).start
    same_start j d h = elim (cases_eq j k) [
      | inl e ↦ ap (λ (u : Span). u.start) (ap (λ (i : ℕ). get_or (set ss k t) i d) e ∙ get_or-set_same ss k t d low) ∙ begins ∙ ap (λ (u : Span). u.start) (sym (ap (λ (i : ℕ). get_or ss i d) e ∙ get_or_default ss k d s low ∙ sym is))
      | inr other ↦ ap (λ (u : Span). u.start) (get_or-set_other ss k j t d other)
    ]

    within : (j : ℕ) (d : Span) → j < length (set ss k t) → end_of (get_or (set ss k t) j d) ≤ m
    within j d h =
        let below : j < length ss = omega (arith, h, length-set ss k t) in
        omega (arith, no_later j d below, a.within j d below)

    apart : (i j : ℕ) (d e : Span) → i < j → j < length (set ss k t) → end_of (get_or (set ss k t) i d) ≤ (get_or (set ss k t) j e).start
    apart i j d e h high =
        let below : j < length ss = omega (arith, high, length-set ss k t) in
        omega (arith, no_later i d (omega (arith, h, below)), a.apart i j d e h below, same_start j e below)

-- all lists but the last one
all_but_last : {X : Type 0} (xs : List X) (x : X) → take (length (xs ++ x ∷ []) - 1) (xs ++ x ∷ []) ≡ xs
all_but_last xs x = ap (λ (n : ℕ). take n (xs ++ x ∷ [])) (omega (arith, length-append xs (x ∷ []))) ∙ take-append-le (length xs) xs (x ∷ []) (omega arith) ∙ take-length xs

pub pieces_fewer : (xs : List Lit) (m : ℕ) (ss rest : List Span) (s : Span) → ss ≡ rest ++ s ∷ [] → AreSpans m ss → map (piece (take s.start xs)) rest ≡ take (length (map (piece xs) ss) - 1) (map (piece xs) ss)
pieces_fewer xs m ss rest s e a =
    let all : map (piece xs) ss ≡ map (piece xs) rest ++ piece xs s ∷ [] = ap (map (piece xs)) e ∙ map_push (piece xs) rest s in
    pieces_shorter xs s.start rest (spans_fewer m ss rest s e a).within ∙ sym (ap (λ (ls : List (List Lit)). take (length ls - 1) ls) all ∙ all_but_last (map (piece xs) rest) (piece xs s))

-- where the array ends with the span that is taken off
pub spans_cut : (xs : List Lit) (ss rest : List Span) (s : Span) → ss ≡ rest ++ s ∷ [] → AreSpans (length xs) ss → AreSpans (length (take s.start xs)) rest
spans_cut xs ss rest s e a =
    let b : AreSpans (length xs) (rest ++ s ∷ []) = subst (AreSpans (length xs)) e a in
    let ends : end_of s ≤ length xs = omega (arith, b.within (length rest) s (omega (arith, length-append rest (s ∷ []))), ap (λ (t : Span). end_of t) (get_or_push rest s s (length rest) refl)) in
    subst (λ (n : ℕ). AreSpans n rest) (sym (length-take-le s.start xs (omega (arith, ends)))) (spans_fewer (length xs) ss rest s e a)
