-- What a buffer of lines holds: where its first line ends, and what a line that is taken passes.
use Rattle.std.proofs.Common.{◌≡◌, ℕ, ◌+◌, ◌-◌, ◌<◌, ◌≤◌, ◌==◌, inl, inr, Bool, true, false, not, ◌&&◌, if◌then◌else◌, Option, Some, None, List, [], ◌∷◌, ◌++◌, length, take, drop, get_or, refl, ap, sym, subst, ◌∙◌, arith}
use Rattle.std.proofs.Math.Seq.{take-add}
use Rattle.std.proofs.lemmas.List.{append-nil, append_assoc, drop-drop, length-append, length-drop, take-append-drop, take_all, drop_more, take_rest}
use Rattle.std.proofs.lemmas.Bool.Decides.{Decides-eqb}
use Rattle.memchr.specs.Find.{Nowhere, NoneBefore, Passes, is_byte}
use Rattle.pb_text.specs.Devices.{SourceState, followed_by}
use Rattle.proof_lines.specs.Buffered as buffers
use Rattle.proof_lines.specs.Buffered.{Buffered, Comes, Fills, Finds, GoesOn, IsEmptied, IsFirstLine, IsReady, PassesLines, TakesLine, lent}
use Rattle.proof_lines.specs.Lines.{Numbered, breaks, counting_from, counts, has_no_break, onto}
use Rattle.proof_lines.proofs.LinesJoined.{breaks_joined, last_counted, line_counted, one_line, onto_more}
use Rattle.proof_lines.proofs.LinesParted.{first_unbroken, nothing_left, whole_unbroken}

-- texts in other groups
regroup : {A : Type 0} (a b c : List A) → a ++ (b ++ c) ≡ (a ++ b) ++ c
regroup a b c = sym (append_assoc a b c)

-- two texts without LF, and the parts of one
unbroken_together : (a b : List ℕ) → has_no_break a ≡ true → has_no_break b ≡ true → has_no_break (a ++ b) ≡ true
unbroken_together [] b h k = k
unbroken_together (x ∷ a) b h k = by (x == 10) h (λ u. unbroken_together a b u k)
  where
    by : (t : Bool) → (not t && has_no_break a) ≡ true → (has_no_break a ≡ true → has_no_break (a ++ b) ≡ true) → (not t && has_no_break (a ++ b)) ≡ true
    by true h more = absurd cc
    by false h more = more h

unbroken_behind : (a b : List ℕ) → has_no_break (a ++ b) ≡ true → has_no_break b ≡ true
unbroken_behind [] b h = h
unbroken_behind (x ∷ a) b h = by (x == 10) h (λ u. unbroken_behind a b u)
  where
    by : (t : Bool) → (not t && has_no_break (a ++ b)) ≡ true → (has_no_break (a ++ b) ≡ true → has_no_break b ≡ true) → has_no_break b ≡ true
    by true h more = absurd cc
    by false h more = more h

-- the byte at a place, and those behind it
byte_there : (k : ℕ) (text : List ℕ) → k < length text → (get_or text k 0 == 10) ≡ true → drop k text ≡ 10 ∷ drop (k + 1) text
byte_there k text l e = drop_more text k 0 l ∙ ap (λ x. x ∷ drop (k + 1) text) ((Decides-eqb (get_or text k 0) 10).0 e)

-- no LF stands behind what was known
abbrev behind : List ℕ → ℕ → List ℕ
behind text known = take (length text - known) (drop known text)

pub first_whole : (text : List ℕ) (known : ℕ) → known ≤ length text → has_no_break (take known text) ≡ true → Nowhere (Passes (is_byte 10) (behind text known)) 0 (length (behind text known))
    → IsFirstLine text (length text)
first_whole text known inside before none =
    let all : has_no_break (take known text ++ drop known text) ≡ true = unbroken_together (take known text) (drop known text) before (whole_unbroken (drop known text) (subst (λ t. Nowhere (Passes (is_byte 10) t) 0 (length t)) (take_rest text known) none)) in
    record {
      inside = omega arith;
      unbroken = subst (λ t. has_no_break t ≡ true) (take-append-drop known text ∙ sym (take_all (length text) text (omega arith))) all;
      ended = λ l. absurd (omega (arith, l));
    }

-- the first LF behind what was known
pub first_broken : (text : List ℕ) (known more : ℕ) → known ≤ length text → has_no_break (take known text) ≡ true → NoneBefore (Passes (is_byte 10) (behind text known)) 0 (length (behind text known)) more
    → Passes (is_byte 10) (behind text known) more → IsFirstLine text (known + more)
first_broken text known more inside before unpassed passed =
    let none : NoneBefore (Passes (is_byte 10) (drop known text)) 0 (length (drop known text)) more = subst (λ t. NoneBefore (Passes (is_byte 10) t) 0 (length t) more) (take_rest text known) unpassed in
    let there : Passes (is_byte 10) (drop known text) more = subst (λ t. Passes (is_byte 10) t more) (take_rest text known) passed in
    let high = none.high in
    let long = length-drop known text in
    let byte : drop more (drop known text) ≡ 10 ∷ drop (more + 1) (drop known text) = byte_there more (drop known text) high there in
    record {
      inside = omega (arith, high, long, inside);
      unbroken = subst (λ t. has_no_break t ≡ true) (sym (take-add known more text)) (unbroken_together (take known text) (take more (drop known text)) before (first_unbroken more (drop known text) none));
      ended = λ l. let e : known + (more + 1) ≡ known + more + 1 = omega arith in
          sym (drop-drop more known text) ∙ byte ∙ ap (λ t. 10 ∷ t) (drop-drop (more + 1) known text ∙ ap (λ n. drop n text) e);
    }

-- a first line that is shorter than its text has an LF behind it
pub broken : (text : List ℕ) (size : ℕ) → IsFirstLine text size → size < length text → has_no_break text ≡ true → ⊥
broken text size first less h =
    let parts : has_no_break (take size text ++ drop size text) ≡ true = subst (λ t. has_no_break t ≡ true) (sym (take-append-drop size text)) h in
    let behind : has_no_break (10 ∷ drop (size + 1) text) ≡ true = subst (λ t. has_no_break t ≡ true) (first.ended less) (unbroken_behind (take size text) (drop size text) parts) in
    cc

-- bytes behind bytes
followed_twice : (g : Option (List ℕ)) (a b : List ℕ) → followed_by (followed_by g a) b ≡ followed_by g (a ++ b)
followed_twice (Some before) a b = ap (λ t. Some t) (sym (regroup before a b))
followed_twice None a b = refl

followed_by_none : (g : Option (List ℕ)) → g ≡ followed_by g []
followed_by_none (Some before) = ap (λ t. Some t) (sym (append-nil before))
followed_by_none None = refl

-- nothing came yet
pub fills_none : (b : Buffered) (s : SourceState) → Fills b b s s
fills_none b s = record {
  pulled = [];
  given = followed_by_none s.given;
  bytes = sym (append-nil b.bytes);
  number = refl;
  left = omega arith;
  still = λ e. (refl, e);
  at_end = λ before e. before e;
  failures = refl;
}

-- what came, and what came then
pub fills_on : (a b c : Buffered) (s t u : SourceState) → Fills a b s t → Fills b c t u → Fills a c s u
fills_on a b c s t u x y =
    let first = x.left in
    let second = y.left in
    record {
      pulled = x.pulled ++ y.pulled;
      given = y.given ∙ ap (λ g. followed_by g y.pulled) x.given ∙ followed_twice s.given x.pulled y.pulled;
      bytes = y.bytes ∙ ap (λ t. t ++ y.pulled) x.bytes ∙ sym (regroup a.bytes x.pulled y.pulled);
      number = y.number ∙ x.number;
      left = omega (arith, first, second);
      still = λ e. let f = x.still e in let g = y.still f.1 in (ap (λ p. p ++ y.pulled) f.0 ∙ g.0, g.1);
      at_end = λ before e. y.at_end (x.at_end before) e;
      failures = y.failures ∙ x.failures;
    }

-- what came passes no line
passes_fills : (a b : Buffered) (s t : SourceState) → Fills a b s t → PassesLines a b s t []
passes_fills a b s t x =
    let left = x.left in
    let number = x.number in
    record {
      pulled = x.pulled;
      given = x.given;
      lines = λ more goes. ap (λ n. counting_from n ((a.bytes ++ x.pulled) ++ more)) (sym x.number) ∙ ap (λ t. counting_from b.number (t ++ more)) (sym x.bytes);
      last = λ more goes. ap (λ n. n + breaks ((a.bytes ++ x.pulled) ++ more)) (sym x.number) ∙ ap (λ t. b.number + breaks (t ++ more)) (sym x.bytes);
      numbered = omega (arith, left, number);
      left = left;
      still = x.still;
      at_end = x.at_end;
      failures = x.failures;
    }

pub passes_none : (b : Buffered) (s : SourceState) → PassesLines b b s s []
passes_none b s = passes_fills b b s s (fills_none b s)

goes_on : (b c : Buffered) (pulled more : List ℕ) → (b.ended ≡ true → (pulled ≡ []) × (c.ended ≡ true)) → GoesOn c more → GoesOn b (pulled ++ more)
goes_on b c pulled more still goes e = let f = still e in ap (λ p. p ++ more) f.0 ∙ goes f.1

-- lines that were passed, and lines that were passed then
pub passes_on : (a b c : Buffered) (s t u : SourceState) (ls ks : List Numbered) → PassesLines a b s t ls → PassesLines b c t u ks → PassesLines a c s u (ls ++ ks)
passes_on a b c s t u ls ks x y =
    let first = x.left in
    let second = y.left in
    let third = x.numbered in
    let fourth = y.numbered in
    record {
      pulled = x.pulled ++ y.pulled;
      given = y.given ∙ ap (λ g. followed_by g y.pulled) x.given ∙ followed_twice s.given x.pulled y.pulled;
      lines = λ more goes.
          ap (counting_from a.number) (regrouped more)
          ∙ x.lines (y.pulled ++ more) (goes_on b c y.pulled more y.still goes)
          ∙ ap (λ r. ls ++ counting_from b.number r) (regroup b.bytes y.pulled more)
          ∙ ap (λ r. ls ++ r) (y.lines more goes)
          ∙ regroup ls ks (counting_from c.number (c.bytes ++ more));
      last = λ more goes.
          ap (λ r. a.number + breaks r) (regrouped more)
          ∙ x.last (y.pulled ++ more) (goes_on b c y.pulled more y.still goes)
          ∙ ap (λ r. b.number + breaks r) (regroup b.bytes y.pulled more)
          ∙ y.last more goes;
      numbered = omega (arith, third, fourth);
      left = omega (arith, first, second);
      still = λ e. let f = x.still e in let g = y.still f.1 in (ap (λ p. p ++ y.pulled) f.0 ∙ g.0, g.1);
      at_end = λ before e. y.at_end (x.at_end before) e;
      failures = y.failures ∙ x.failures;
    }
  where
    regrouped : (more : List ℕ) → (a.bytes ++ (x.pulled ++ y.pulled)) ++ more ≡ (a.bytes ++ x.pulled) ++ (y.pulled ++ more)
    regrouped more = ap (λ r. r ++ more) (regroup a.bytes x.pulled y.pulled) ∙ sym (regroup (a.bytes ++ x.pulled) y.pulled more)

-- a line that is taken is passed
passes_line : (b c : Buffered) (s : SourceState) → TakesLine b c → PassesLines b c s s (onto (lent c) [])
passes_line b c s takes = by takes.taken
  where
    line : Numbered
    line = record { number = b.number; text = c.text }

    named : (onto line []) ≡ onto (lent c) []
    named = ap (λ n. onto (record { number = n; text = c.text }) []) (sym takes.numbered)

    nothing : (more : List ℕ) → (b.bytes ++ []) ++ more ≡ b.bytes ++ more
    nothing more = ap (λ r. r ++ more) (append-nil b.bytes)

    by : buffers.IsTakenFrom b c → PassesLines b c s s (onto (lent c) [])
    by (inl (whole, next)) =
        let long = ap length whole in
        let parts = length-append c.text (10 ∷ c.bytes) in
        let none = (one_line c.text takes.unbroken).1 in
        record {
          pulled = [];
          given = followed_by_none s.given;
          lines = λ more goes.
              ap (counting_from b.number) (nothing more ∙ ap (λ r. r ++ more) whole ∙ sym (regroup c.text (10 ∷ c.bytes) more))
              ∙ line_counted b.number c.text (c.bytes ++ more) takes.unbroken
              ∙ onto_more line [] (counting_from (b.number + 1) (c.bytes ++ more))
              ∙ ap (λ ls. ls ++ counting_from (b.number + 1) (c.bytes ++ more)) named
              ∙ ap (λ n. onto (lent c) [] ++ counting_from n (c.bytes ++ more)) (sym next);
          last = λ more goes.
              let joined = breaks_joined c.text (c.bytes ++ more) in
              let e = ap breaks (nothing more ∙ ap (λ r. r ++ more) whole ∙ sym (regroup c.text (10 ∷ c.bytes) more)) in
              omega (arith, joined, e, none, next);
          numbered = omega (arith, long, parts, next);
          left = omega (arith, long, parts);
          still = λ e. (refl, takes.ended ∙ e);
          at_end = λ before e. before (sym takes.ended ∙ e);
          failures = refl;
        }
    by (inr (whole, some, empty, ended, next)) =
        let long = ap length whole in
        let short = ap length empty in
        let none = (one_line c.text takes.unbroken).1 in
        record {
          pulled = [];
          given = followed_by_none s.given;
          lines = λ more goes.
              let over : more ≡ [] = goes (takes.ended ∙ ended) in
              ap (counting_from b.number) (nothing more ∙ ap (λ r. b.bytes ++ r) over ∙ append-nil b.bytes ∙ whole)
              ∙ last_counted b.number c.text takes.unbroken
              ∙ named
              ∙ sym (append-nil (onto (lent c) []))
              ∙ ap (λ ls. onto (lent c) [] ++ ls) (sym (nothing_left c.number) ∙ ap (counting_from c.number) (sym (ap (λ r. c.bytes ++ r) over ∙ append-nil c.bytes ∙ empty)));
          last = λ more goes.
              let over : more ≡ [] = goes (takes.ended ∙ ended) in
              let e = ap breaks (nothing more ∙ ap (λ r. b.bytes ++ r) over ∙ append-nil b.bytes ∙ whole) in
              let f : breaks (c.bytes ++ more) ≡ 0 = ap breaks (ap (λ r. c.bytes ++ r) over ∙ append-nil c.bytes ∙ empty) in
              omega (arith, e, f, none, next);
          numbered = omega (arith, long, short, next);
          left = omega (arith, long, short);
          still = λ e. (refl, takes.ended ∙ e);
          at_end = λ before e. before (sym takes.ended ∙ e);
          failures = refl;
        }

-- a line that is taken is shorter than what was here
takes_some : (b c : Buffered) → TakesLine b c → length c.bytes < length b.bytes
takes_some b c takes = by takes.taken
  where
    by : buffers.IsTakenFrom b c → length c.bytes < length b.bytes
    by (inl (whole, next)) = let long = ap length whole in let parts = length-append c.text (10 ∷ c.bytes) in omega (arith, long, parts)
    by (inr (whole, some, empty, ended, next)) = let short = ap length empty in omega (arith, some, short)

-- what came, and a line of it that is taken, or none
pub finds : (yes : Bool) (a b c : Buffered) (s t : SourceState) → Fills a b s t → IsReady b → (yes ≡ true → TakesLine b c) → (yes ≡ false → b.bytes ≡ []) → (yes ≡ false → c ≡ b) → Finds yes a c s t
finds true a b c s t fills ready takes none same =
    let taken = takes refl in
    let less = takes_some b c taken in
    let left = fills.left in
    (passes_on a b c s t t [] (onto (lent c) []) (passes_fills a b s t fills) (passes_line b c t taken), taken.unbroken, omega (arith, less, left))
finds false a b c s t fills ready takes none same =
    let empty = none refl in
    let emptied : IsEmptied b = record { none = empty; ended = ready (ap has_no_break empty) } in
    subst (λ (x : Buffered). PassesLines a x s t [] × IsEmptied x) (sym (same refl)) (passes_fills a b s t fills, emptied)

-- the line that was found counts
pub comes : (yes : Bool) (a b c : Buffered) (s t u : SourceState) → PassesLines a b s t [] → Finds yes b c t u → yes ≡ true → counts c.text ≡ true → Comes true a c s u
comes true a b c s t u passed found is counted =
    let less = found.2 in
    let left = passed.left in
    (subst (λ ls. PassesLines a c s u ls) (ap (λ k. if k then lent c ∷ [] else []) counted) (passes_on a b c s t u [] (onto (lent c) []) passed found.0), omega (arith, less, left))
comes false a b c s t u passed found is counted = absurd cc

-- it does not
pub passed_over : (yes : Bool) (a b c : Buffered) (s t u : SourceState) → PassesLines a b s t [] → Finds yes b c t u → yes ≡ true → counts c.text ≡ false → PassesLines a c s u []
passed_over true a b c s t u passed found is counted =
    subst (λ ls. PassesLines a c s u ls) (ap (λ k. if k then lent c ∷ [] else []) counted) (passes_on a b c s t u [] (onto (lent c) []) passed found.0)
passed_over false a b c s t u passed found is counted = absurd cc

-- there is none
pub no_more : (yes : Bool) (a b c : Buffered) (s t u : SourceState) → PassesLines a b s t [] → Finds yes b c t u → yes ≡ false → PassesLines a c s u [] × IsEmptied c
no_more true a b c s t u passed found is = absurd cc
no_more false a b c s t u passed found is = (passes_on a b c s t u [] [] passed found.0, found.1)
