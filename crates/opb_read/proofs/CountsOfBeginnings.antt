-- Counts within the limits stay so in a beginning: what tokens say with more tokens behind them, they say at least.
use Rattle.std.proofs.Common.{◌≡◌, ℕ, ◌+◌, ◌≤◌, Bool, true, false, cond, if◌then◌else◌, List, [], ◌∷◌, ◌++◌, length, refl, sym, subst, arith}
use Rattle.std.specs.Prelude.{All, count_by}
use Rattle.std.proofs.lemmas.List.Elements.{All-nil, All-cons, All-head, All-tail}
use Rattle.pb_text.specs.Lexeme.{Lexeme}
use Rattle.linear.specs.Limits.{most_terms, most_constraints}
use Rattle.linear.specs.Table.{with_name, with_word}
use Rattle.pb_text.specs.Word.{name_of}
use Rattle.opb_read.specs.Kinds.{is_literal, is_semicolon, begins_objective}
use Rattle.opb_read.specs.Pieces.{Pieces, pieces}
use Rattle.opb_read.specs.Forms.{names_in}
use Rattle.opb_read.specs.FaultLine.{is_begun, AreCountsWithin}
use Rattle.linear.proofs.NumbersOfNames.{with_name-atmost}
use Rattle.opb_read.proofs.NumbersOfNames.{names_in-more}
use Rattle.opb_read.proofs.PiecesOf.{within_piece, end_of_piece}
use Rattle.opb_read.proofs.CountsOfPassed.{IsFew, literals, literals-cons, begun-cons, front, CountsFrom}
use Rattle.opb_read.proofs.Faults.{start, counts_of, of_counts}

names_fewer : (names : List (List ℕ)) (ts more : List Lexeme) → length (names_in names ts) ≤ length (names_in names (ts ++ more))
names_fewer names [] more = names_in-more names more
names_fewer names (t ∷ ts) more = names_fewer (with_word names t.kind t.text) ts more

-- pieces of a beginning: no piece has more literals, and no more constraints are begun
record AreFewer (a b : Pieces) : Type 0 where
  first : literals a.first ≤ literals b.first
  others : All IsFew (b.first ∷ b.others) → All IsFew a.others
  behind : count_by is_begun a.others ≤ count_by is_begun b.others
  all : cond (is_begun a.first) 1 0 + count_by is_begun a.others ≤ cond (is_begun b.first) 1 0 + count_by is_begun b.others

fewer_nil : (b : Pieces) → AreFewer (record { first = []; others = [] }) b
fewer_nil b = record { first = omega arith; others = λ h. All-nil IsFew; behind = omega arith; all = omega arith }

fewer_end : (a b : Pieces) → AreFewer a b → AreFewer (record { first = []; others = a.first ∷ a.others }) (record { first = []; others = b.first ∷ b.others })
fewer_end a b h =
    let count : count_by is_begun (a.first ∷ a.others) ≤ count_by is_begun (b.first ∷ b.others) = let all = h.all in omega (arith, begun-cons a.first a.others, begun-cons b.first b.others, all) in
    record {
      first = omega arith;
      others = λ few.
          let tail : All IsFew (b.first ∷ b.others) = All-tail IsFew [] (b.first ∷ b.others) few in
          let most : literals b.first ≤ most_terms = All-head IsFew b.first b.others tail in
          let less = h.first in
          All-cons IsFew a.first a.others (omega (arith, most, less)) (h.others tail);
      behind = count;
      all = omega (arith, count);
    }

fewer_inside : (t : Lexeme) (a b : Pieces) → AreFewer a b → AreFewer (record { first = t ∷ a.first; others = a.others }) (record { first = t ∷ b.first; others = b.others })
fewer_inside t a b h =
    let less = h.first in
    let behind = h.behind in
    let ones : literals (t ∷ a.first) ≡ cond (is_literal t.kind) 1 0 + literals a.first = literals-cons t a.first in
    let twos : literals (t ∷ b.first) ≡ cond (is_literal t.kind) 1 0 + literals b.first = literals-cons t b.first in
    record {
      first = omega (arith, ones, twos, less);
      others = λ few.
          let most : literals (t ∷ b.first) ≤ most_terms = All-head IsFew (t ∷ b.first) b.others few in
          h.others (All-cons IsFew b.first b.others (omega (arith, most, twos)) (All-tail IsFew (t ∷ b.first) b.others few));
      behind = behind;
      all = omega (arith, behind);
    }

fewer : (ts more : List Lexeme) → AreFewer (pieces ts) (pieces (ts ++ more))
fewer [] more = fewer_nil (pieces more)
fewer (t ∷ ts) more = by (is_semicolon t.kind) refl (fewer ts more)
  where
    by : (b : Bool) → is_semicolon t.kind ≡ b → AreFewer (pieces ts) (pieces (ts ++ more)) → AreFewer (pieces (t ∷ ts)) (pieces (t ∷ (ts ++ more)))
    by true e h =
        subst (λ (x : Pieces). AreFewer x (pieces (t ∷ (ts ++ more)))) (sym (end_of_piece t ts e))
        (subst (AreFewer (record { first = []; others = (pieces ts).first ∷ (pieces ts).others })) (sym (end_of_piece t (ts ++ more) e)) (fewer_end (pieces ts) (pieces (ts ++ more)) h))
    by false e h =
        subst (λ (x : Pieces). AreFewer x (pieces (t ∷ (ts ++ more)))) (sym (within_piece t ts e))
        (subst (AreFewer (record { first = t ∷ (pieces ts).first; others = (pieces ts).others })) (sym (within_piece t (ts ++ more) e)) (fewer_inside t (pieces ts) (pieces (ts ++ more)) h))

counts_beginning : (m : Bool) (ts more : List Lexeme) → CountsFrom (start m) (ts ++ more) → CountsFrom (start m) ts
counts_beginning m ts more w =
    let f = fewer ts more in
    let first : 0 + literals (pieces (ts ++ more)).first ≤ most_terms = w.first in
    let less = f.first in
    let variables = w.variables in
    record {
      variables = omega (arith, variables, names_fewer [] ts more);
      first = omega (arith, first, less);
      others = f.others (All-cons IsFew (pieces (ts ++ more)).first (pieces (ts ++ more)).others (omega (arith, first)) w.others);
      constraints = by m w.constraints;
    }
  where
    by : (x : Bool) → 0 + (front (start x).spot (pieces (ts ++ more)).first + count_by is_begun (pieces (ts ++ more)).others) ≤ most_constraints
        → 0 + (front (start x).spot (pieces ts).first + count_by is_begun (pieces ts).others) ≤ most_constraints
    by true h = let behind = (fewer ts more).behind in omega (arith, h, behind)
    by false h = let all = (fewer ts more).all in omega (arith, h, all)

-- one token alone is within the limits
single_counts : (t : Lexeme) → AreCountsWithin (t ∷ [])
single_counts t = counts_of false (t ∷ []) refl (by (is_semicolon t.kind) refl)
  where
    one_name : length (names_in [] (t ∷ [])) ≤ 1
    one_name = named (is_literal t.kind)
      where
        named : (b : Bool) → length (if b then with_name [] (name_of t.text) else []) ≤ 1
        named true = omega (arith, with_name-atmost [] (name_of t.text))
        named false = omega arith

    one_literal : literals (t ∷ []) ≤ 1
    one_literal = by_kind (is_literal t.kind) (literals-cons t [])
      where
        by_kind : (b : Bool) → literals (t ∷ []) ≡ cond b 1 0 + literals [] → literals (t ∷ []) ≤ 1
        by_kind true e = omega (arith, e)
        by_kind false e = omega (arith, e)

    by : (b : Bool) → is_semicolon t.kind ≡ b → CountsFrom (start false) (t ∷ [])
    by true e =
        let at = end_of_piece t [] e in
        record {
          variables = omega (arith, one_name);
          first = subst (λ (x : Pieces). 0 + literals x.first ≤ most_terms) (sym at) (omega arith);
          others = subst (λ (x : Pieces). All IsFew x.others) (sym at) (All-cons IsFew [] [] (omega arith) (All-nil IsFew));
          constraints = subst (λ (x : Pieces). 0 + (cond (is_begun x.first) 1 0 + count_by is_begun x.others) ≤ most_constraints) (sym at) (omega (arith, begun-cons [] []));
        }
    by false e =
        let at = within_piece t [] e in
        record {
          variables = omega (arith, one_name);
          first = subst (λ (x : Pieces). 0 + literals x.first ≤ most_terms) (sym at) (omega (arith, one_literal));
          others = subst (λ (x : Pieces). All IsFew x.others) (sym at) (All-nil IsFew);
          constraints = subst (λ (x : Pieces). 0 + (cond (is_begun x.first) 1 0 + count_by is_begun x.others) ≤ most_constraints) (sym at) (omega arith);
        }

longer_counts : (a b : Lexeme) (ts more : List Lexeme) → AreCountsWithin (a ∷ b ∷ (ts ++ more)) → AreCountsWithin (a ∷ b ∷ ts)
longer_counts a b ts more w = by (begins_objective (a ∷ b ∷ [])) refl
  where
    by : (m : Bool) → begins_objective (a ∷ b ∷ []) ≡ m → AreCountsWithin (a ∷ b ∷ ts)
    by true e =
        counts_of true (a ∷ b ∷ ts) e
        (subst (λ (x : Bool). CountsFrom (start true) (if x then ts else a ∷ b ∷ ts)) (sym e)
        (counts_beginning true ts more (subst (λ (x : Bool). CountsFrom (start true) (if x then ts ++ more else a ∷ b ∷ (ts ++ more))) e (of_counts true (a ∷ b ∷ (ts ++ more)) e w))))
    by false e =
        counts_of false (a ∷ b ∷ ts) e
        (subst (λ (x : Bool). CountsFrom (start false) (if x then ts else a ∷ b ∷ ts)) (sym e)
        (counts_beginning false (a ∷ b ∷ ts) more (subst (λ (x : Bool). CountsFrom (start false) (if x then ts ++ more else a ∷ b ∷ (ts ++ more))) e (of_counts false (a ∷ b ∷ (ts ++ more)) e w))))

-- the counts of a beginning that is not empty
pub beginning_counts : (t : Lexeme) (ts more : List Lexeme) → AreCountsWithin (t ∷ (ts ++ more)) → AreCountsWithin (t ∷ ts)
beginning_counts t [] more w = single_counts t
beginning_counts t (u ∷ ts) more w = longer_counts t u ts more w
