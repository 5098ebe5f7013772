-- One entry of the row of a literal that falls: it stays, it is dropped, or another literal watches its clause.
use Rattle.std.proofs.Common.{◌≡◌, ℕ, ◌+◌, ◌*◌, ◌<◌, ◌≤◌, inl, inr, is_some, Contains, Option, None, Some, List, [], ◌∷◌, ◌++◌, length, get_or, set, take, drop, refl, ap, sym, subst, ◌∙◌, arith}
use Rattle.std.proofs.lemmas.Bool.{cases_eq, cases_lt}
use Rattle.std.proofs.lemmas.List.{get_or-set_same, get_or-set_other, length-set, get_or_default, get_or_past, take-append-drop}
use Rattle.std.specs.List.{swap_remove}
use Rattle.linear.specs.declared.term.Lit.{Lit}
use Rattle.normal_form.specs.Normal.{NormalConstraint, variable_bound}
use Rattle.normal_form.proofs.SumsByVariable.{absent_above}
use Rattle.linear.specs.Literal.{opposite}
use Rattle.propagate.specs.Literals.{coefficient_of, lists}
use Rattle.propagate.proofs.Occurrences.{same_literal}
use Rattle.ledger.specs.declared.pair.Pair.{Pair}
use Rattle.ledger.specs.declared.finding.Move.{Move}
use Rattle.ledger.specs.Falls.{IsAhead, IsAt, IsBeside, IsFalling, IsHandled, IsMoveIn, IsMoved, IsOneOf}
use Rattle.linear.specs.Literal.{code}
use Rattle.ledger.specs.Watched.{AreLiteralsOf, AreSameKinds, AreWatched, IsOpen, IsPairOf, IsPairWithin, IsWatched, StandsIn, Watching, exchanged}
use Rattle.ledger.proofs.ClauseLists.{list_there, still_listed}
use Rattle.occurrences.proofs.Entering.{code_below, same_code}
use Rattle.trail.proofs.AssignedLiterals.{fewer}
use Rattle.ledger.proofs.RowPlaces.{IsPut, ahead_first, ahead_next, ahead_still, put_length, put_still, put_there, row_other, row_set, stands_beside}

abbrev Slots : Type 0
Slots = List (Option NormalConstraint)

abbrev row_of : Watching → Lit → List ℕ
row_of w l = get_or w.rows (code l) []

pub code_apart : (l m : Lit) → (l ≡ m → ⊥) → code l ≡ code m → ⊥
code_apart l m other e = let same = same_code l m e in other (same_literal l m same.0 same.1)

handled_later : (assigned : List Lit) (n : NormalConstraint) (p : Pair) (q q' : List ℕ) (k : ℕ) → ((k : ℕ) → Contains q k → Contains q' k) → IsHandled assigned n p q k → IsHandled assigned n p q' k
handled_later assigned n p q q' k kept (inl t) = inl t
handled_later assigned n p q q' k kept (inr (out, waits)) = inr (out, kept k waits)

-- the entry stays, and its clause is handled
pub stays : (slots : Slots) (assigned : List Lit) (variables : ℕ) (fallen : Lit) (w : Watching) (q q' : List ℕ) (index place : ℕ) (n : NormalConstraint) (p : Pair) → IsFalling slots assigned variables fallen w q index
    → index < length (row_of w fallen) → place ≡ get_or (row_of w fallen) index place → ((k : ℕ) → Contains q k → Contains q' k) → IsAt slots w.pairs place n p → IsHandled assigned n p q' place
    → IsFalling slots assigned variables fallen w q' (index + 1)
stays slots assigned variables fallen w q q' index place n p f low is kept at handled = record {
  watched = f.watched;
  handled = λ k m r there pair one. elim (f.handled k m r there pair one) [
    | inr done ↦ inr (handled_later assigned m r q q' k kept done)
    | inl ahead ↦ elim (cases_eq k place) [
      | inr other ↦ inl (ahead_next (row_of w fallen) index place k low is other ahead)
      | inl e ↦ inr (here k m r e there pair)
    ]
  ];
}
  where
    some_same : {X : Type 0} (x y : X) (o : Option X) → o ≡ Some x → o ≡ Some y → x ≡ y
    some_same x y o e f = cc

    here : (k : ℕ) (m : NormalConstraint) (r : Pair) → k ≡ place → get_or slots k None ≡ Some m → get_or w.pairs k None ≡ Some r → IsHandled assigned m r q' k
    here k m r e there pair =
        let first : n ≡ m = some_same n m (get_or slots place None) at.0 (ap (λ (j : ℕ). get_or slots j None) (sym e) ∙ there) in
        let second : p ≡ r = some_same p r (get_or w.pairs place None) at.1 (ap (λ (j : ℕ). get_or w.pairs j None) (sym e) ∙ pair) in
        subst (λ (x : NormalConstraint). IsHandled assigned x r q' k) first (subst (λ (x : Pair). IsHandled assigned n x q' k) second (subst (IsHandled assigned n p q') (sym e) handled))

-- the rows without the entry
pub record IsDropped (w new : Watching) (fallen : Lit) (index place : ℕ) : Type 0 where
  pub literals : new.literals ≡ w.literals
  pub rows : new.rows ≡ set w.rows (code fallen) (swap_remove (row_of w fallen) index place)
  pub pairs : new.pairs ≡ w.pairs

watched_without : (slots : Slots) (assigned : List Lit) (variables : ℕ) (fallen : Lit) (w : Watching) (index place : ℕ) → AreWatched slots assigned variables w → code fallen < length w.rows
    → index < length (row_of w fallen) → place ≡ get_or (row_of w fallen) index place → ((n : NormalConstraint) (p : Pair) → IsAt slots w.pairs place n p → IsOneOf p fallen → ⊥)
    → AreWatched slots assigned variables (record { rows = set w.rows (code fallen) (swap_remove (row_of w fallen) index place); pairs = w.pairs; literals = w.literals })
watched_without slots assigned variables fallen w index place a number low is elsewhere = record {
  size = omega (arith, a.size, length-set w.rows (code fallen) (swap_remove (row_of w fallen) index place));
  within = a.within;
  there = a.there;
  each = λ k n p there pair.
      let i = a.each k n p there pair in
      let gone : k ≡ place → IsOneOf p fallen → ⊥ = λ e. elsewhere n p (ap (λ (j : ℕ). get_or slots j None) (sym e) ∙ there, ap (λ (j : ℕ). get_or w.pairs j None) (sym e) ∙ pair) in
      record {
        of_it = i.of_it;
        first = stands_beside w.rows (code fallen) index place number low is p.first k (λ c e. let same = same_code p.first fallen c in gone e (inl (same_literal p.first fallen same.0 same.1))) i.first;
        second = stands_beside w.rows (code fallen) index place number low is p.second k (λ c e. let same = same_code p.second fallen c in gone e (inr (same_literal p.second fallen same.0 same.1))) i.second;
        tell = i.tell;
      };
  listed = a.listed;
}

pub dropped : (slots : Slots) (assigned : List Lit) (variables : ℕ) (fallen : Lit) (w new : Watching) (q : List ℕ) (index place : ℕ) → IsFalling slots assigned variables fallen w q index → code fallen < length w.rows
    → index < length (row_of w fallen) → place ≡ get_or (row_of w fallen) index place → ((n : NormalConstraint) (p : Pair) → IsAt slots w.pairs place n p → IsOneOf p fallen → ⊥) → IsDropped w new fallen index place
    → IsFalling slots assigned variables fallen new q index
dropped slots assigned variables fallen w new q index place f number low is elsewhere d =
    let row : List ℕ = swap_remove (row_of w fallen) index place in
    let after : Watching = record { rows = set w.rows (code fallen) row; pairs = w.pairs; literals = w.literals } in
    let same : after ≡ new = ap (λ (rows : List (List ℕ)). record { rows = rows; pairs = w.pairs; literals = w.literals }) (sym d.rows) ∙ ap {B = Watching} (λ (pairs : List (Option Pair)). record { rows = new.rows; pairs = pairs; literals = w.literals }) (sym d.pairs)
    ∙ ap {B = Watching} (λ (literals : List (List Lit)). record { rows = new.rows; pairs = new.pairs; literals = literals }) (sym d.literals) in
    subst (λ (x : Watching). IsFalling slots assigned variables fallen x q index) same (record {
      watched = watched_without slots assigned variables fallen w index place f.watched number low is elsewhere;
      handled = λ k n p there pair one. elim (f.handled k n p there pair one) [
        | inr done ↦ inr done
        | inl ahead ↦
            let other : k ≡ place → ⊥ = λ e. elsewhere n p (ap (λ (j : ℕ). get_or slots j None) (sym e) ∙ there, ap (λ (j : ℕ). get_or w.pairs j None) (sym e) ∙ pair) one in
            inl (subst (λ (xs : List ℕ). IsAhead xs index k) (sym (row_set w.rows (code fallen) row fallen number refl)) (ahead_still (row_of w fallen) index place k low is other ahead))
      ];
    })

-- an open literal was open before
pub open_earlier : (assigned : List Lit) (l : Lit) (h : ℕ) → IsOpen assigned l → IsOpen (take h assigned) l
open_earlier assigned l h o =
    fewer (take h assigned) (drop h assigned) (l.var.0) (opposite l).negated (lists (take h assigned) (opposite l)) refl (ap (λ (xs : List Lit). lists xs (opposite l)) (take-append-drop h assigned) ∙ o)

-- a literal of a constraint is of its variables
pub variable_below : (n : NormalConstraint) (l : Lit) (variables : ℕ) → 0 < coefficient_of n l → variable_bound n.terms ≤ variables → l.var.0 < variables
variable_below n l variables some within = elim (cases_lt (l.var.0) variables) [
  | inl low ↦ low
  | inr high ↦ absurd (omega (arith, some, absent_above n.terms (l.var.0) l.negated (omega (arith, within, high))))
]

pub some_there : {X : Type 0} (xs : List (Option X)) (k : ℕ) (x : X) → get_or xs k None ≡ Some x → k < length xs
some_there {X = X} xs k x e = elim (cases_lt k (length xs)) [
  | inl low ↦ low
  | inr high ↦ absurd (none_some (sym (get_or_past xs k None high) ∙ e))
]
  where
    none_some : None ≡ Some x → ⊥
    none_some e = cc

same_some : {X : Type 0} (x y : X) (o : Option X) → o ≡ Some x → o ≡ Some y → x ≡ y
same_some x y o e f = cc

-- rows, pairs and lists where another literal watches the clause of a place
pub record IsRewatched (w new : Watching) (place : ℕ) (fallen : Lit) (m : Move) : Type 0 where
  pub rows : IsPut w.rows m.pair.first place new.rows
  pub pairs : new.pairs ≡ set w.pairs place (Some m.pair)
  pub literals : new.literals ≡ set w.literals place (exchanged (get_or w.literals place []) m.index fallen m.pair)

either : (p : Pair) (l : Lit) (A : Lit → Type 0) → IsOneOf p l → A p.first → A p.second → A l
either p l A (inl e) a b = subst A e a
either p l A (inr e) a b = subst A e b

pub rewatched : (slots : Slots) (assigned : List Lit) (variables : ℕ) (fallen : Lit) (w new : Watching) (queue : List ℕ) (index place : ℕ) (n : NormalConstraint) (p : Pair) (to : Move) → IsFalling slots assigned variables fallen w queue index
    → variable_bound n.terms ≤ variables → IsAt slots w.pairs place n p → IsMoved assigned n p fallen to.pair → IsMoveIn (get_or w.literals place []) p fallen to → IsRewatched w new place fallen to
    → IsFalling slots assigned variables fallen new queue index
rewatched slots assigned variables fallen w new queue index place n p to f within at moves move r =
    let q : Pair = to.pair in
    let low : place < length w.pairs = some_there w.pairs place p at.1 in
    let first_below : q.first.var.0 < variables = variable_below n q.first variables moves.of_it.first within in
    let second_below : q.second.var.0 < variables = variable_below n q.second variables moves.of_it.second within in
    let number : code q.first < length w.rows = omega (arith, code_below q.first variables (length w.rows) (omega (arith, first_below)) f.watched.size) in
    let here : (k : ℕ) (s : Pair) → k ≡ place → get_or new.pairs k None ≡ Some s → s ≡ q = λ k s e pair.
    same_some s q (get_or new.pairs k None) pair (ap (λ (xs : List (Option Pair)). get_or xs k None) r.pairs ∙ ap (λ (j : ℕ). get_or (set w.pairs place (Some q)) j None) e ∙ get_or-set_same w.pairs place (Some q) None low) in
    let there : (k : ℕ) (s : Pair) → (k ≡ place → ⊥) → get_or new.pairs k None ≡ Some s → get_or w.pairs k None ≡ Some s = λ k s other pair.
    sym (get_or-set_other w.pairs place k (Some q) None other) ∙ ap (λ (xs : List (Option Pair)). get_or xs k None) (sym r.pairs) ∙ pair in
    let was = f.watched.each place n p at.0 at.1 in
    let kept = put_still w.rows new.rows q.first place number r.rows in
    let same_row : row_of new fallen ≡ row_of w fallen =
    ap (λ (rows : List (List ℕ)). get_or rows (code fallen) []) r.rows ∙ row_other w.rows (code q.first) (get_or w.rows (code q.first) [] ++ place ∷ []) fallen (λ e. code_apart q.first fallen moves.not_first (sym e)) in
    record {
      watched = record {
        size = omega (arith, f.watched.size, put_length w.rows new.rows q.first place r.rows);
        within = λ k s pair. elim (cases_eq k place) [
          | inl e ↦ subst (IsPairWithin variables) (sym (here k s e pair)) (first_below, second_below)
          | inr other ↦ f.watched.within k s (there k s other pair)
        ];
        there = λ k s pair. elim (cases_eq k place) [
          | inl e ↦ (n, ap (λ (j : ℕ). get_or slots j None) e ∙ at.0)
          | inr other ↦ f.watched.there k s (there k s other pair)
        ];
        each = λ k m s slot pair. elim (cases_eq k place) [
          | inl e ↦
              let same : n ≡ m = same_some n m (get_or slots place None) at.0 (ap (λ (j : ℕ). get_or slots j None) (sym e) ∙ slot) in
              let it : IsWatched new.rows assigned place n q = record {
                of_it = moves.of_it;
                first = put_there w.rows new.rows q.first place number r.rows;
                second = kept q.second place (either p q.second (λ l. StandsIn w.rows l place) moves.stays was.first was.second);
                tell = λ h. inl (open_earlier assigned q.first h moves.first, open_earlier assigned q.second h moves.second);
              } in
              subst (λ (x : ℕ). IsWatched new.rows assigned x m s) (sym e) (subst (λ (x : Pair). IsWatched new.rows assigned place m x) (sym (here k s e pair)) (subst (λ (x : NormalConstraint). IsWatched new.rows assigned place x q) same it))
          | inr other ↦
              let i = f.watched.each k m s slot (there k s other pair) in
              record { of_it = i.of_it; first = kept s.first k i.first; second = kept s.second k i.second; tell = i.tell }
        ];
        listed = λ k m s slot pair. elim (cases_eq k place) [
          | inl e ↦
              let same : n ≡ m = same_some n m (get_or slots place None) at.0 (ap (λ (j : ℕ). get_or slots j None) (sym e) ∙ slot) in
              let ls : List Lit = get_or w.literals place [] in
              let it = still_listed n ls p q fallen to.index (f.watched.listed place n p at.0 at.1) move.pair move.rest move.below move.there move.beside moves.of_it.first moves.of_it.second (fallen_occurs was.of_it move.beside) in
              let is : get_or new.literals k [] ≡ exchanged ls to.index fallen q =
              ap (λ (xs : List (List Lit)). get_or xs k []) r.literals ∙ ap (λ (j : ℕ). get_or (set w.literals place (exchanged ls to.index fallen q)) j []) e ∙ get_or-set_same w.literals place (exchanged ls to.index fallen q) [] (list_there w.literals place p move.pair) in
              subst (λ (x : NormalConstraint). AreLiteralsOf x (get_or new.literals k [])) same (subst (AreLiteralsOf n) (sym is) it)
          | inr other ↦
              subst (AreLiteralsOf m) (sym (ap (λ (xs : List (List Lit)). get_or xs k []) r.literals ∙ get_or-set_other w.literals place k (exchanged (get_or w.literals place []) to.index fallen q) [] other)) (f.watched.listed k m s slot (there k s other pair))
        ];
      };
      handled = λ k m s slot pair one. elim (cases_eq k place) [
        | inl e ↦ absurd (not_one (subst (λ (x : Pair). IsOneOf x fallen) (here k s e pair) one))
        | inr other ↦ elim (f.handled k m s slot (there k s other pair) one) [
          | inl ahead ↦ inl (subst (λ (xs : List ℕ). IsAhead xs index k) (sym same_row) ahead)
          | inr done ↦ inr done
        ]
      ];
    }
  where
    not_one : IsOneOf to.pair fallen → ⊥
    not_one (inl e) = moves.not_first e
    not_one (inr e) = moves.not_second e

    fallen_occurs : IsPairOf n p → IsBeside (Some p) fallen to.pair.second → 0 < coefficient_of n fallen
    fallen_occurs of_it (inl b) = subst (λ (l : Lit). 0 < coefficient_of n l) b.0 of_it.first
    fallen_occurs of_it (inr b) = subst (λ (l : Lit). 0 < coefficient_of n l) b.0 of_it.second

-- the same places are watched then
pub same_kinds : (pairs new : List (Option Pair)) (place : ℕ) (p q : Pair) → get_or pairs place None ≡ Some p → new ≡ set pairs place (Some q) → AreSameKinds pairs new
same_kinds pairs new place p q at e = record {
  count = ap (length {A = Option Pair}) e ∙ length-set pairs place (Some q);
  kinds = λ k. elim (cases_eq k place) [
    | inl same ↦
        let low : place < length pairs = some_there pairs place p at in
        ap (λ (xs : List (Option Pair)). is_some (get_or xs k None)) e ∙ ap (λ (j : ℕ). is_some (get_or (set pairs place (Some q)) j None)) same ∙ ap (λ (o : Option Pair). is_some o) (get_or-set_same pairs place (Some q) None low)
        ∙ sym (ap (λ (j : ℕ). is_some (get_or pairs j None)) same ∙ ap (λ (o : Option Pair). is_some o) at)
    | inr other ↦ ap (λ (xs : List (Option Pair)). is_some (get_or xs k None)) e ∙ ap (λ (o : Option Pair). is_some o) (get_or-set_other pairs place k (Some q) None other)
  ];
}

pub kinds_same : (pairs new : List (Option Pair)) → new ≡ pairs → AreSameKinds pairs new
kinds_same pairs new e = record { count = ap (length {A = Option Pair}) e; kinds = λ k. ap (λ (xs : List (Option Pair)). is_some (get_or xs k None)) e }

-- the place of an entry of a row
pub place_is : (rows : List (List ℕ)) (inside : List (List ℕ)) (seen : List ℕ) (fallen : Lit) (number index : ℕ) → seen ≡ get_or inside number [] → number ≡ code fallen → inside ≡ rows → index < length (get_or rows (code fallen) [])
    → get_or seen index 0 ≡ get_or (get_or rows (code fallen) []) index (get_or seen index 0)
place_is rows inside seen fallen number index is named same low =
    let there : seen ≡ get_or rows (code fallen) [] = is ∙ ap (λ (k : ℕ). get_or inside k []) named ∙ ap (λ (xs : List (List ℕ)). get_or xs (code fallen) []) same in
    ap (λ (xs : List ℕ). get_or xs index 0) there ∙ get_or_default (get_or rows (code fallen) []) index 0 (get_or seen index 0) low

pub number_inside : (l : Lit) (variables : ℕ) (rows : List (List ℕ)) → l.var.0 < variables → 2 * variables ≤ length rows → code l < length rows
number_inside l variables rows low size = omega (arith, code_below l variables (length rows) (omega (arith, low)) size)

pub entry_is : (rows : List (List ℕ)) (inside : List (List ℕ)) (seen : List ℕ) (fallen : Lit) (number index : ℕ) → seen ≡ get_or inside number [] → number ≡ code fallen → inside ≡ rows
    → get_or (get_or rows (code fallen) []) index 0 ≡ get_or seen index 0
entry_is rows inside seen fallen number index is named same =
    sym (ap (λ (xs : List ℕ). get_or xs index 0) (is ∙ ap (λ (k : ℕ). get_or inside k []) named ∙ ap (λ (xs : List (List ℕ)). get_or xs (code fallen) []) same))

-- the rows without an entry, which is what stands there
pub dropped_by : (w new : Watching) (fallen : Lit) (index place : ℕ) → new.rows ≡ set w.rows (code fallen) (swap_remove (row_of w fallen) index (get_or (row_of w fallen) index 0)) → new.pairs ≡ w.pairs → new.literals ≡ w.literals → get_or (row_of w fallen) index 0 ≡ place
    → IsDropped w new fallen index place
dropped_by w new fallen index place rows pairs literals is = record {
  literals = literals;
  rows = rows ∙ ap (λ (x : ℕ). set w.rows (code fallen) (swap_remove (row_of w fallen) index x)) is;
  pairs = pairs;
}

-- another literal watches the clause of an entry, and the entry is dropped
pub moved_on : (slots : Slots) (assigned : List Lit) (variables : ℕ) (fallen : Lit) (w mid new : Watching) (queue : List ℕ) (index place : ℕ) (n : NormalConstraint) (p : Pair) (to : Move) → IsFalling slots assigned variables fallen w queue index
    → variable_bound n.terms ≤ variables → IsAt slots w.pairs place n p → IsMoved assigned n p fallen to.pair → IsMoveIn (get_or w.literals place []) p fallen to → IsRewatched w mid place fallen to
    → code fallen < length w.rows → index < length (row_of w fallen) → place ≡ get_or (row_of w fallen) index place
    → new.rows ≡ set mid.rows (code fallen) (swap_remove (row_of mid fallen) index (get_or (row_of mid fallen) index 0)) → new.pairs ≡ mid.pairs → new.literals ≡ mid.literals
    → IsFalling slots assigned variables fallen new queue index
moved_on slots assigned variables fallen w mid new queue index place n p to f within at moves move r number low is rows pairs literals =
    let q : Pair = to.pair in
    let same_row : row_of mid fallen ≡ row_of w fallen =
    ap (λ (xs : List (List ℕ)). get_or xs (code fallen) []) r.rows ∙ row_other w.rows (code q.first) (get_or w.rows (code q.first) [] ++ place ∷ []) fallen (λ e. code_apart q.first fallen moves.not_first (sym e)) in
    let low_mid : index < length (row_of mid fallen) = omega (arith, low, ap (length {A = ℕ}) same_row) in
    let is_mid : place ≡ get_or (row_of mid fallen) index place = is ∙ ap (λ (xs : List ℕ). get_or xs index place) (sym same_row) in
    let entry : get_or (row_of mid fallen) index 0 ≡ place = get_or_default (row_of mid fallen) index 0 place low_mid ∙ sym is_mid in
    dropped slots assigned variables fallen mid new queue index place (rewatched slots assigned variables fallen w mid queue index place n p to f within at moves move r) (omega (arith, number, put_length w.rows mid.rows q.first place r.rows)) low_mid is_mid
    (λ m s found one.
    let now : get_or mid.pairs place None ≡ Some q = ap (λ (xs : List (Option Pair)). get_or xs place None) r.pairs ∙ get_or-set_same w.pairs place (Some q) None (some_there w.pairs place p at.1) in
    not_one (subst (λ (x : Pair). IsOneOf x fallen) (same_some s q (get_or mid.pairs place None) found.1 now) one))
    (dropped_by mid new fallen index place rows pairs literals entry)
  where
    not_one : IsOneOf to.pair fallen → ⊥
    not_one (inl e) = moves.not_first e
    not_one (inr e) = moves.not_second e

-- at first all that a literal watches is ahead
pub falls : (slots : Slots) (assigned : List Lit) (variables : ℕ) (fallen : Lit) (w : Watching) (queue : List ℕ) → AreWatched slots assigned variables w → IsFalling slots assigned variables fallen w queue 0
falls slots assigned variables fallen w queue a = record {
  watched = a;
  handled = λ k n p there pair one.
      let i = a.each k n p there pair in
      inl (ahead_first (row_of w fallen) k (either p fallen (λ l. StandsIn w.rows l k) one i.first i.second));
}
