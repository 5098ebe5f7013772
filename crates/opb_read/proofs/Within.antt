-- Limits, along what is passed: what was passed within them is within them, and in a problem within them no token breaks one.
use Rattle.std.proofs.Common.{◌≡◌, ℕ, ℤ, ◌+◌, ◌<◌, ◌≤◌, Bool, true, false, if◌then◌else◌, Option, Some, None, List, [], ◌∷◌, ◌++◌, length, refl, sym, ap, subst, ◌∙◌, arith, unsigned_abs, length-append}
use Rattle.std.specs.Prelude.{All, IfSome}
use Rattle.std.proofs.lemmas.List.Elements.{All-nil, All-cons, All-head, All-tail, All-push}
use Rattle.pb_text.specs.Lexeme.{Lexeme}
use Rattle.pb_text.specs.Number.{integer_value}
use Rattle.pb_text.specs.Word.{name_of}
use Rattle.pb_text.specs.declared.kind.Kind.{Kind}
use Rattle.pb_text.specs.declared.kind.Kind.TheVariants.{Integer}
use Rattle.linear.specs.declared.term.Term.{Term}
use Rattle.linear.specs.declared.constraint.Signed.{Signed}
use Rattle.linear.specs.declared.constraint.Relation as linear
use Rattle.linear.specs.Opb.{Opb}
use Rattle.linear.specs.Table.{with_name, place_of}
use Rattle.linear.specs.Limits.{largest_integer, most_terms, most_variables, most_constraints, IsTermWithin, IsSumWithin, IsConstraintWithin, IsWithin}
use Rattle.linear.proofs.NumbersOfNames.{with_name-more}
use Rattle.opb_read.specs.Kinds.{IsLargeInteger}
use Rattle.opb_read.specs.Spots.{next_spot, is_start, begun}
use Rattle.opb_read.specs.Progress.{Progress, open_constraint, next_term, with_term, closed, at_spot, moved, HoldsLimits, Step, Passes, IsOver, IsLarge}
use Rattle.opb_read.specs.FaultLine.{next_token}
use Rattle.opb_read.specs.declared.spot.Spot.{Spot}
use Rattle.opb_read.specs.declared.spot.Spot.TheVariants.{Start, ObjectiveMark, ObjectiveCoefficient, ObjectiveLiteral, Coefficient, Literal, Relation, RightSide}
use Rattle.opb_read.proofs.NumbersOfNames.{number_at_end}
use Rattle.opb_read.proofs.Run.{run, of_kind}
use Rattle.opb_read.proofs.Table.{Rows, every}

-- an integer within the limit, or another token
abbrev pub IsSmall : Lexeme → Type 0
IsSmall t = IsLargeInteger t → ⊥

-- all numbers that were read are within the limits, and the variables are of the first so many
pub record AreWithin (n : ℕ) (o : Option (List Term)) (done : List Signed) (ts : List Term) (number bound : ℤ) : Type 0 where
  pub objective : IfSome o (IsSumWithin n)
  pub constraints : All (IsConstraintWithin n) done
  pub terms : All (IsTermWithin n) ts
  pub coefficient : unsigned_abs number ≤ largest_integer
  pub right : unsigned_abs bound ≤ largest_integer

abbrev pub AreNumbersWithin : ℕ → Progress → Type 0
AreNumbersWithin n s = AreWithin n s.objective s.constraints s.terms s.coefficient s.right

small_value : (n : ℤ) → ((largest_integer < unsigned_abs n) → ⊥) → unsigned_abs n ≤ largest_integer
small_value n h = by (unsigned_abs n) h
  where
    by : (k : ℕ) → ((largest_integer < k) → ⊥) → k ≤ largest_integer
    by k g = grind (arith, g)

-- a row of the table keeps them
abbrev Keeps : ℕ → Spot → Kind → Spot → Type 0
Keeps n p k q =
    (s : Progress) (t : Lexeme) → IsSmall (of_kind t k) → length s.terms ≤ most_terms → length (moved (at_spot p s) (of_kind t k) q).names ≤ n → AreNumbersWithin n s
    → AreNumbersWithin n (moved (at_spot p s) (of_kind t k) q)

keeps_term : (n : ℕ) (s : Progress) (t : Lexeme) → length (with_name s.names (name_of t.text)) ≤ n → AreNumbersWithin n s → AreNumbersWithin n (with_term s t.text)
keeps_term n s t few w =
    let small = w.coefficient in
    let below : place_of s.names (name_of t.text) < length (with_name s.names (name_of t.text)) = (number_at_end s.names (name_of t.text) []).1 in
    let last : IsTermWithin n (next_term s t.text) = record { coefficient = small; variable = omega (arith, below, few) } in
    record { objective = w.objective; constraints = w.constraints; terms = All-push (IsTermWithin n) s.terms (next_term s t.text) w.terms last; coefficient = w.coefficient; right = w.right }

keeps : (n : ℕ) → Rows (Keeps n)
keeps n = record {
  first_term = λ s t small few names w. coefficient s t small w;
  first_at_least = λ s t small few names w. w;
  first_equals = λ s t small few names w. w;
  next_term = λ s t small few names w. coefficient s t small w;
  at_least = λ s t small few names w. w;
  equals = λ s t small few names w. w;
  literal = λ s t small few names w. keeps_term n s t names w;
  right = λ s t small few names w. record { objective = w.objective; constraints = w.constraints; terms = w.terms; coefficient = w.coefficient; right = small_value (integer_value t.text) (λ h. small (refl, h)) };
  end = λ s t small few names w.
      let r = w.right in
      let last : IsConstraintWithin n (open_constraint s) = record { sum = record { count = few; each = w.terms }; right = r } in
      record { objective = w.objective; constraints = All-push (IsConstraintWithin n) s.constraints (open_constraint s) w.constraints last; terms = All-nil (IsTermWithin n); coefficient = w.coefficient; right = w.right };
  objective_first = λ s t small few names w. coefficient s t small w;
  objective_next = λ s t small few names w. coefficient s t small w;
  objective_literal = λ s t small few names w. keeps_term n s t names w;
  objective_empty = λ s t small few names w. objective s few w;
  objective_end = λ s t small few names w. objective s few w;
}
  where
    coefficient : (s : Progress) (t : Lexeme) → IsSmall (of_kind t Integer) → AreNumbersWithin n s → AreWithin n s.objective s.constraints s.terms (integer_value t.text) s.right
    coefficient s t small w = record { objective = w.objective; constraints = w.constraints; terms = w.terms; coefficient = small_value (integer_value t.text) (λ h. small (refl, h)); right = w.right }

    objective : (s : Progress) → length s.terms ≤ most_terms → AreNumbersWithin n s → AreWithin n (Some s.terms) s.constraints [] s.coefficient s.right
    objective s few w = record { objective = record { count = few; each = w.terms }; constraints = w.constraints; terms = All-nil (IsTermWithin n); coefficient = w.coefficient; right = w.right }

-- no name is taken away
step_names : (s q : Progress) (t : Lexeme) → Step s t q → length s.names ≤ length q.names
step_names s q t h = subst (λ (x : Progress). length s.names ≤ length x.names) (sym h.moves) (every More (record {
  first_term = same;
  first_at_least = same;
  first_equals = same;
  next_term = same;
  at_least = same;
  equals = same;
  literal = more;
  right = same;
  end = same;
  objective_first = same;
  objective_next = same;
  objective_literal = more;
  objective_empty = same;
  objective_end = same;
}) s.spot t.kind q.spot h.stands s t)
  where
    More : Spot → Kind → Spot → Type 0
    More p k q = (s : Progress) (t : Lexeme) → length s.names ≤ length (moved (at_spot p s) (of_kind t k) q).names

    same : (s : Progress) (t : Lexeme) → length s.names ≤ length s.names
    same s t = omega arith

    more : (s : Progress) (t : Lexeme) → length s.names ≤ length (with_name s.names (name_of t.text))
    more s t = with_name-more s.names (name_of t.text)

passes_names : (xs : List Lexeme) (s q : Progress) → Passes s xs q → length s.names ≤ length q.names
passes_names [] s q h = omega (arith, ap (λ (x : Progress). length x.names) h)
passes_names (t ∷ ts) s q h = omega (arith, step_names s h.0 t h.1, passes_names ts h.0 q h.2)

-- what was passed is within the limits
pub passes_within : (xs : List Lexeme) (s q : Progress) (n : ℕ) → Passes s xs q → HoldsLimits s → length q.names ≤ n → AreNumbersWithin n s → AreNumbersWithin n q
passes_within [] s q n h holds few w = subst (AreNumbersWithin n) (sym h) w
passes_within (t ∷ ts) s q n h holds few w =
    let r = h.0 in
    let names : length r.names ≤ n = omega (arith, few, passes_names ts r q h.2) in
    let next : AreNumbersWithin n (moved s t r.spot) =
    every (Keeps n) (keeps n) s.spot t.kind r.spot h.1.stands s t h.1.integer holds.terms (subst (λ (x : Progress). length x.names ≤ n) h.1.moves names) w in
    passes_within ts r q n h.2 h.1.counts few (subst (AreNumbersWithin n) (sym h.1.moves) next)

-- where the last coefficient, and the right side, belong to what stands open
abbrev has_coefficient : Spot → Bool
has_coefficient Coefficient = true
has_coefficient ObjectiveCoefficient = true
has_coefficient _ = false

abbrev has_right : Spot → Bool
has_right RightSide = true
has_right _ = false

abbrev in_objective : Spot → Bool
in_objective ObjectiveMark = true
in_objective ObjectiveCoefficient = true
in_objective ObjectiveLiteral = true
in_objective _ = false

-- what a problem within the limits says of a progress on the way to it
record IsOnTheWay (n : ℕ) (p : Spot) (s : Progress) : Type 0 where
  variables : length s.names ≤ most_variables
  count : length s.constraints + begun p ≤ most_constraints
  objective : in_objective p ≡ false → IfSome s.objective (IsSumWithin n)
  constraints : All (IsConstraintWithin n) s.constraints
  sum : is_start p ≡ false → IsSumWithin n s.terms
  coefficient : has_coefficient p ≡ true → unsigned_abs s.coefficient ≤ largest_integer
  right : has_right p ≡ true → unsigned_abs s.right ≤ largest_integer

all_front : {A : Type 0} (P : A → Type 0) (xs : List A) (x : A) → All P (xs ++ x ∷ []) → All P xs × P x
all_front P [] x h = (All-nil P, All-head P x [] h)
all_front P (y ∷ xs) x h =
    let rest = all_front P xs x (All-tail P y (xs ++ x ∷ []) h) in
    (All-cons P y xs (All-head P y (xs ++ x ∷ []) h) rest.0, rest.1)

-- a row of the table, the other way round
abbrev Back : ℕ → Spot → Kind → Spot → Type 0
Back n p k q = (s : Progress) (t : Lexeme) → IsOnTheWay n q (moved (at_spot p s) (of_kind t k) q) → IsOnTheWay n p s

-- a token that adds no term
back_same : (n : ℕ) (p q : Spot) (s : Progress) (c : ℤ) (r : linear.Relation) (b : ℤ) → is_start q ≡ false → begun p ≤ begun q → in_objective q ≡ in_objective p → has_coefficient p ≡ false → has_right p ≡ false
    → IsOnTheWay n q (record s { spot = q; coefficient = c; relation = r; right = b }) → IsOnTheWay n p s
back_same n p q s c r b e few same no_number no_right h =
    let count : length s.constraints + begun q ≤ most_constraints = h.count in
    record {
      variables = h.variables;
      count = omega (arith, count, few);
      objective = λ o. h.objective (same ∙ o);
      constraints = h.constraints;
      sum = λ o. h.sum e;
      coefficient = λ o. let both : ◌≡◌ {A = Bool} true false = sym o ∙ no_number in absurd cc;
      right = λ o. let both : ◌≡◌ {A = Bool} true false = sym o ∙ no_right in absurd cc;
    }

back_literal : (n : ℕ) (p q : Spot) (s : Progress) (t : Lexeme) → is_start q ≡ false → begun p ≤ begun q → in_objective q ≡ in_objective p → has_right p ≡ false
    → IsOnTheWay n q (at_spot q (with_term s t.text)) → IsOnTheWay n p s
back_literal n p q s t e few same no_right h =
    let count : length s.constraints + begun q ≤ most_constraints = h.count in
    let variables : length (with_name s.names (name_of t.text)) ≤ most_variables = h.variables in
    let sum : IsSumWithin n (s.terms ++ next_term s t.text ∷ []) = h.sum e in
    let each = all_front (IsTermWithin n) s.terms (next_term s t.text) sum.each in
    let terms : length (s.terms ++ next_term s t.text ∷ []) ≤ most_terms = sum.count in
    let one : length (s.terms ++ next_term s t.text ∷ []) ≡ length s.terms + 1 = length-append s.terms (next_term s t.text ∷ []) in
    record {
      variables = omega (arith, variables, with_name-more s.names (name_of t.text));
      count = omega (arith, count, few);
      objective = λ o. h.objective (same ∙ o);
      constraints = h.constraints;
      sum = λ o. record { count = omega (arith, terms, one); each = each.0 };
      coefficient = λ o. each.1.coefficient;
      right = λ o. let both : ◌≡◌ {A = Bool} true false = sym o ∙ no_right in absurd cc;
    }

back_end : (n : ℕ) (s : Progress) → IsOnTheWay n Start (closed RightSide s) → IsOnTheWay n RightSide s
back_end n s h =
    let all = all_front (IsConstraintWithin n) s.constraints (open_constraint s) h.constraints in
    let count : length (s.constraints ++ open_constraint s ∷ []) + 0 ≤ most_constraints = h.count in
    let one : length (s.constraints ++ open_constraint s ∷ []) ≡ length s.constraints + 1 = length-append s.constraints (open_constraint s ∷ []) in
    record {
      variables = h.variables;
      count = omega (arith, count, one);
      objective = λ o. h.objective refl;
      constraints = all.0;
      sum = λ o. all.1.sum;
      coefficient = λ o. cc;
      right = λ o. all.1.right;
    }

back_objective : (n : ℕ) (p : Spot) (s : Progress) → in_objective p ≡ true → begun p ≡ 0 → has_coefficient p ≡ false → has_right p ≡ false
    → IsOnTheWay n Start (record s { spot = Start; objective = Some s.terms; terms = [] }) → IsOnTheWay n p s
back_objective n p s within none no_number no_right h =
    let count : length s.constraints + 0 ≤ most_constraints = h.count in
    record {
      variables = h.variables;
      count = omega (arith, count, none);
      objective = λ o. let both : ◌≡◌ {A = Bool} true false = sym within ∙ o in absurd cc;
      constraints = h.constraints;
      sum = λ o. h.objective refl;
      coefficient = λ o. let both : ◌≡◌ {A = Bool} true false = sym o ∙ no_number in absurd cc;
      right = λ o. let both : ◌≡◌ {A = Bool} true false = sym o ∙ no_right in absurd cc;
    }

back : (n : ℕ) → Rows (Back n)
back n = record {
  first_term = λ s t h. back_same n Start Coefficient s _ _ _ refl (omega arith) refl refl refl h;
  first_at_least = λ s t h. back_same n Start Relation s _ _ _ refl (omega arith) refl refl refl h;
  first_equals = λ s t h. back_same n Start Relation s _ _ _ refl (omega arith) refl refl refl h;
  next_term = λ s t h. back_same n Literal Coefficient s _ _ _ refl (omega arith) refl refl refl h;
  at_least = λ s t h. back_same n Literal Relation s _ _ _ refl (omega arith) refl refl refl h;
  equals = λ s t h. back_same n Literal Relation s _ _ _ refl (omega arith) refl refl refl h;
  literal = λ s t h. back_literal n Coefficient Literal s t refl (omega arith) refl refl h;
  right = λ s t h. back_same n Relation RightSide s _ _ _ refl (omega arith) refl refl refl h;
  end = λ s t h. back_end n s h;
  objective_first = λ s t h. back_same n ObjectiveMark ObjectiveCoefficient s _ _ _ refl (omega arith) refl refl refl h;
  objective_next = λ s t h. back_same n ObjectiveLiteral ObjectiveCoefficient s _ _ _ refl (omega arith) refl refl refl h;
  objective_literal = λ s t h. back_literal n ObjectiveCoefficient ObjectiveLiteral s t refl (omega arith) refl refl h;
  objective_empty = λ s t h. back_objective n ObjectiveMark s refl refl refl refl h;
  objective_end = λ s t h. back_objective n ObjectiveLiteral s refl refl refl refl h;
}

closed_spot : (p : Spot) (s : Progress) → (closed p s).spot ≡ Start
closed_spot RightSide s = refl
closed_spot _ s = refl

pub moved_spot : (s : Progress) (t : Lexeme) (q : Spot) → (moved s t q).spot ≡ q
moved_spot s t Start = closed_spot s.spot s
moved_spot s t _ = refl

-- a progress from which tokens make a problem within the limits
on_the_way : (ts : List Lexeme) (s : Progress) (o : Opb) → run s ts ≡ Some o → IsWithin o → IsOnTheWay (length o.names) s.spot s
on_the_way [] s o h w = by s.spot refl h
  where
    end : (record { names = s.names; objective = s.objective; constraints = s.constraints }) ≡ o → s.spot ≡ Start → IsOnTheWay (length o.names) s.spot s
    end e g =
        let v : IsWithin (record { names = s.names; objective = s.objective; constraints = s.constraints }) = subst IsWithin (sym e) w in
        let count : length s.constraints ≤ most_constraints = v.count in
        subst (λ (p : Spot). IsOnTheWay (length o.names) p s) (sym g)
        (subst (λ (x : Opb). IsOnTheWay (length x.names) Start s) e
        (record { variables = v.variables; count = omega (arith, count); objective = λ b. v.objective; constraints = v.constraints; sum = λ b. cc; coefficient = λ b. cc; right = λ b. cc }))

    by : (p : Spot) → s.spot ≡ p → (if is_start p then Some (record { names = s.names; objective = s.objective; constraints = s.constraints }) else None) ≡ Some o → IsOnTheWay (length o.names) s.spot s
    by Start g e = let same : ◌≡◌ {A = Opb} (record { names = s.names; objective = s.objective; constraints = s.constraints }) o = cc in end same g
    by Coefficient g e = cc
    by Literal g e = cc
    by Relation g e = cc
    by RightSide g e = cc
    by ObjectiveMark g e = cc
    by ObjectiveCoefficient g e = cc
    by ObjectiveLiteral g e = cc
on_the_way (t ∷ ts) s o h w = by (next_spot s.spot t.kind) refl h (λ q. on_the_way ts (moved s t q) o)
  where
    by : (m : Option Spot) → next_spot s.spot t.kind ≡ m → elim m [ None ↦ None | Some q ↦ run (moved s t q) ts ] ≡ Some o
        → ((q : Spot) → run (moved s t q) ts ≡ Some o → IsWithin o → IsOnTheWay (length o.names) (moved s t q).spot (moved s t q)) → IsOnTheWay (length o.names) s.spot s
    by None e g ih = cc
    by (Some q) e g ih = every (Back (length o.names)) (back (length o.names)) s.spot t.kind q e s t (subst (λ (p : Spot). IsOnTheWay (length o.names) p (moved s t q)) (moved_spot s t q) (ih q g w))

-- so a token that may stand breaks no limit
record Fits (s : Progress) (t : Lexeme) (q : Spot) : Type 0 where
  small : IsSmall t
  counts : HoldsLimits (moved s t q)

abbrev FitsRow : ℕ → Spot → Kind → Spot → Type 0
FitsRow n p k q = (s : Progress) (t : Lexeme) → IsOnTheWay n q (moved (at_spot p s) (of_kind t k) q) → Fits (at_spot p s) (of_kind t k) q

fits : (n : ℕ) → Rows (FitsRow n)
fits n = record {
  first_term = λ s t h. record { small = number t (h.coefficient refl); counts = open_holds n Coefficient _ refl h };
  first_at_least = λ s t h. record { small = λ l. none l.0; counts = open_holds n Relation _ refl h };
  first_equals = λ s t h. record { small = λ l. none l.0; counts = open_holds n Relation _ refl h };
  next_term = λ s t h. record { small = number t (h.coefficient refl); counts = open_holds n Coefficient _ refl h };
  at_least = λ s t h. record { small = λ l. none l.0; counts = open_holds n Relation _ refl h };
  equals = λ s t h. record { small = λ l. none l.0; counts = open_holds n Relation _ refl h };
  literal = λ s t h. record { small = λ l. none l.0; counts = open_holds n Literal _ refl h };
  right = λ s t h. record { small = number t (h.right refl); counts = open_holds n RightSide _ refl h };
  end = λ s t h. record { small = λ l. none l.0; counts = record { variables = h.variables; terms = omega arith; constraints = h.count } };
  objective_first = λ s t h. record { small = number t (h.coefficient refl); counts = open_holds n ObjectiveCoefficient _ refl h };
  objective_next = λ s t h. record { small = number t (h.coefficient refl); counts = open_holds n ObjectiveCoefficient _ refl h };
  objective_literal = λ s t h. record { small = λ l. none l.0; counts = open_holds n ObjectiveLiteral _ refl h };
  objective_empty = λ s t h. record { small = λ l. none l.0; counts = record { variables = h.variables; terms = omega arith; constraints = h.count } };
  objective_end = λ s t h. record { small = λ l. none l.0; counts = record { variables = h.variables; terms = omega arith; constraints = h.count } };
}
  where
    none : ◌≡◌ {A = Bool} false true → ⊥
    none e = absurd cc

    number : (t : Lexeme) → unsigned_abs (integer_value t.text) ≤ largest_integer → IsSmall (of_kind t Integer)
    number t h l = absurd (omega (arith, h, l.1))

    open_holds : (m : ℕ) (q : Spot) (s : Progress) → is_start q ≡ false → IsOnTheWay m q s → HoldsLimits (at_spot q s)
    open_holds m q s e h = record { variables = h.variables; terms = (h.sum e).count; constraints = h.count }

fits_next : (q : Progress) (m : Lexeme) (ms : List Lexeme) (o : Opb) (p : Spot) → run q (m ∷ ms) ≡ Some o → IsWithin o → next_spot q.spot m.kind ≡ Some p → Fits q m p
fits_next q m ms o p h w e =
    let next : run (moved q m p) ms ≡ Some o = ap (λ (x : Option Spot). let r : Option Opb = elim x [ None ↦ None | Some y ↦ run (moved q m y) ms ] in r) (sym e) ∙ h in
    every (FitsRow (length o.names)) (fits (length o.names)) q.spot m.kind p e q m
    (subst (λ (x : Spot). IsOnTheWay (length o.names) x (moved q m p)) (moved_spot q m p) (on_the_way ms (moved q m p) o next w))

pub not_over : (q : Progress) (rest more : List Lexeme) (o : Opb) → next_token more ≡ next_token rest → IsOver q rest → run q more ≡ Some o → IsWithin o → ⊥
not_over q rest [] o e over h w = let none : ◌≡◌ {A = Option Lexeme} None (Some over.token) = e ∙ ap next_token over.next in cc
not_over q rest (m ∷ ms) o e over h w =
    let some : ◌≡◌ {A = Option Lexeme} (Some m) (Some over.token) = e ∙ ap next_token over.next in
    let same : m ≡ over.token = cc in
    let stands : next_spot q.spot m.kind ≡ Some over.spot = ap (λ (x : Lexeme). next_spot q.spot x.kind) same ∙ over.stands in
    over.breaks (subst (λ x. HoldsLimits (moved q x over.spot)) same (fits_next q m ms o over.spot h w stands).counts)

pub not_large : (q : Progress) (rest more : List Lexeme) (o : Opb) → next_token more ≡ next_token rest → IsLarge q rest → run q more ≡ Some o → IsWithin o → ⊥
not_large q rest [] o e large h w = let none : ◌≡◌ {A = Option Lexeme} None (Some large.token) = e ∙ ap next_token large.next in cc
not_large q rest (m ∷ ms) o e large h w =
    let some : ◌≡◌ {A = Option Lexeme} (Some m) (Some large.token) = e ∙ ap next_token large.next in
    let same : m ≡ large.token = cc in
    let stands : next_spot q.spot m.kind ≡ Some large.spot = ap (λ (x : Lexeme). next_spot q.spot x.kind) same ∙ large.stands in
    (fits_next q m ms o large.spot h w stands).small (subst IsLargeInteger (sym same) large.integer)
