-- Limits, counted over the tokens of statements and over what was made of them: they are kept by the one where they are by the other.
use Rattle.std.proofs.Common.{◌≡◌, ℕ, ◌+◌, ◌≤◌, Bool, true, false, cond, if◌then◌else◌, Some, List, [], ◌∷◌, ◌++◌, length, refl, sym, ap, subst, ◌∙◌, arith, length-append}
use Rattle.std.specs.Prelude.{All, count_by}
use Rattle.std.proofs.lemmas.List.Elements.{All-nil, All-cons, All-head, All-tail}
use Rattle.std.proofs.lemmas.List.Sums.{sum_by-cons}
use Rattle.pb_text.specs.Lexeme.{Lexeme}
use Rattle.pb_text.specs.declared.kind.Kind.{Kind}
use Rattle.linear.specs.Limits.{most_terms, most_variables, most_constraints}
use Rattle.linear.specs.Table.{with_word}
use Rattle.opb_read.specs.Kinds.{is_literal, is_semicolon}
use Rattle.opb_read.specs.Pieces.{Pieces, pieces}
use Rattle.opb_read.specs.Forms.{names_in}
use Rattle.opb_read.specs.Spots.{next_spot, begun}
use Rattle.opb_read.specs.Progress.{Progress, open_constraint, next_term, at_spot, moved, Passes, HoldsLimits}
use Rattle.opb_read.specs.FaultLine.{is_begun}
use Rattle.opb_read.specs.declared.spot.Spot.{Spot}
use Rattle.opb_read.specs.declared.spot.Spot.TheVariants.{Start}
use Rattle.opb_read.proofs.PiecesOf.{within_piece, end_of_piece}
use Rattle.opb_read.proofs.Run.{of_kind}
use Rattle.opb_read.proofs.Table.{every}
use Rattle.opb_read.proofs.Within.{IsSmall, moved_spot}

abbrev pub literals : List Lexeme → ℕ
literals piece = count_by (λ (t : Lexeme). is_literal t.kind) piece

abbrev pub IsFew : List Lexeme → Type 0
IsFew piece = literals piece ≤ most_terms

pub literals-cons : (t : Lexeme) (ts : List Lexeme) → literals (t ∷ ts) ≡ cond (is_literal t.kind) 1 0 + literals ts
literals-cons t ts = sum_by-cons (λ (x : Lexeme). cond (is_literal x.kind) 1 0) t ts

pub begun-cons : (f : List Lexeme) (others : List (List Lexeme)) → count_by is_begun (f ∷ others) ≡ cond (is_begun f) 1 0 + count_by is_begun others
begun-cons f others = sum_by-cons (λ x. cond (is_begun x) 1 0) f others

-- how many constraints the first piece adds
abbrev pub front : Spot → List Lexeme → ℕ
front Start f = cond (is_begun f) 1 0
front p f = begun p

front-nil : (p : Spot) → front p [] ≡ begun p
front-nil Start = refl
front-nil _ = refl

-- what a row of the table counts
record Counted (s : Progress) (t : Lexeme) (q : Spot) (b : Bool) : Type 0 where
  names : (moved s t q).names ≡ with_word s.names t.kind t.text
  terms : length (moved s t q).terms ≡ (if b then 0 else length s.terms + cond (is_literal t.kind) 1 0)
  constraints : length (moved s t q).constraints ≡ (if b then length s.constraints + begun s.spot else length s.constraints)
  begins : (f : List Lexeme) → (if b then front q f else front s.spot (t ∷ f)) ≡ (if b then cond (is_begun f) 1 0 else front q f)

abbrev Counts : Spot → Kind → Spot → Type 0
Counts p k q = (s : Progress) (t : Lexeme) → Counted (at_spot p s) (of_kind t k) q (is_semicolon k)

counted : (s : Progress) (t : Lexeme) (q : Spot) → next_spot s.spot t.kind ≡ Some q → Counted s t q (is_semicolon t.kind)
counted s t q e = every Counts (record {
  first_term = λ s t. record { names = refl; terms = omega arith; constraints = refl; begins = λ f. refl };
  first_at_least = λ s t. record { names = refl; terms = omega arith; constraints = refl; begins = λ f. refl };
  first_equals = λ s t. record { names = refl; terms = omega arith; constraints = refl; begins = λ f. refl };
  next_term = λ s t. record { names = refl; terms = omega arith; constraints = refl; begins = λ f. refl };
  at_least = λ s t. record { names = refl; terms = omega arith; constraints = refl; begins = λ f. refl };
  equals = λ s t. record { names = refl; terms = omega arith; constraints = refl; begins = λ f. refl };
  literal = λ s t. record { names = refl; terms = length-append s.terms (next_term s t.text ∷ []); constraints = refl; begins = λ f. refl };
  right = λ s t. record { names = refl; terms = omega arith; constraints = refl; begins = λ f. refl };
  end = λ s t. record { names = refl; terms = refl; constraints = length-append s.constraints (open_constraint s ∷ []); begins = λ f. refl };
  objective_first = λ s t. record { names = refl; terms = omega arith; constraints = refl; begins = λ f. refl };
  objective_next = λ s t. record { names = refl; terms = omega arith; constraints = refl; begins = λ f. refl };
  objective_literal = λ s t. record { names = refl; terms = length-append s.terms (next_term s t.text ∷ []); constraints = refl; begins = λ f. refl };
  objective_empty = λ s t. record { names = refl; terms = refl; constraints = omega arith; begins = λ f. refl };
  objective_end = λ s t. record { names = refl; terms = refl; constraints = omega arith; begins = λ f. refl };
}) s.spot t.kind q e s t

-- tokens behind a progress make no count too large
pub record CountsFrom (s : Progress) (passed : List Lexeme) : Type 0 where
  pub variables : length (names_in s.names passed) ≤ most_variables
  pub first : length s.terms + literals (pieces passed).first ≤ most_terms
  pub others : All IsFew (pieces passed).others
  pub constraints : length s.constraints + (front s.spot (pieces passed).first + count_by is_begun (pieces passed).others) ≤ most_constraints

pub counts_nil : (s : Progress) → HoldsLimits s → CountsFrom s []
counts_nil s h = record { variables = h.variables; first = omega (arith, h.terms); others = All-nil IsFew; constraints = omega (arith, h.constraints, front-nil s.spot) }

-- the counts of tokens are those of the first of them, and those behind it
record Same (s : Progress) (t : Lexeme) (q : Spot) (ts : List Lexeme) : Type 0 where
  more : length s.terms ≤ most_terms → CountsFrom (moved s t q) ts → CountsFrom s (t ∷ ts)
  less : CountsFrom s (t ∷ ts) → CountsFrom (moved s t q) ts

same : (s : Progress) (t : Lexeme) (q : Spot) (ts : List Lexeme) → next_spot s.spot t.kind ≡ Some q → (moved s t q).spot ≡ q → Same s t q ts
same s t q ts stands at = by (is_semicolon t.kind) refl (counted s t q stands)
  where
    f : List Lexeme
    f = (pieces ts).first

    o : List (List Lexeme)
    o = (pieces ts).others

    m : Progress
    m = moved s t q

    by : (b : Bool) → is_semicolon t.kind ≡ b → Counted s t q b → Same s t q ts
    by true e c =
        let p = end_of_piece t ts e in
        let begins : front m.spot f ≡ cond (is_begun f) 1 0 = ap (λ x. front x f) at ∙ c.begins f in
        let all = begun-cons f o in
        let none = front-nil s.spot in
        let zero_terms = c.terms in
        let count = c.constraints in
        let names : names_in m.names ts ≡ names_in s.names (t ∷ ts) = ap (λ x. names_in x ts) c.names in
        record {
          more = λ few w.
              let first = w.first in
              let sum = w.constraints in
              let variables = w.variables in
              record {
                variables = omega (arith, variables, ap length names);
                first = subst (λ (x : Pieces). length s.terms + literals x.first ≤ most_terms) (sym p) (omega (arith, few));
                others = subst (λ (x : Pieces). All IsFew x.others) (sym p) (All-cons IsFew f o (omega (arith, zero_terms, first)) w.others);
                constraints = subst (λ (x : Pieces). length s.constraints + (front s.spot x.first + count_by is_begun x.others) ≤ most_constraints) (sym p) (omega (arith, sum, begins, all, none, count));
              };
          less = λ w.
              let few : All IsFew (f ∷ o) = subst (λ (x : Pieces). All IsFew x.others) p w.others in
              let first : literals f ≤ most_terms = All-head IsFew f o few in
              let sum : length s.constraints + (front s.spot [] + count_by is_begun (f ∷ o)) ≤ most_constraints = subst (λ (x : Pieces). length s.constraints + (front s.spot x.first + count_by is_begun x.others) ≤ most_constraints) p w.constraints in
              let variables = w.variables in
              record { variables = omega (arith, variables, ap length names); first = omega (arith, zero_terms, first); others = All-tail IsFew f o few; constraints = omega (arith, sum, begins, all, none, count) };
        }
    by false e c =
        let p = within_piece t ts e in
        let begins : front m.spot f ≡ front s.spot (t ∷ f) = ap (λ x. front x f) at ∙ sym (c.begins f) in
        let all = literals-cons t f in
        let some = c.terms in
        let count = c.constraints in
        let names : names_in m.names ts ≡ names_in s.names (t ∷ ts) = ap (λ x. names_in x ts) c.names in
        record {
          more = λ few w.
              let first = w.first in
              let sum = w.constraints in
              let variables = w.variables in
              record {
                variables = omega (arith, variables, ap length names);
                first = subst (λ (x : Pieces). length s.terms + literals x.first ≤ most_terms) (sym p) (omega (arith, some, all, first));
                others = subst (λ (x : Pieces). All IsFew x.others) (sym p) w.others;
                constraints = subst (λ (x : Pieces). length s.constraints + (front s.spot x.first + count_by is_begun x.others) ≤ most_constraints) (sym p) (omega (arith, sum, begins, count));
              };
          less = λ w.
              let first : length s.terms + literals (t ∷ f) ≤ most_terms = subst (λ (x : Pieces). length s.terms + literals x.first ≤ most_terms) p w.first in
              let sum : length s.constraints + (front s.spot (t ∷ f) + count_by is_begun o) ≤ most_constraints = subst (λ (x : Pieces). length s.constraints + (front s.spot x.first + count_by is_begun x.others) ≤ most_constraints) p w.constraints in
              let variables = w.variables in
              record { variables = omega (arith, variables, ap length names); first = omega (arith, some, all, first); others = subst (λ (x : Pieces). All IsFew x.others) p w.others; constraints = omega (arith, sum, begins, count) };
        }

-- no integer that was passed is too large
pub passes_integers : (passed : List Lexeme) (s q : Progress) → Passes s passed q → All IsSmall passed
passes_integers [] s q h = All-nil IsSmall
passes_integers (t ∷ ts) s q h = All-cons IsSmall t ts h.1.integer (passes_integers ts h.0 q h.2)

-- what was passed, and what is counted behind it
pub passes_counts : (passed more : List Lexeme) (s q : Progress) → HoldsLimits s → Passes s passed q → CountsFrom q more → CountsFrom s (passed ++ more)
passes_counts [] more s q good h w = subst (λ x. CountsFrom x more) h w
passes_counts (t ∷ ts) more s q good h w =
    let r = h.0 in
    let k = same s t r.spot (ts ++ more) h.1.stands (ap (λ (x : Progress). x.spot) (sym h.1.moves)) in
    k.more good.terms (subst (λ x. CountsFrom x (ts ++ more)) h.1.moves (passes_counts ts more r q h.1.counts h.2 w))

passed_counts : (passed more : List Lexeme) (s q : Progress) → Passes s passed q → CountsFrom s (passed ++ more) → CountsFrom q more
passed_counts [] more s q h w = subst (λ x. CountsFrom x more) (sym h) w
passed_counts (t ∷ ts) more s q h w =
    let r = h.0 in
    let k = same s t r.spot (ts ++ more) h.1.stands (ap (λ (x : Progress). x.spot) (sym h.1.moves)) in
    passed_counts ts more r q h.2 (subst (λ x. CountsFrom x (ts ++ more)) (sym h.1.moves) (k.less w))

-- with one token more they are within the limits exactly where the progress behind it is
pub counts_one : (passed : List Lexeme) (t : Lexeme) (p : Spot) (s q : Progress) → HoldsLimits s → HoldsLimits q → Passes s passed q → next_spot q.spot t.kind ≡ Some p → HoldsLimits (moved q t p)
    → CountsFrom s (passed ++ t ∷ [])
counts_one passed t p s q good at h stands k = passes_counts passed (t ∷ []) s q good h ((same q t p [] stands (moved_spot q t p)).more at.terms (counts_nil (moved q t p) k))

pub keeps_one : (passed : List Lexeme) (t : Lexeme) (p : Spot) (s q : Progress) → Passes s passed q → next_spot q.spot t.kind ≡ Some p → CountsFrom s (passed ++ t ∷ []) → HoldsLimits (moved q t p)
keeps_one passed t p s q h stands w =
    let c = (same q t p [] stands (moved_spot q t p)).less (passed_counts passed (t ∷ []) s q h w) in
    let m = moved q t p in
    let first : length m.terms + literals [] ≤ most_terms = c.first in
    let sum : length m.constraints + (front m.spot [] + count_by is_begun []) ≤ most_constraints = c.constraints in
    record { variables = c.variables; terms = omega (arith, first); constraints = omega (arith, sum, front-nil m.spot) }
