-- What is read of a piece is what it writes, and what it writes is read.
use Rattle.std.proofs.Common.{◌≡◌, ℕ, ℤ, Bool, true, false, ◌&&◌, if◌then◌else◌, Some, None, List, [], ◌∷◌, ◌++◌, append-nil, refl, sym, ap, subst, ◌∙◌}
use Rattle.std.specs.Prelude.{Option}
use Rattle.std.specs.Option.{option_map}
use Rattle.pb_text.specs.Lexeme.{Lexeme}
use Rattle.pb_text.specs.Number.{integer_value}
use Rattle.pb_text.specs.declared.kind.Kind.{Kind}
use Rattle.pb_text.specs.declared.kind.Kind.TheVariants as kinds
use Rattle.pb_text.specs.declared.kind.Symbol.TheVariants as symbols
use Rattle.linear.specs.declared.term.Term.{Term}
use Rattle.linear.specs.declared.constraint.Signed.{Signed}
use Rattle.linear.specs.declared.constraint.Relation.{Relation}
use Rattle.linear.specs.declared.constraint.Relation.TheVariants as relations
use Rattle.opb_read.specs.Kinds.{is_integer, is_literal, relation_of}
use Rattle.opb_read.specs.Forms.{is_term, term_of, terms_of, behind_terms, objective_of, Closing, closing_of, constraint_of}
use Rattle.opb_read.specs.Written.{WritesInteger, WritesLiteral, WritesSum, WritesConstraint, relation_kind}

both_true : (a b : Bool) → (a && b) ≡ true → (a ≡ true) × (b ≡ true)
both_true true b h = (refl, h)
both_true false b h = absurd (cc h)

integer_is : (k : Kind) → is_integer k ≡ true → k ≡ kinds.Integer
integer_is kinds.Integer h = refl
integer_is kinds.Literal h = absurd (cc h)
integer_is kinds.Stray h = absurd (cc h)
integer_is kinds.Misspelt h = absurd (cc h)
integer_is kinds.Other h = absurd (cc h)
integer_is (kinds.Symbol s) h = absurd (cc h)

literal_is : (k : Kind) → is_literal k ≡ true → k ≡ kinds.Literal
literal_is kinds.Literal h = refl
literal_is kinds.Integer h = absurd (cc h)
literal_is kinds.Stray h = absurd (cc h)
literal_is kinds.Misspelt h = absurd (cc h)
literal_is kinds.Other h = absurd (cc h)
literal_is (kinds.Symbol s) h = absurd (cc h)

relation_is : (k : Kind) (r : Relation) → relation_of k ≡ Some r → k ≡ relation_kind r
relation_is kinds.Integer r h = absurd (cc h)
relation_is kinds.Literal r h = absurd (cc h)
relation_is kinds.Stray r h = absurd (cc h)
relation_is kinds.Misspelt r h = absurd (cc h)
relation_is kinds.Other r h = absurd (cc h)
relation_is (kinds.Symbol symbols.Semicolon) r h = absurd (cc h)
relation_is (kinds.Symbol symbols.Colon) r h = absurd (cc h)
relation_is (kinds.Symbol symbols.AtLeast) r h = let e : relations.AtLeast ≡ r = cc in ap relation_kind e
relation_is (kinds.Symbol symbols.AtMost) r h = absurd (cc h)
relation_is (kinds.Symbol symbols.Equals) r h = let e : relations.Equal ≡ r = cc in ap relation_kind e
relation_is (kinds.Symbol symbols.Arrow) r h = absurd (cc h)

relation_again : (r : Relation) → relation_of (relation_kind r) ≡ Some r
relation_again relations.AtLeast = refl
relation_again relations.Equal = refl

relation_no_integer : (r : Relation) → is_integer (relation_kind r) ≡ false
relation_no_integer relations.AtLeast = refl
relation_no_integer relations.Equal = refl

-- the terms that are read write what stands before the tokens behind them
record SumRead (names : List (List ℕ)) (piece : List Lexeme) : Type 0 where
  sum : List Lexeme
  parts : piece ≡ sum ++ behind_terms piece
  terms : WritesSum names (terms_of names piece) sum

sum_read : (names : List (List ℕ)) (piece : List Lexeme) → SumRead names piece
sum_read names [] = record { sum = []; parts = refl; terms = tt }
sum_read names (a ∷ []) = record { sum = []; parts = refl; terms = tt }
sum_read names (a ∷ b ∷ rest) = by (is_term a b) refl (sum_read names rest)
  where
    by : (t : Bool) → is_term a b ≡ t → SumRead names rest → SumRead names (a ∷ b ∷ rest)
    by true e after =
        let both = both_true (is_integer a.kind) (is_literal b.kind) e in
        let terms : terms_of names (a ∷ b ∷ rest) ≡ term_of names a b ∷ terms_of names rest = rw e refl in
        let behind : behind_terms (a ∷ b ∷ rest) ≡ behind_terms rest = rw e refl in
        let first : WritesInteger (integer_value a.text) a = record { kind = integer_is a.kind both.0; value = refl } in
        let second : WritesLiteral names (term_of names a b) b = record { kind = literal_is b.kind both.1; name = refl; sign = refl } in
        record {
          sum = a ∷ b ∷ after.sum;
          parts = ap (λ (l : List Lexeme). a ∷ b ∷ l) (after.parts ∙ ap (λ (l : List Lexeme). after.sum ++ l) (sym behind));
          terms = subst (λ (ts : List Term). WritesSum names ts (a ∷ b ∷ after.sum)) (sym terms) (first, second, after.terms);
        }
    by false e after =
        let terms : terms_of names (a ∷ b ∷ rest) ≡ [] = rw e refl in
        let behind : behind_terms (a ∷ b ∷ rest) ≡ a ∷ b ∷ rest = rw e refl in
        record { sum = []; parts = sym behind; terms = subst (λ (ts : List Term). WritesSum names ts []) (sym terms) tt }

-- what writes terms, in front of tokens that begin none, is read as those terms
record IsReadAs (names : List (List ℕ)) (ts : List Term) (tokens rest : List Lexeme) : Type 0 where
  terms : terms_of names tokens ≡ ts
  behind : behind_terms tokens ≡ rest

same_term : (names : List (List ℕ)) (t : Term) (a b : Lexeme) → WritesInteger t.coef a → WritesLiteral names t b → term_of names a b ≡ t
same_term names t a b i l =
    ap (λ (n : ℤ). let u : Term = record { coef = n; var = (term_of names a b).var; negated = (term_of names a b).negated } in u) i.value
    ∙ ap (λ (n : ℕ). let u : Term = record { coef = t.coef; var = record { 0 = n }; negated = (term_of names a b).negated } in u) l.name
    ∙ ap (λ (s : Bool). let u : Term = record { coef = t.coef; var = t.var; negated = s } in u) l.sign

sum_written : (names : List (List ℕ)) (ts : List Term) (sum rest : List Lexeme) → terms_of names rest ≡ [] → behind_terms rest ≡ rest → WritesSum names ts sum → IsReadAs names ts (sum ++ rest) rest
sum_written names [] [] rest none all w = record { terms = none; behind = all }
sum_written names [] (a ∷ sum) rest none all w = absurd w
sum_written names (t ∷ ts) [] rest none all w = absurd w
sum_written names (t ∷ ts) (a ∷ []) rest none all w = absurd w
sum_written names (t ∷ ts) (a ∷ b ∷ sum) rest none all w =
    let after : IsReadAs names ts (sum ++ rest) rest = sum_written names ts sum rest none all w.2 in
    let e : is_term a b ≡ true = rw (w.0.kind, w.1.kind) refl in
    let terms : terms_of names (a ∷ b ∷ (sum ++ rest)) ≡ term_of names a b ∷ terms_of names (sum ++ rest) = rw e refl in
    let behind : behind_terms (a ∷ b ∷ (sum ++ rest)) ≡ behind_terms (sum ++ rest) = rw e refl in
    record {
      terms = terms ∙ ap (λ (u : Term). u ∷ terms_of names (sum ++ rest)) (same_term names t a b w.0 w.1) ∙ ap (λ (us : List Term). t ∷ us) after.terms;
      behind = behind ∙ after.behind;
    }

-- what closes a constraint, read
record IsClosing (c : Closing) (left : List Lexeme) : Type 0 where
  relation : Lexeme
  right : Lexeme
  parts : left ≡ relation ∷ right ∷ []
  relates : relation.kind ≡ relation_kind c.relation
  number : WritesInteger c.right right

closing_read : (left : List Lexeme) (c : Closing) → closing_of left ≡ Some c → IsClosing c left
closing_read [] c h = absurd (cc h)
closing_read (a ∷ []) c h = absurd (cc h)
closing_read (a ∷ b ∷ d ∷ more) c h = absurd (cc h)
closing_read (a ∷ b ∷ []) c h = by (is_integer b.kind) refl h
  where
    closed : Relation → Closing
    closed r = record { relation = r; right = integer_value b.text }

    of_relation : (r : Option Relation) → relation_of a.kind ≡ r → is_integer b.kind ≡ true → option_map closed r ≡ Some c → IsClosing c (a ∷ b ∷ [])
    of_relation None e i g = absurd (cc g)
    of_relation (Some r) e i g =
        let same : closed r ≡ c = cc in
        subst (λ (d : Closing). IsClosing d (a ∷ b ∷ [])) same
        (record { relation = a; right = b; parts = refl; relates = relation_is a.kind r e; number = record { kind = integer_is b.kind i; value = refl } })

    by : (t : Bool) → is_integer b.kind ≡ t → (if t then option_map closed (relation_of a.kind) else None) ≡ Some c → IsClosing c (a ∷ b ∷ [])
    by true i g = of_relation (relation_of a.kind) refl i g
    by false i g = absurd (cc g)

option_value : {A B : Type 0} (f : A → B) (o : Option A) (y : B) → option_map f o ≡ Some y → (x : A) × (o ≡ Some x) × (f x ≡ y)
option_value f None y h = absurd (cc h)
option_value f (Some x) y h = (x, refl, cc)

pub constraint_read_as : (names : List (List ℕ)) (piece : List Lexeme) (c : Signed) → constraint_of names piece ≡ Some c → WritesConstraint names c piece
constraint_read_as names piece c h =
    let v = option_value (λ (d : Closing). let s : Signed = record { terms = terms_of names piece; relation = d.relation; right = d.right } in s) (closing_of (behind_terms piece)) c h in
    let read : SumRead names piece = sum_read names piece in
    let closing : IsClosing v.0 (behind_terms piece) = closing_read (behind_terms piece) v.0 v.1 in
    subst (λ (s : Signed). WritesConstraint names s piece) v.2
    (record {
      sum = read.sum;
      relation = closing.relation;
      right = closing.right;
      parts = read.parts ∙ ap (λ (l : List Lexeme). read.sum ++ l) closing.parts;
      terms = read.terms;
      relates = closing.relates;
      number = closing.number;
    })

pub constraint_written : (names : List (List ℕ)) (piece : List Lexeme) (c : Signed) → WritesConstraint names c piece → constraint_of names piece ≡ Some c
constraint_written names piece c w =
    let none : is_term w.relation w.right ≡ false = rw (w.relates, relation_no_integer c.relation) refl in
    let rest : List Lexeme = w.relation ∷ w.right ∷ [] in
    let read : IsReadAs names c.terms (w.sum ++ rest) rest = sum_written names c.terms w.sum rest (rw none refl) (rw none refl) w.terms in
    let closing : closing_of rest ≡ Some (record { relation = c.relation; right = c.right }) = rw (w.number.kind, w.relates, relation_again c.relation, w.number.value) refl in
    ap (constraint_of names) w.parts
    ∙ ap (λ (ts : List Term). option_map (λ (d : Closing). let s : Signed = record { terms = ts; relation = d.relation; right = d.right } in s) (closing_of (behind_terms (w.sum ++ rest)))) read.terms
    ∙ ap (λ (l : List Lexeme). option_map (λ (d : Closing). let s : Signed = record { terms = c.terms; relation = d.relation; right = d.right } in s) (closing_of l)) read.behind
    ∙ ap (option_map (λ (d : Closing). let s : Signed = record { terms = c.terms; relation = d.relation; right = d.right } in s)) closing

pub objective_read_as : (names : List (List ℕ)) (piece : List Lexeme) (ts : List Term) → objective_of names piece ≡ Some ts → WritesSum names ts piece
objective_read_as names piece ts h = by (behind_terms piece) refl h
  where
    by : (left : List Lexeme) → behind_terms piece ≡ left → elim left [ [] ↦ Some (terms_of names piece) | a ∷ rest ↦ None ] ≡ Some ts → WritesSum names ts piece
    by [] e g =
        let read : SumRead names piece = sum_read names piece in
        let same : terms_of names piece ≡ ts = cc in
        let parts : piece ≡ read.sum = read.parts ∙ ap (λ (l : List Lexeme). read.sum ++ l) e ∙ append-nil read.sum in
        subst (λ (us : List Term). WritesSum names us piece) same (subst (WritesSum names (terms_of names piece)) (sym parts) read.terms)
    by (a ∷ rest) e g = absurd (cc g)

pub objective_written : (names : List (List ℕ)) (piece : List Lexeme) (ts : List Term) → WritesSum names ts piece → objective_of names piece ≡ Some ts
objective_written names piece ts w =
    let read : IsReadAs names ts (piece ++ []) [] = sum_written names ts piece [] refl refl w in
    let all : piece ++ [] ≡ piece = append-nil piece in
    let behind : behind_terms piece ≡ [] = ap behind_terms (sym all) ∙ read.behind in
    let terms : terms_of names piece ≡ ts = ap (terms_of names) (sym all) ∙ read.terms in
    ap (λ (left : List Lexeme). let o : Option (List Term) = elim left [ [] ↦ Some (terms_of names piece) | a ∷ rest ↦ None ] in o) behind ∙ ap (λ (us : List Term). let o : Option (List Term) = Some us in o) terms
