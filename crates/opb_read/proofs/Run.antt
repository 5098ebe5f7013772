-- What a text spells, computed token by token: the automaton with what it has read makes just the problem that the pieces say.
use Rattle.std.proofs.Common.{◌≡◌, ℕ, Bool, true, false, if◌then◌else◌, Option, Some, None, List, [], ◌∷◌, ◌++◌, drop, refl, sym, ap, ◌∙◌, append_assoc, append-nil}
use Rattle.std.specs.Option.{option_map}
use Rattle.pb_text.specs.Lexeme.{Lexeme}
use Rattle.pb_text.specs.Number.{integer_value}
use Rattle.pb_text.specs.Word.{is_negated, name_of}
use Rattle.pb_text.specs.declared.kind.Kind.{Kind}
use Rattle.pb_text.specs.declared.kind.Kind.TheVariants.{Symbol, Integer, Literal as Name}
use Rattle.pb_text.specs.declared.kind.Symbol.TheVariants.{Semicolon, AtLeast, Equals}
use Rattle.linear.specs.declared.term.Term.{Term}
use Rattle.linear.specs.declared.constraint.Signed.{Signed}
use Rattle.linear.specs.Opb.{Opb}
use Rattle.linear.specs.Table.{place_of, with_name}
use Rattle.opb_read.specs.Kinds.{is_integer, is_literal, relation_at, relation_of, begins_objective, statements_of}
use Rattle.opb_read.specs.Pieces.{pieces}
use Rattle.opb_read.specs.Forms.{terms_of, behind_terms, Closing, closing_of, constraint_of, constraints_of, names_in}
use Rattle.opb_read.specs.Spells.{problem_of, decision_problem, optimisation_problem}
use Rattle.opb_read.specs.Spots.{next_spot, is_start}
use Rattle.opb_read.specs.Progress.{Progress, open_constraint, with_coefficient, with_right, with_relation, with_term, closed, at_spot, moved, Passes, start_at, start_of}
use Rattle.opb_read.specs.declared.spot.Spot.{Spot}
use Rattle.opb_read.specs.declared.spot.Spot.TheVariants.{Start, ObjectiveMark, ObjectiveCoefficient, ObjectiveLiteral, Coefficient, Literal, Relation, RightSide}
use Rattle.opb_read.proofs.NumbersOfNames.{number_at_end}

-- the problem at the end of a text, which may end between two statements
abbrev pub finished : Progress → Option Opb
finished s = if is_start s.spot then Some (record { names = s.names; objective = s.objective; constraints = s.constraints }) else None

-- what the tokens ahead make of a progress
abbrev pub run : Progress → List Lexeme → Option Opb
run s [] = finished s
run s (t ∷ ts) = elim (next_spot s.spot t.kind) [ None ↦ None | Some q ↦ run (moved s t q) ts ]

-- the token of this kind
abbrev pub of_kind : Lexeme → Kind → Lexeme
of_kind t k = record t { kind = k }

-- what was read so far, and the constraints in the pieces
abbrev behind : List (List ℕ) → Option (List Term) → List Signed → List Lexeme → List (List Lexeme) → Option Opb
behind names objective done first others = option_map (λ cs. record { names = names; objective = objective; constraints = done ++ cs }) (constraints_of names first others)

-- the constraint that stands open is this one, if it is any, and it is closed
abbrev after : List (List ℕ) → Progress → Option Signed → List (List Lexeme) → Option Opb
after names s c [] = None
after names s c (next ∷ others) = elim c [ None ↦ None | Some x ↦ behind names s.objective (s.constraints ++ x ∷ []) next others ]

abbrev after_objective : List (List ℕ) → Progress → Option (List Term) → List (List Lexeme) → Option Opb
after_objective names s o [] = None
after_objective names s o (next ∷ others) = elim o [ None ↦ None | Some ts ↦ behind names (Some ts) s.constraints next others ]

-- these terms, and the rest of a constraint or of an objective
abbrev rest_of : List (List ℕ) → List Term → List Lexeme → Option Signed
rest_of names ts piece = option_map (λ c. record { terms = ts ++ terms_of names piece; relation = c.relation; right = c.right }) (closing_of (behind_terms piece))

abbrev sum_of : List (List ℕ) → List Term → List Lexeme → Option (List Term)
sum_of names ts piece = elim (behind_terms piece) [ [] ↦ Some (ts ++ terms_of names piece) | a ∷ rest ↦ None ]

-- the term of the last coefficient and of this literal, by all names
abbrev term_at : List (List ℕ) → Progress → Lexeme → Term
term_at names s b = record { coef = s.coefficient; var = record { 0 = place_of names (name_of b.text) }; negated = is_negated b.text }

-- behind a coefficient
abbrev literal_first : {A : Type 0} → (List Term → List Lexeme → Option A) → List (List ℕ) → Progress → List Lexeme → Option A
literal_first form names s [] = None
literal_first form names s (b ∷ rest) = if is_literal b.kind then form (s.terms ++ term_at names s b ∷ []) rest else None

-- behind a relation
abbrev right_first : Progress → List Lexeme → Option Signed
right_first s [] = None
right_first s (b ∷ []) = if is_integer b.kind then Some (open_constraint (with_right s b.text)) else None
right_first s (b ∷ c ∷ rest) = None

abbrev nothing_first : Progress → List Lexeme → Option Signed
nothing_first s [] = Some (open_constraint s)
nothing_first s (b ∷ rest) = None

-- what the pieces ahead make of a progress at a spot
abbrev spelled : Spot → List (List ℕ) → Progress → List Lexeme → List (List Lexeme) → Option Opb
spelled Start names s [] [] = Some (record { names = names; objective = s.objective; constraints = s.constraints })
spelled Start names s first others = after names s (rest_of names s.terms first) others
spelled Literal names s first others = after names s (rest_of names s.terms first) others
spelled Coefficient names s first others = after names s (literal_first (rest_of names) names s first) others
spelled Relation names s first others = after names s (right_first s first) others
spelled RightSide names s first others = after names s (nothing_first s first) others
spelled ObjectiveMark names s first others = after_objective names s (sum_of names s.terms first) others
spelled ObjectiveLiteral names s first others = after_objective names s (sum_of names s.terms first) others
spelled ObjectiveCoefficient names s first others = after_objective names s (literal_first (sum_of names) names s first) others

-- between two statements the constraints follow
onto : (names : List (List ℕ)) (o : Option (List Term)) (done : List Signed) (c : Option Signed) (cs : Option (List Signed))
    → elim c [ None ↦ None | Some x ↦ option_map (λ xs. let p : Opb = record { names = names; objective = o; constraints = (done ++ x ∷ []) ++ xs } in p) cs ]
    ≡ option_map (λ xs. let p : Opb = record { names = names; objective = o; constraints = done ++ xs } in p) (elim c [ None ↦ None | Some x ↦ option_map (λ xs. x ∷ xs) cs ])
onto names o done None cs = refl
onto names o done (Some x) None = refl
onto names o done (Some x) (Some xs) = ap (λ l. let p : Option Opb = Some (record { names = names; objective = o; constraints = l }) in p) (append_assoc done (x ∷ []) xs)

at_start : (names : List (List ℕ)) (s : Progress) (first : List Lexeme) (others : List (List Lexeme)) → s.terms ≡ [] → spelled Start names s first others ≡ behind names s.objective s.constraints first others
at_start names s [] [] e = ap (λ l. let p : Option Opb = Some (record { names = names; objective = s.objective; constraints = l }) in p) (sym (append-nil s.constraints))
at_start names s (t ∷ f) [] e = refl
at_start names s [] (n ∷ os) e = refl
at_start names s (t ∷ f) (n ∷ os) e =
    ap (λ (ts : List Term). after names s (rest_of names ts (t ∷ f)) (n ∷ os)) e
    ∙ onto names s.objective s.constraints (constraint_of names (t ∷ f)) (constraints_of names n os)

at_open : (names : List (List ℕ)) (s : Progress) (t : Lexeme) (f : List Lexeme) (others : List (List Lexeme)) → spelled Start names s (t ∷ f) others ≡ after names s (rest_of names s.terms (t ∷ f)) others
at_open names s t f [] = refl
at_open names s t f (n ∷ os) = refl

after_none : (names : List (List ℕ)) (s : Progress) (others : List (List Lexeme)) → after names s None others ≡ None
after_none names s [] = refl
after_none names s (n ∷ os) = refl

objective_none : (names : List (List ℕ)) (s : Progress) (others : List (List Lexeme)) → after_objective names s None others ≡ None
objective_none names s [] = refl
objective_none names s (n ∷ os) = refl

-- an integer begins the next term
rest_integer : (names : List (List ℕ)) (s : Progress) (t : Lexeme) (f : List Lexeme) → rest_of names s.terms (of_kind t Integer ∷ f) ≡ literal_first (rest_of names) names (with_coefficient s t.text) f
rest_integer names s t [] = refl
rest_integer names s t (b ∷ f) = by (is_literal b.kind) refl
  where
    by : (l : Bool) → is_literal b.kind ≡ l → rest_of names s.terms (of_kind t Integer ∷ b ∷ f) ≡ (if l then rest_of names (s.terms ++ term_at names (with_coefficient s t.text) b ∷ []) f else None)
    by true e = rw e (ap (λ (ts : List Term). option_map (λ (c : Closing). let x : Signed = record { terms = ts; relation = c.relation; right = c.right } in x) (closing_of (behind_terms f))) (sym (append_assoc s.terms (term_at names (with_coefficient s t.text) b ∷ []) (terms_of names f))))
    by false e = rw e (closing f)
      where
        closing : (r : List Lexeme) → option_map (λ (c : Closing). let x : Signed = record { terms = s.terms ++ []; relation = c.relation; right = c.right } in x) (closing_of (of_kind t Integer ∷ b ∷ r)) ≡ None
        closing [] = neither (is_integer b.kind)
          where
            neither : (i : Bool) → option_map (λ (c : Closing). let x : Signed = record { terms = s.terms ++ []; relation = c.relation; right = c.right } in x) (if i then None else None) ≡ None
            neither true = refl
            neither false = refl
        closing (c ∷ r) = refl

sum_integer : (names : List (List ℕ)) (s : Progress) (t : Lexeme) (f : List Lexeme) → sum_of names s.terms (of_kind t Integer ∷ f) ≡ literal_first (sum_of names) names (with_coefficient s t.text) f
sum_integer names s t [] = refl
sum_integer names s t (b ∷ f) = by (is_literal b.kind) refl
  where
    by : (l : Bool) → is_literal b.kind ≡ l → sum_of names s.terms (of_kind t Integer ∷ b ∷ f) ≡ (if l then sum_of names (s.terms ++ term_at names (with_coefficient s t.text) b ∷ []) f else None)
    by true e =
        ap (λ (p : Bool). let o : Option (List Term) = elim (if p then behind_terms f else of_kind t Integer ∷ b ∷ f) [ [] ↦ Some (s.terms ++ (if p then term_at names (with_coefficient s t.text) b ∷ terms_of names f else [])) | a ∷ rest ↦ None ] in o) e
        ∙ ap (λ (ts : List Term). let o : Option (List Term) = elim (behind_terms f) [ [] ↦ Some ts | a ∷ rest ↦ None ] in o) (sym (append_assoc s.terms (term_at names (with_coefficient s t.text) b ∷ []) (terms_of names f)))
    by false e = ap (λ (p : Bool). let o : Option (List Term) = elim (if p then behind_terms f else of_kind t Integer ∷ b ∷ f) [ [] ↦ Some (s.terms ++ terms_of names (of_kind t Integer ∷ b ∷ f)) | a ∷ rest ↦ None ] in o) e

-- another token is no term
other_behind : (t : Lexeme) (f : List Lexeme) → is_integer t.kind ≡ false → behind_terms (t ∷ f) ≡ t ∷ f
other_behind t [] e = refl
other_behind t (b ∷ f) e = rw e refl

other_terms : (names : List (List ℕ)) (t : Lexeme) (f : List Lexeme) → is_integer t.kind ≡ false → terms_of names (t ∷ f) ≡ []
other_terms names t [] e = refl
other_terms names t (b ∷ f) e = rw e refl

closing_none : (t : Lexeme) (f : List Lexeme) → relation_of t.kind ≡ None → closing_of (t ∷ f) ≡ None
closing_none t [] e = refl
closing_none t (b ∷ []) e = rw e (by (is_integer b.kind))
  where
    by : (i : Bool) → (let o : Option Closing = if i then None else None in o) ≡ None
    by true = refl
    by false = refl
closing_none t (b ∷ c ∷ f) e = refl

rest_none : (names : List (List ℕ)) (ts : List Term) (t : Lexeme) (f : List Lexeme) → is_integer t.kind ≡ false → relation_of t.kind ≡ None → rest_of names ts (t ∷ f) ≡ None
rest_none names ts t f i r = ap (λ (l : List Lexeme). option_map (λ (c : Closing). let x : Signed = record { terms = ts ++ terms_of names (t ∷ f); relation = c.relation; right = c.right } in x) (closing_of l)) (other_behind t f i) ∙ rw (closing_none t f r) refl

sum_none : (names : List (List ℕ)) (ts : List Term) (t : Lexeme) (f : List Lexeme) → is_integer t.kind ≡ false → sum_of names ts (t ∷ f) ≡ None
sum_none names ts t f i = ap (λ (l : List Lexeme). let o : Option (List Term) = elim l [ [] ↦ Some (ts ++ terms_of names (t ∷ f)) | a ∷ rest ↦ None ] in o) (other_behind t f i)

-- a relation ends the sum
rest_relation : (names : List (List ℕ)) (s : Progress) (t : Lexeme) (f : List Lexeme) → is_integer t.kind ≡ false → relation_of t.kind ≡ Some (relation_at t.kind)
    → rest_of names s.terms (t ∷ f) ≡ right_first (with_relation s t.kind) f
rest_relation names s t f i r =
    ap (λ (l : List Lexeme). option_map (λ (c : Closing). let x : Signed = record { terms = s.terms ++ terms_of names (t ∷ f); relation = c.relation; right = c.right } in x) (closing_of l)) (other_behind t f i)
    ∙ ap (λ (ts : List Term). option_map (λ (c : Closing). let x : Signed = record { terms = ts; relation = c.relation; right = c.right } in x) (closing_of (t ∷ f))) (ap (λ (ts : List Term). s.terms ++ ts) (other_terms names t f i) ∙ append-nil s.terms)
    ∙ by f
  where
    by : (l : List Lexeme) → option_map (λ (c : Closing). let x : Signed = record { terms = s.terms; relation = c.relation; right = c.right } in x) (closing_of (t ∷ l)) ≡ right_first (with_relation s t.kind) l
    by [] = refl
    by (b ∷ []) = rw r (each (is_integer b.kind))
      where
        each : (n : Bool) → option_map (λ (c : Closing). let x : Signed = record { terms = s.terms; relation = c.relation; right = c.right } in x) (if n then Some (record { relation = relation_at t.kind; right = integer_value b.text }) else None)
            ≡ (if n then Some (open_constraint (with_right (with_relation s t.kind) b.text)) else None)
        each true = refl
        each false = refl
    by (b ∷ c ∷ l) = refl

-- what the tokens behind one make of each progress
abbrev Runs : List (List ℕ) → List Lexeme → Type 0
Runs names ts = (q : Spot) (s : Progress) → names_in s.names ts ≡ names → run (at_spot q s) ts ≡ spelled q names s (pieces ts).first (pieces ts).others

-- a literal, whose name has its number for good
a_literal : {A : Type 0} (form : List Term → List Lexeme → Option A) (names : List (List ℕ)) (s : Progress) (t : Lexeme) (ts f : List Lexeme) → names_in (with_name s.names (name_of t.text)) ts ≡ names
    → form (with_term s t.text).terms f ≡ literal_first form names s (of_kind t Name ∷ f)
a_literal form names s t ts f e =
    let number : place_of names (name_of t.text) ≡ place_of s.names (name_of t.text) = ap (λ (l : List (List ℕ)). place_of l (name_of t.text)) (sym e) ∙ (number_at_end s.names (name_of t.text) ts).0 in
    ap (λ (n : ℕ). form (s.terms ++ record { coef = s.coefficient; var = record { 0 = n }; negated = is_negated t.text } ∷ []) f) (sym number)

-- a `;` between two statements of which the next begins
closes : (names : List (List ℕ)) (s : Progress) (ts : List Lexeme) → s.terms ≡ [] → names_in s.names ts ≡ names → Runs names ts
    → run (at_spot Start s) ts ≡ behind names s.objective s.constraints (pieces ts).first (pieces ts).others
closes names s ts e n ih = ih Start s n ∙ at_start names s (pieces ts).first (pieces ts).others e

right_end : (names : List (List ℕ)) (s : Progress) (t : Lexeme) (f : List Lexeme) (others : List (List Lexeme)) → after names (with_right s t.text) (nothing_first (with_right s t.text) f) others ≡ after names s (right_first s (of_kind t Integer ∷ f)) others
right_end names s t [] [] = refl
right_end names s t [] (n ∷ os) = refl
right_end names s t (b ∷ f) [] = refl
right_end names s t (b ∷ f) (n ∷ os) = refl

right_none : (names : List (List ℕ)) (s : Progress) (t : Lexeme) (f : List Lexeme) (others : List (List Lexeme)) → is_integer t.kind ≡ false → None ≡ after names s (right_first s (t ∷ f)) others
right_none names s t [] others e = sym (ap (λ (i : Bool). after names s (if i then Some (open_constraint (with_right s t.text)) else None) others) e ∙ after_none names s others)
right_none names s t (b ∷ f) others e = sym (after_none names s others)

-- behind one token
one : (p : Spot) (k : Kind) (t : Lexeme) (ts : List Lexeme) (s : Progress) (names : List (List ℕ)) → names_in s.names (of_kind t k ∷ ts) ≡ names → Runs names ts
    → run (at_spot p s) (of_kind t k ∷ ts) ≡ spelled p names s (pieces (of_kind t k ∷ ts)).first (pieces (of_kind t k ∷ ts)).others
one Start (Symbol Semicolon) t ts s names e ih = refl
one Start Integer t ts s names e ih = ih Coefficient (with_coefficient s t.text) e ∙ ap (λ c. after names s c (pieces ts).others) (sym (rest_integer names s t (pieces ts).first)) ∙ sym (at_open names s (of_kind t Integer) (pieces ts).first (pieces ts).others)
one Start (Symbol AtLeast) t ts s names e ih = ih Relation (with_relation s (Symbol AtLeast)) e ∙ ap (λ c. after names s c (pieces ts).others) (sym (rest_relation names s (of_kind t (Symbol AtLeast)) (pieces ts).first refl refl)) ∙ sym (at_open names s (of_kind t (Symbol AtLeast)) (pieces ts).first (pieces ts).others)
one Start (Symbol Equals) t ts s names e ih = ih Relation (with_relation s (Symbol Equals)) e ∙ ap (λ c. after names s c (pieces ts).others) (sym (rest_relation names s (of_kind t (Symbol Equals)) (pieces ts).first refl refl)) ∙ sym (at_open names s (of_kind t (Symbol Equals)) (pieces ts).first (pieces ts).others)
one Start k t ts s names e ih = sym (at_open names s (of_kind t k) (pieces ts).first (pieces ts).others ∙ ap (λ c. after names s c (pieces ts).others) (rest_none names s.terms (of_kind t k) (pieces ts).first refl refl) ∙ after_none names s (pieces ts).others)
one Literal (Symbol Semicolon) t ts s names e ih = refl
one Literal Integer t ts s names e ih = ih Coefficient (with_coefficient s t.text) e ∙ ap (λ c. after names s c (pieces ts).others) (sym (rest_integer names s t (pieces ts).first))
one Literal (Symbol AtLeast) t ts s names e ih = ih Relation (with_relation s (Symbol AtLeast)) e ∙ ap (λ c. after names s c (pieces ts).others) (sym (rest_relation names s (of_kind t (Symbol AtLeast)) (pieces ts).first refl refl))
one Literal (Symbol Equals) t ts s names e ih = ih Relation (with_relation s (Symbol Equals)) e ∙ ap (λ c. after names s c (pieces ts).others) (sym (rest_relation names s (of_kind t (Symbol Equals)) (pieces ts).first refl refl))
one Literal k t ts s names e ih = sym (ap (λ c. after names s c (pieces ts).others) (rest_none names s.terms (of_kind t k) (pieces ts).first refl refl) ∙ after_none names s (pieces ts).others)
one Coefficient (Symbol Semicolon) t ts s names e ih = refl
one Coefficient Name t ts s names e ih = ih Literal (with_term s t.text) e ∙ ap (λ c. after names s c (pieces ts).others) (a_literal (rest_of names) names s t ts (pieces ts).first e)
one Coefficient k t ts s names e ih = sym (after_none names s (pieces ts).others)
one Relation (Symbol Semicolon) t ts s names e ih = refl
one Relation Integer t ts s names e ih = ih RightSide (with_right s t.text) e ∙ right_end names s t (pieces ts).first (pieces ts).others
one Relation k t ts s names e ih = right_none names s (of_kind t k) (pieces ts).first (pieces ts).others refl
one RightSide (Symbol Semicolon) t ts s names e ih = closes names (closed RightSide s) ts refl e ih
one RightSide k t ts s names e ih = sym (after_none names s (pieces ts).others)
one ObjectiveMark (Symbol Semicolon) t ts s names e ih = closes names (closed ObjectiveMark s) ts refl e ih ∙ ap (λ (l : List Term). behind names (Some l) s.constraints (pieces ts).first (pieces ts).others) (sym (append-nil s.terms))
one ObjectiveMark Integer t ts s names e ih = ih ObjectiveCoefficient (with_coefficient s t.text) e ∙ ap (λ o. after_objective names s o (pieces ts).others) (sym (sum_integer names s t (pieces ts).first))
one ObjectiveMark k t ts s names e ih = sym (ap (λ o. after_objective names s o (pieces ts).others) (sum_none names s.terms (of_kind t k) (pieces ts).first refl) ∙ objective_none names s (pieces ts).others)
one ObjectiveLiteral (Symbol Semicolon) t ts s names e ih = closes names (closed ObjectiveLiteral s) ts refl e ih ∙ ap (λ (l : List Term). behind names (Some l) s.constraints (pieces ts).first (pieces ts).others) (sym (append-nil s.terms))
one ObjectiveLiteral Integer t ts s names e ih = ih ObjectiveCoefficient (with_coefficient s t.text) e ∙ ap (λ o. after_objective names s o (pieces ts).others) (sym (sum_integer names s t (pieces ts).first))
one ObjectiveLiteral k t ts s names e ih = sym (ap (λ o. after_objective names s o (pieces ts).others) (sum_none names s.terms (of_kind t k) (pieces ts).first refl) ∙ objective_none names s (pieces ts).others)
one ObjectiveCoefficient (Symbol Semicolon) t ts s names e ih = refl
one ObjectiveCoefficient Name t ts s names e ih = ih ObjectiveLiteral (with_term s t.text) e ∙ ap (λ o. after_objective names s o (pieces ts).others) (a_literal (sum_of names) names s t ts (pieces ts).first e)
one ObjectiveCoefficient k t ts s names e ih = sym (objective_none names s (pieces ts).others)

at_nothing : (p : Spot) (s : Progress) → finished (at_spot p s) ≡ spelled p s.names s [] []
at_nothing Start s = refl
at_nothing Literal s = refl
at_nothing Coefficient s = refl
at_nothing Relation s = refl
at_nothing RightSide s = refl
at_nothing ObjectiveMark s = refl
at_nothing ObjectiveLiteral s = refl
at_nothing ObjectiveCoefficient s = refl

runs : (ts : List Lexeme) (names : List (List ℕ)) → Runs names ts
runs [] names q s e = at_nothing q s ∙ ap (λ (l : List (List ℕ)). spelled q l s [] []) e
runs (t ∷ ts) names q s e = one q t.kind t ts s names e (runs ts names)

-- tokens say just the problem that their statements make
pub problem_run : (tokens : List Lexeme) → problem_of tokens ≡ run (start_of tokens) (statements_of tokens)
unfolding problem_of
problem_run tokens = by (begins_objective tokens)
  where
    by : (b : Bool)
        → (if b then optimisation_problem (names_in [] (drop 2 tokens)) (pieces (drop 2 tokens)) else decision_problem (names_in [] tokens) (pieces tokens))
        ≡ run (start_at (if b then ObjectiveMark else Start)) (if b then drop 2 tokens else tokens)
    by true = objective (pieces (drop 2 tokens)).others ∙ sym (runs (drop 2 tokens) names ObjectiveMark (start_at ObjectiveMark) refl)
      where
        names : List (List ℕ)
        names = names_in [] (drop 2 tokens)

        piece : List Lexeme
        piece = (pieces (drop 2 tokens)).first

        objective : (o : List (List Lexeme)) → optimisation_problem names (record { first = piece; others = o }) ≡ after_objective names (start_at ObjectiveMark) (sum_of names [] piece) o
        objective [] = refl
        objective (n ∷ os) = refl
    by false =
        sym (at_start (names_in [] tokens) (start_at Start) (pieces tokens).first (pieces tokens).others refl) ∙ sym (runs tokens (names_in [] tokens) Start (start_at Start) refl)

-- what was passed, and what the tokens behind it make of the progress
pub passes_run : (passed more : List Lexeme) (s q : Progress) → Passes s passed q → run s (passed ++ more) ≡ run q more
passes_run [] more s q h = ap (λ (x : Progress). run x more) (sym h)
passes_run (t ∷ ts) more s q h =
    ap (λ (o : Option Spot). let r : Option Opb = elim o [ None ↦ None | Some x ↦ run (moved s t x) (ts ++ more) ] in r) h.1.stands
    ∙ ap (λ (x : Progress). run x (ts ++ more)) (sym h.1.moves)
    ∙ passes_run ts more h.0 q h.2
