-- Where reading stops, the text has its fault.
use Rattle.std.proofs.Common.{◌≡◌, ℕ, ◌+◌, ◌≤◌, Bool, true, false, ◌&&◌, if◌then◌else◌, is_some, Option, Some, None, List, [], ◌∷◌, ◌++◌, drop, refl, sym, ap, subst, ◌∙◌, arith, append-nil, append_assoc, codes}
use Rattle.std.specs.Prelude.{All, count_by, bytes_eq}
use Rattle.std.proofs.lemmas.List.Elements.{All-cons, All-head, All-tail}
use Rattle.pb_text.specs.Lexeme.{Lexeme, lexemes, lexemes_from, kind_of, kind_of_word}
use Rattle.pb_text.specs.Word.{is_integer, is_literal, is_misspelt}
use Rattle.pb_text.specs.Name.{is_name}
use Rattle.linear.specs.Opb.{Opb}
use Rattle.linear.specs.Limits.{most_terms, most_constraints}
use Rattle.opb_read.specs.Kinds.{begins_objective, statements_of}
use Rattle.opb_read.specs.Pieces.{pieces}
use Rattle.opb_read.specs.Spells.{problem_of}
use Rattle.opb_read.specs.Spots.{next_spot, may_stand}
use Rattle.opb_read.specs.Progress.{Progress, Passes, Refuses, HoldsLimits, StopsAt, at_spot, moved, start_at, start_of}
use Rattle.opb_read.specs.Codes.{Tells, IsForm}
use Rattle.opb_read.specs.FaultLine.{CanGoOn, is_begun, AreCountsWithin, next_token, IsWithinSoFar, IsNoForm, IsTooLarge, IsTooMany, IsCodeThere, line_of_next, spot_behind, IsFaultAt}
use Rattle.opb_read.specs.declared.fault.OpbCode.{OpbCode}
use Rattle.opb_read.specs.declared.spot.Spot.{Spot}
use Rattle.opb_read.specs.declared.spot.Spot.TheVariants.{Start, ObjectiveMark, ObjectiveCoefficient, ObjectiveLiteral, Coefficient, Literal, Relation, RightSide}
use Rattle.opb_read.proofs.CasesOfCodes.{tells_more, form_told}
use Rattle.opb_read.proofs.Passing.{passes_holds}
use Rattle.opb_read.proofs.Run.{run, problem_run, passes_run}
use Rattle.opb_read.proofs.Within.{IsSmall, moved_spot, not_over, not_large}
use Rattle.opb_read.proofs.CountsOfPassed.{IsFew, literals, begun-cons, front, CountsFrom, counts_nil, passes_integers, passes_counts, counts_one, keeps_one}

-- a text that closes what stands open at a spot
abbrev closing_text : Spot → List ℕ
closing_text Start = []
closing_text ObjectiveMark = codes ";"
closing_text ObjectiveCoefficient = codes "x1 ;"
closing_text ObjectiveLiteral = codes ";"
closing_text Coefficient = codes "x1 >= 0 ;"
closing_text Literal = codes ">= 0 ;"
closing_text Relation = codes "0 ;"
closing_text RightSide = codes ";"

closes : (p : Spot) (s : Progress) → is_some (run (at_spot p s) (lexemes (closing_text p))) ≡ true
unfolding lexemes lexemes_from kind_of kind_of_word is_integer is_literal is_misspelt is_name
closes Start s = refl
closes ObjectiveMark s = refl
closes ObjectiveCoefficient s = refl
closes ObjectiveLiteral s = refl
closes Coefficient s = refl
closes Literal s = refl
closes Relation s = refl
closes RightSide s = refl

never : (b : Bool) → b && false ≡ false
never true = refl
never false = refl

-- it begins no objective, nor does it with one token before it
no_mark : (p : Spot) (t : Lexeme) → begins_objective (t ∷ lexemes (closing_text p)) ≡ false
unfolding lexemes lexemes_from kind_of kind_of_word is_integer is_literal is_misspelt is_name
no_mark Start t = refl
no_mark ObjectiveMark t = never (bytes_eq t.text (codes "min"))
no_mark ObjectiveCoefficient t = never (bytes_eq t.text (codes "min"))
no_mark ObjectiveLiteral t = never (bytes_eq t.text (codes "min"))
no_mark Coefficient t = never (bytes_eq t.text (codes "min"))
no_mark Literal t = never (bytes_eq t.text (codes "min"))
no_mark Relation t = never (bytes_eq t.text (codes "min"))
no_mark RightSide t = never (bytes_eq t.text (codes "min"))

start_text : (p : Spot) → begins_objective (lexemes (closing_text p)) ≡ false
unfolding lexemes lexemes_from kind_of kind_of_word is_integer is_literal is_misspelt is_name
start_text Start = refl
start_text ObjectiveMark = refl
start_text ObjectiveCoefficient = refl
start_text ObjectiveLiteral = refl
start_text Coefficient = refl
start_text Literal = refl
start_text Relation = refl
start_text RightSide = refl

-- tokens with the mark of an objective at their front, or with none, and the statements in them
abbrev pub IsFrontOf : Bool → List Lexeme → List Lexeme → Type 0
IsFrontOf false passed before = before ≡ passed
IsFrontOf true passed before = (a : Lexeme) × (b : Lexeme) × (before ≡ a ∷ b ∷ passed) × (begins_objective (a ∷ b ∷ []) ≡ true)

-- more tokens behind them are more statements
front_more : (b : Bool) (passed before : List Lexeme) (more : List Lexeme) → IsFrontOf b passed before → IsFrontOf b (passed ++ more) (before ++ more)
front_more false passed before more h = ap (λ l. l ++ more) h
front_more true passed before more h = (h.0, h.1, ap (λ l. l ++ more) h.2, h.3)

-- with no mark the front is one of no mark
front_begins : (b : Bool) (passed before rest : List Lexeme) → IsFrontOf b passed before → begins_objective (before ++ rest) ≡ b → begins_objective before ≡ b
front_begins true passed before rest h e = ap begins_objective h.2 ∙ h.3
front_begins false passed before rest h e = by before e
  where
    by : (l : List Lexeme) → begins_objective (l ++ rest) ≡ false → begins_objective l ≡ false
    by [] g = refl
    by (t ∷ []) g = refl
    by (t ∷ u ∷ more) g = g

front_next : (b : Bool) (passed before rest : List Lexeme) (t : Lexeme) → IsFrontOf b passed before → rest ≡ t ∷ drop 1 rest → begins_objective (before ++ rest) ≡ b → begins_objective (before ++ t ∷ []) ≡ b
front_next b passed before rest t h at e =
    front_begins b (passed ++ t ∷ []) (before ++ t ∷ []) (drop 1 rest) (front_more b passed before (t ∷ []) h)
    (ap begins_objective (append_assoc before (t ∷ []) (drop 1 rest)) ∙ ap (λ l. begins_objective (before ++ l)) (sym at) ∙ e)

front_closed : (b : Bool) (passed before : List Lexeme) (p : Spot) → IsFrontOf b passed before → begins_objective before ≡ b → begins_objective (before ++ lexemes (closing_text p)) ≡ b
front_closed true passed before p h e = ap (λ l. begins_objective (l ++ lexemes (closing_text p))) h.2 ∙ h.3
front_closed false passed before p h e = by before e
  where
    by : (l : List Lexeme) → begins_objective l ≡ false → begins_objective (l ++ lexemes (closing_text p)) ≡ false
    by [] g = start_text p
    by (t ∷ []) g = no_mark p t
    by (t ∷ u ∷ more) g = g

-- where the statements begin
abbrev pub start : Bool → Progress
start b = start_at (if b then ObjectiveMark else Start)

statements : (b : Bool) (passed tokens : List Lexeme) → IsFrontOf b passed tokens → begins_objective tokens ≡ b → statements_of tokens ≡ passed
statements false passed tokens h e = ap (λ x. if x then drop 2 tokens else tokens) e ∙ h
statements true passed tokens h e = ap (λ x. if x then drop 2 tokens else tokens) e ∙ ap (drop 2) h.2

-- what tokens say, by what was made of the first of them
says : (b : Bool) (passed before more : List Lexeme) (q : Progress) → IsFrontOf b passed before → begins_objective (before ++ more) ≡ b → Passes (start b) passed q → problem_of (before ++ more) ≡ run q more
says b passed before more q h e p =
    problem_run (before ++ more)
    ∙ ap (λ x. run (start x) (statements_of (before ++ more))) e
    ∙ ap (run (start b)) (statements b (passed ++ more) (before ++ more) (front_more b passed before more h) e)
    ∙ passes_run passed more (start b) q p

-- what was passed can go on
goes_on : (b : Bool) (passed before : List Lexeme) (q : Progress) → IsFrontOf b passed before → begins_objective before ≡ b → Passes (start b) passed q → CanGoOn b before
goes_on b passed before q h e p = by (run q (lexemes (closing_text q.spot))) (says b passed before (lexemes (closing_text q.spot)) q h front p) (closes q.spot q)
  where
    front : begins_objective (before ++ lexemes (closing_text q.spot)) ≡ b
    front = front_closed b passed before q.spot h e

    by : (o : Option Opb) → problem_of (before ++ lexemes (closing_text q.spot)) ≡ o → is_some o ≡ true → CanGoOn b before
    by None s k = cc
    by (Some x) s k = record { more = closing_text q.spot; problem = x; says = s; front = front }

-- and with a token that may not stand it cannot
no_form : (b : Bool) (passed before rest : List Lexeme) (q : Progress) → IsFrontOf b passed before → begins_objective (before ++ rest) ≡ b → Passes (start b) passed q → may_stand q.spot rest ≡ false → IsNoForm before rest
no_form b passed before rest q h e p stop more alike = says b passed before more q h (alike.front ∙ e) p ∙ by rest more alike.token stop
  where
    at_end : (o : Bool) → o ≡ false → (let r : Option Opb = if o then Some (record { names = q.names; objective = q.objective; constraints = q.constraints }) else None in r) ≡ None
    at_end false k = refl
    at_end true k = cc

    by : (r m : List Lexeme) → next_token m ≡ next_token r → may_stand q.spot r ≡ false → run q m ≡ None
    by [] [] k g = at_end _ g
    by [] (m ∷ ms) k g = cc
    by (t ∷ ts) [] k g = cc
    by (t ∷ ts) (m ∷ ms) k g = let same : m ≡ t = cc in each (next_spot q.spot m.kind) (ap (λ (x : Lexeme). is_some (next_spot q.spot x.kind)) same ∙ g)
      where
        each : (o : Option Spot) → is_some o ≡ false → (let r : Option Opb = elim o [ None ↦ None | Some x ↦ run (moved q m x) ms ] in r) ≡ None
        each None w = refl
        each (Some x) w = cc

-- the counts of the statements, and of the tokens that they stand in
few_first : (first : List Lexeme) (others : List (List Lexeme)) → All IsFew (first ∷ others) → 0 + literals first ≤ most_terms
few_first first others h = let at : literals first ≤ most_terms = All-head IsFew first others h in omega (arith, at)

abbrev ahead : Bool → List Lexeme → List (List Lexeme)
ahead b l = if b then (pieces l).others else (pieces l).first ∷ (pieces l).others

front_counts : (b : Bool) (first : List Lexeme) (others : List (List Lexeme))
    → 0 + (front (start b).spot first + count_by is_begun others) ≡ count_by is_begun (if b then others else first ∷ others)
front_counts true first others = omega arith
front_counts false first others = omega (arith, begun-cons first others)

pub counts_of : (b : Bool) (tokens : List Lexeme) → begins_objective tokens ≡ b → CountsFrom (start b) (statements_of tokens) → AreCountsWithin tokens
counts_of b tokens e w =
    let l = statements_of tokens in
    let first : 0 + literals (pieces l).first ≤ most_terms = w.first in
    let sum : 0 + (front (start b).spot (pieces l).first + count_by is_begun (pieces l).others) ≤ most_constraints = w.constraints in
    record {
      terms = All-cons IsFew (pieces l).first (pieces l).others (omega (arith, first)) w.others;
      variables = w.variables;
      constraints = subst (λ x. count_by is_begun (ahead x l) ≤ most_constraints) (sym e) (omega (arith, sum, front_counts b (pieces l).first (pieces l).others));
    }

pub of_counts : (b : Bool) (tokens : List Lexeme) → begins_objective tokens ≡ b → AreCountsWithin tokens → CountsFrom (start b) (statements_of tokens)
of_counts b tokens e w =
    let l = statements_of tokens in
    let sum : count_by is_begun (ahead b l) ≤ most_constraints = subst (λ x. count_by is_begun (ahead x l) ≤ most_constraints) e w.constraints in
    record {
      variables = w.variables;
      first = few_first (pieces l).first (pieces l).others w.terms;
      others = All-tail IsFew (pieces l).first (pieces l).others w.terms;
      constraints = omega (arith, sum, front_counts b (pieces l).first (pieces l).others);
    }

pub start_holds : (b : Bool) → HoldsLimits (start b)
start_holds true = record { variables = omega arith; terms = omega arith; constraints = omega arith }
start_holds false = record { variables = omega arith; terms = omega arith; constraints = omega arith }

-- what was passed leads to the spot where it ends
passes_spot : (passed : List Lexeme) (s q : Progress) → Passes s passed q → spot_behind s.spot passed ≡ Some q.spot
passes_spot [] s q h = ap (λ (x : Progress). let p : Option Spot = Some x.spot in p) (sym h)
passes_spot (t ∷ ts) s q h =
    ap (λ (o : Option Spot). let p : Option Spot = elim o [ None ↦ None | Some next ↦ spot_behind next ts ] in p) h.1.stands ∙ passes_spot ts h.0 q h.2

-- a token more, of which the progress is told by the table alone
with_one : (b : Bool) (passed before rest : List Lexeme) (t : Lexeme) (p : Spot) (q : Progress) → IsFrontOf b passed before → rest ≡ t ∷ drop 1 rest → begins_objective (before ++ rest) ≡ b → Passes (start b) passed q
    → next_spot q.spot t.kind ≡ Some p → CanGoOn b (before ++ t ∷ [])
with_one b passed before rest t p q h at e pass stands = by (run (moved q t p) more) says_more (closed_again (moved_spot q t p))
  where
    more : List Lexeme
    more = lexemes (closing_text p)

    closed_again : (moved q t p).spot ≡ p → is_some (run (moved q t p) more) ≡ true
    closed_again g = ap (λ x. is_some (run (moved q t p) (lexemes (closing_text x)))) (sym g) ∙ closes (moved q t p).spot (moved q t p)

    front : begins_objective ((before ++ t ∷ []) ++ more) ≡ b
    front = front_closed b (passed ++ t ∷ []) (before ++ t ∷ []) p (front_more b passed before (t ∷ []) h) (front_next b passed before rest t h at e)

    says_more : problem_of ((before ++ t ∷ []) ++ more) ≡ run (moved q t p) more
    says_more =
        ap problem_of (append_assoc before (t ∷ []) more)
        ∙ says b passed before (t ∷ more) q h (sym (ap begins_objective (append_assoc before (t ∷ []) more)) ∙ front) pass
        ∙ ap (λ (o : Option Spot). let r : Option Opb = elim o [ None ↦ None | Some x ↦ run (moved q t x) more ] in r) stands

    by : (o : Option Opb) → problem_of ((before ++ t ∷ []) ++ more) ≡ o → is_some o ≡ true → CanGoOn b (before ++ t ∷ [])
    by None s k = cc
    by (Some x) s k = record { more = closing_text p; problem = x; says = s; front = front }

-- what is said of a fault, but for its line
record Found (code : OpbCode) (before rest : List Lexeme) : Type 0 where
  begins : CanGoOn (begins_objective (before ++ rest)) before
  within : IsWithinSoFar before
  stops : Tells code (IsNoForm before rest) (IsTooLarge before rest) (IsTooMany before rest)
  code_is : IsForm code → IsCodeThere code before rest

found : (code : OpbCode) (b : Bool) (passed before rest : List Lexeme) (q : Progress) → IsFrontOf b passed before → begins_objective (before ++ rest) ≡ b → Passes (start b) passed q → Refuses code q rest → Found code before rest
found code b passed before rest q h e p stop = record {
  begins = subst (λ x. CanGoOn x before) (sym e) (goes_on b passed before q h here p);
  within = record {
    integers = subst (All IsSmall) (sym all) (passes_integers passed (start b) q p);
    counts = counts_of b before here (subst (CountsFrom (start b)) (append-nil passed ∙ sym all) (passes_counts passed [] (start b) q (start_holds b) p (counts_nil q holds)));
  };
  stops = tells_more code _ _ _ _ _ _
      (λ form. no_form b passed before rest q h e p form.stands)
      (λ large. record {
        token = large.token;
        next = ap next_token large.next;
        integer = large.integer;
        stands = subst (λ x. CanGoOn x (before ++ large.token ∷ [])) (sym e) (with_one b passed before rest large.token large.spot q h large.next e p large.stands);
        counts = counts_of b (before ++ large.token ∷ []) (one large.token large.next) (subst (CountsFrom (start b)) (sym (statements_one large.token large.next)) (counts_one passed large.token large.spot (start b) q (start_holds b) holds p large.stands large.counts));
        none = λ more alike o is w. not_large q rest more o alike.token large (sym (says b passed before more q h (alike.front ∙ e) p) ∙ is) w;
      })
      (λ over. record {
        token = over.token;
        next = ap next_token over.next;
        stands = subst (λ x. CanGoOn x (before ++ over.token ∷ [])) (sym e) (with_one b passed before rest over.token over.spot q h over.next e p over.stands);
        counts = λ w. over.breaks (keeps_one passed over.token over.spot (start b) q p over.stands (subst (CountsFrom (start b)) (statements_one over.token over.next) (of_counts b (before ++ over.token ∷ []) (one over.token over.next) w)));
        none = λ more alike o is w. not_over q rest more o alike.token over (sym (says b passed before more q h (alike.front ∙ e) p) ∙ is) w;
      })
      stop;
  code_is = λ form. record {
    spot = q.spot;
    leads = ap (λ x. spot_behind (if x then ObjectiveMark else Start) (statements_of before)) here ∙ ap (spot_behind (start b).spot) all ∙ passes_spot passed (start b) q p;
    named = (form_told code _ _ _ form stop).named;
  };
}
  where
    here : begins_objective before ≡ b
    here = front_begins b passed before rest h e

    all : statements_of before ≡ passed
    all = statements b passed before h here

    holds : HoldsLimits q
    holds = passes_holds passed (start b) q (start_holds b) p

    one : (t : Lexeme) → rest ≡ t ∷ drop 1 rest → begins_objective (before ++ t ∷ []) ≡ b
    one t at = front_next b passed before rest t h at e

    statements_one : (t : Lexeme) → rest ≡ t ∷ drop 1 rest → statements_of (before ++ t ∷ []) ≡ passed ++ t ∷ []
    statements_one t at = statements b (passed ++ t ∷ []) (before ++ t ∷ []) (front_more b passed before (t ∷ []) h) (one t at)

-- the mark at the front of tokens
mark_of : (tokens : List Lexeme) → begins_objective tokens ≡ true → (a : Lexeme) × (b : Lexeme) × (tokens ≡ a ∷ b ∷ drop 2 tokens) × (begins_objective (a ∷ b ∷ []) ≡ true)
mark_of [] e = cc
mark_of (a ∷ []) e = cc
mark_of (a ∷ b ∷ rest) e = (a, b, refl, e)

-- a fault where reading stops, with the line of the token that stands next there
pub fault_at : (text : List ℕ) (code : OpbCode) (line : ℕ) (rest : List Lexeme) → StopsAt code (start_of (lexemes text)) (statements_of (lexemes text)) rest → line ≡ line_of_next text rest
    → IsFaultAt text code line
fault_at text code line rest h at = by (begins_objective (lexemes text)) refl h.reaches.split h.reaches.passes
  where
    passed : List Lexeme
    passed = h.reaches.passed

    by : (b : Bool) → begins_objective (lexemes text) ≡ b → (if b then drop 2 (lexemes text) else lexemes text) ≡ passed ++ rest → Passes (start b) passed h.last → IsFaultAt text code line
    by false e split p =
        let f = found code false passed passed rest h.last refl (sym (ap begins_objective split) ∙ e) p h.refuses in
        record { before = passed; rest = rest; split = split; begins = f.begins; within = f.within; stops = f.stops; code_is = f.code_is; stands = at }
    by true e split p =
        let two = mark_of (lexemes text) e in
        let f = found code true passed (two.0 ∷ two.1 ∷ passed) rest h.last (two.0, two.1, refl, two.3) two.3 p h.refuses in
        record { before = two.0 ∷ two.1 ∷ passed; rest = rest; split = two.2 ∙ ap (λ l. two.0 ∷ two.1 ∷ l) split; begins = f.begins; within = f.within; stops = f.stops; code_is = f.code_is; stands = at }
