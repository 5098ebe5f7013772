use Rattle.std.proofs.Common.{◌≡◌, ℕ, Option, Some, None, List, [], length, refl, sym, ap, subst, ◌∙◌, arith, if◌then◌else◌}
use Rattle.std.proofs.lemmas.List.Elements.{All-nil}
use Rattle.pb_text.specs.Ahead.{line_of_next}
use Rattle.pb_text.specs.Lexeme.{Lexeme, lexemes}
use Rattle.linear.specs.Limits.{IsTermWithin, IsConstraintWithin, IsWithin}
use Rattle.linear.specs.Opb.{Opb}
use Rattle.opb_read.specs.Kinds.{begins_objective, statements_of}
use Rattle.opb_read.specs.Progress.{Progress, HoldsLimits, Reaches, StopsAt, start_of}
use Rattle.opb_read.specs.Reading.{progress_of}
use Rattle.opb_read.specs.Spots.{is_start}
use Rattle.opb_read.specs.Spells.{problem_of}
use Rattle.opb_read.specs.declared.spot.Spot.{Spot}
use Rattle.opb_read.specs.declared.spot.Spot.TheVariants.{Start}
use Rattle.opb_read.proofs.FaultsDeny.{fault_denies}
use Rattle.opb_read.proofs.Faults.{fault_at, start_holds}
use Rattle.opb_read.proofs.Passing.{passes_holds}
use Rattle.opb_read.proofs.Run.{run, problem_run, passes_run}
use Rattle.opb_read.proofs.Spelled.{spells_text}
use Rattle.opb_read.proofs.Within.{AreNumbersWithin, passes_within}
use Rattle.opb_read.proofs.reading.read.Goals as goal

pub read-requires : goal.read-requires
read-requires c = subst HoldsLimits (sym c.new-reader.ensures.start) (start_holds (begins_objective (lexemes c.args.text.now)))

-- what was read of all tokens, from the start
reached : (tokens : List Lexeme) (s q : Progress) (left : List Lexeme) → s ≡ start_of tokens → left ≡ statements_of tokens → Reaches s left q [] → Reaches (start_of tokens) (statements_of tokens) q []
reached tokens s q left e at r = subst (λ l. Reaches (start_of tokens) l q []) at (subst (λ x. Reaches x left q []) e r)

read_all : (tokens : List Lexeme) (q : Progress) → Reaches (start_of tokens) (statements_of tokens) q [] → q.spot ≡ Start
    → problem_of tokens ≡ Some (record { names = q.names; objective = q.objective; constraints = q.constraints })
read_all tokens q r e =
    problem_run tokens
    ∙ ap (run (start_of tokens)) r.split
    ∙ passes_run r.passed [] (start_of tokens) q r.passes
    ∙ ap (λ (p : Spot). let o : Option Opb = if is_start p then Some (record { names = q.names; objective = q.objective; constraints = q.constraints }) else None in o) e

within_all : (tokens : List Lexeme) (q : Progress) → Reaches (start_of tokens) (statements_of tokens) q [] → AreNumbersWithin (length q.names) q × HoldsLimits q
within_all tokens q r =
    let n = length q.names in
    let holds = start_holds (begins_objective tokens) in (
      passes_within r.passed (start_of tokens) q n r.passes holds (omega arith) (record { objective = tt; constraints = All-nil (IsConstraintWithin n); terms = All-nil (IsTermWithin n); coefficient = omega arith; right = omega arith }),
      passes_holds r.passed (start_of tokens) q holds r.passes,
    )

pub new-requires : goal.new-requires
new-requires c =
    let tokens = lexemes c.args.text.now in
    let q = progress_of c.read.new.self in
    let w = within_all tokens q (reached tokens (progress_of c.new-reader.result) q c.new-reader.result.left c.new-reader.ensures.start c.new-reader.ensures.left c.in-Ok.ensures.all) in
    let names = c.into_names-names.ensures.names in
    let count = w.1.constraints in
    subst (λ (n : List (List ℕ)). IsWithin (record { names = n; objective = q.objective; constraints = q.constraints })) (sym names)
    (record { table = c.into_names-names.ensures.table; variables = c.into_names-names.ensures.few; objective = w.0.objective; count = omega (arith, count); constraints = w.0.constraints })

pub returns-in-Ok-clause-spells : goal.returns-in-Ok-clause-spells
returns-in-Ok-clause-spells c =
    let tokens = lexemes c.args.text.now in
    let q = progress_of c.read.new.self in
    let r = reached tokens (progress_of c.new-reader.result) q c.new-reader.result.left c.new-reader.ensures.start c.new-reader.ensures.left c.in-Ok.ensures.all in
    let same = c.new.ensures ∙ ap (λ n. let p : Opb = record { names = n; objective = q.objective; constraints = q.constraints } in p) c.into_names-names.ensures.names in
    spells_text c.args.text.now tokens _ c.new.result refl (read_all tokens q r c.in-Ok.ensures.closed) same

pub returns-in-Err-clause-line : goal.returns-in-Err-clause-line
returns-in-Err-clause-line c =
    let code = c.in-Err.code in
    let tokens = lexemes c.args.text.now in
    let left = c.read.new.self.left in
    let h = subst (λ l. StopsAt code (start_of tokens) l left) c.new-reader.ensures.left (subst (λ x. StopsAt code x c.new-reader.result.left left) c.new-reader.ensures.start c.in-Err.ensures.stops) in
    fault_at c.args.text.now code c.line-line.result left h (c.line-line.ensures ∙ ap (line_of_next c.args.text.now) c.over.ensures)

pub returns-in-Err-clause-denies : goal.returns-in-Err-clause-denies
returns-in-Err-clause-denies c = fault_denies c.in-Err.code c.args.text.now c.line-line.result (returns-in-Err-clause-line c)
