-- The clause is legal, and since its variables are the problem's, it can be written.
use Rattle.std.proofs.Common.{ℕ, List, [], ◌∷◌, All, length, map, refl, subst, sym, arith}
use Rattle.std.proofs.lemmas.List.Elements.{All-cons, All-head, All-nil, All-tail}
use Rattle.linear.specs.declared.constraint.Signed.{Signed}
use Rattle.linear.specs.declared.term.Lit.{Lit}
use Rattle.proof_steps.specs.declared.step.Step.TheVariants as kinds
use Rattle.proof_text.specs.Writable.{IsConstraintWritable, IsLitWritable, IsTermWritable}
use Rattle.search.specs.Clause.{negated_clause, opposite_term}
use Rattle.proof_log.specs.Log.{IsLegal, Logbook}
use Rattle.search.proofs.Clauses.{clause_legal}
use Rattle.search.proofs.clause.log_clause.Goals as goal

terms_writable : (count : ℕ) (ls : List Lit) → All (IsLitWritable count) ls → All (IsTermWritable count) (map opposite_term ls)
terms_writable count [] named = All-nil (IsTermWritable count)
terms_writable count (l ∷ ls) named =
    All-cons (IsTermWritable count) (opposite_term l) (map opposite_term ls) (record { coef = omega arith; named = All-head (IsLitWritable count) l ls named })
    (terms_writable count ls (All-tail (IsLitWritable count) l ls named))

clause_writable : (count : ℕ) (ls : List Lit) → All (IsLitWritable count) ls → IsConstraintWritable count (negated_clause ls)
clause_writable count ls named = record { terms = terms_writable count ls named; relation = refl; right = omega arith }

pub learn-requires-clause-legal : goal.learn-requires-clause-legal
learn-requires-clause-legal g c =
    let l : Logbook = c.args.log.now in
    let legal = clause_legal l.state c.args.literals.now c.requires.decisions.consistent c.requires.few c.requires.conflict c.requires.room in
    subst (λ (k : Signed). IsLegal l (kinds.Rup k)) (sym c.in_ok-clause.ensures) legal

pub learn-requires-clause-writable : goal.learn-requires-clause-writable
learn-requires-clause-writable g c =
    let count = length c.args.log.now.problem.names in subst (IsConstraintWritable count) (sym c.in_ok-clause.ensures) (clause_writable count c.args.literals.now c.requires.decisions.named)
