-- What is given stands there and has room, and what assuming it came to.
use Rattle.std.proofs.Common.{◌∙◌, ℕ, ◌<◌, All, List, Option, subst, sym, length}
use Rattle.std.proofs.lemmas.Bool.{false≢true}
use Rattle.std.proofs.lemmas.Result.{IfOk-weaker}
use Rattle.linear.specs.declared.term.Lit.{Lit}
use Rattle.normal_form.specs.Normal.{NormalConstraint}
use Rattle.ledger.proofs.RowPlaces.{on_ok_anyway}
use Rattle.watch.specs.Keeping.{IsAssumed}
use Rattle.ledger.specs.Ledgers.{shown}
use Rattle.watch.proofs.Assuming.{other_end}
use Rattle.watch.proofs.KeptLevels.{firsts_within, kept_given}
use Rattle.watch.proofs.following.follow.Goals as goal

pub returns-in_err-assumed-clause-given : goal.returns-in_err-assumed-clause-given
returns-in_err-assumed-clause-given c =
    let s = c.propagate_kept-fixpoint in
    let p = c.part in
    kept_given s.new.ledger p.new.levels s.new.queue.0 s.new.queue.1 (length p.new.levels.0) c.args.given.now c.reveal.ensures.reasons.as_many p.ensures.first (s.ensures.kept p.new.levels p.ensures.kept)

pub returns-then-not-is_whole-clause-given : goal.returns-then-not-is_whole-clause-given
returns-then-not-is_whole-clause-given c =
    let s = c.propagate_kept-fixpoint in
    let p = c.part in
    kept_given s.new.ledger p.new.levels s.new.queue.0 s.new.queue.1 (length p.new.levels.0) c.args.given.now c.reveal.ensures.reasons.as_many p.ensures.first (s.ensures.kept p.new.levels p.ensures.kept)

pub returns-then-not-is_whole-clause-variables : goal.returns-then-not-is_whole-clause-variables
returns-then-not-is_whole-clause-variables c =
    subst (λ (n : ℕ). All (λ (l : Lit). l.var.0 < n) c.args.given.now) (sym c.propagate_kept-fixpoint.ensures.variables) c.in_ok-part.ensures.variables

pub returns-then-not-is_whole-clause-end : goal.returns-then-not-is_whole-clause-end
returns-then-not-is_whole-clause-end c =
    let s = c.propagate_kept-fixpoint in
    let p = c.part in
    let a = c.in_ok-assumed.assumed in
    let given = c.args.given.now in
    let end = subst (λ (os : List (Option NormalConstraint)). IsAssumed (shown os) p.new.levels.0 s.new.ledger.assigned a) p.ensures.slots (c.in_ok-assumed.ensures.end p.new.levels p.ensures.kept) in
    other_end (shown c.args.ledger.now.slots) p.new.levels.0 given s.new.ledger.assigned a (λ e. false≢true (sym c.if-not-is_whole.true ∙ c.is_whole.ensures.1 e)) (firsts_within p.new.levels.0 given (length p.new.levels.0) p.ensures.first) end

pub assume_rest-answer-requires-clause-variables : goal.assume_rest-answer-requires-clause-variables
assume_rest-answer-requires-clause-variables c =
    subst (λ (n : ℕ). All (λ (l : Lit). l.var.0 < n) c.args.given.now) (sym c.propagate_kept-fixpoint.ensures.variables) c.in_ok-part.ensures.variables

pub returns-clause-variables : goal.returns-clause-variables
returns-clause-variables c =
    let a = c.assume_rest-answer in
    on_ok_anyway a.result (subst (λ (n : ℕ). All (λ (l : Lit). l.var.0 < n) c.args.given.now) (sym (a.ensures.variables ∙ c.propagate_kept-fixpoint.ensures.variables)) c.in_ok-part.ensures.variables)

pub returns-clause-given : goal.returns-clause-given
returns-clause-given c =
    let a = c.assume_rest-answer in
    kept_given a.new.ledger a.new.levels a.new.queue.0 a.new.queue.1 (length a.new.levels.0) c.args.given.now c.reveal-2.ensures.reasons.as_many a.ensures.first a.ensures.kept

pub returns-clause-end : goal.returns-clause-end
returns-clause-end c =
    let a = c.assume_rest-answer in
    let slots = c.propagate_kept-fixpoint.ensures.slots ∙ c.part.ensures.slots in
    IfOk-weaker a.result (IsAssumed (shown c.propagate_kept-fixpoint.new.ledger.slots) c.args.given.now a.new.ledger.assigned) (IsAssumed (shown c.args.ledger.now.slots) c.args.given.now a.new.ledger.assigned)
    (λ r h. subst (λ (os : List (Option NormalConstraint)). IsAssumed (shown os) c.args.given.now a.new.ledger.assigned r) slots h) a.ensures.end
