-- One literal after another, and all in the end.
use Rattle.std.proofs.Common.{◌≡◌, ◌∙◌, ℕ, ◌+◌, ◌++◌, false, List, Option, [], ◌∷◌, ap, get_or, length, subst, sym, take, arith}
use Rattle.std.proofs.Math.Seq.{take-length}
use Rattle.std.proofs.lemmas.Bool.{false≢true}
use Rattle.linear.specs.declared.term.Lit.{Lit}
use Rattle.normal_form.specs.Normal.{NormalConstraint}
use Rattle.watch.specs.Keeping.{IsAssumed}
use Rattle.ledger.specs.Ledgers.{shown}
use Rattle.watch.proofs.Assuming.{other_end}
use Rattle.watch.proofs.KeptLevels.{firsts_within, kept_has, next_first}
use Rattle.watch.proofs.following.assume_rest.Goals as goal

abbrev none : Lit
none = record { var = record { 0 = 0 }; negated = false }

pub returns-then-not-is_whole-clause-end : goal.returns-then-not-is_whole-clause-end
returns-then-not-is_whole-clause-end c =
    let given = c.args.given.now in
    let k = c.loop-index.index in
    let i = c.loop-index.invariant in
    let a = c.in_ok-assumed.assumed in
    let xs : List Lit = c.loop-index.levels.0 ++ get_or given k none ∷ [] in
    let end = subst (λ (os : List (Option NormalConstraint)). IsAssumed (shown os) xs c.assume.new.ledger.assigned a) i.slots c.in_ok-assumed.ensures.end in
    other_end (shown c.args.ledger.now.slots) xs given c.assume.new.ledger.assigned a (λ e. false≢true (sym c.if-not-is_whole.true ∙ c.is_whole.ensures.1 e))
    (firsts_within xs given (k + 1) (next_first c.loop-index.levels.0 given k none (omega arith) i.first)) end

pub returns-clause-end : goal.returns-clause-end
returns-clause-end c =
    let given = c.args.given.now in
    let i = c.loop-index.invariant in
    let last : c.loop-index.index ≡ length given = omega (arith, c.loop-index-test.false, c.requires.short) in
    let all = i.first ∙ ap (λ (n : ℕ). take n given) last ∙ take-length given in
    (kept_has c.loop-index.ledger c.loop-index.levels c.loop-index.queue.0 c.loop-index.queue.1 given all i.kept, i.fixpoint)
