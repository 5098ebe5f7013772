-- What is there is what chains from what is given lead to.
use Rattle.std.proofs.Common.{◌∙◌, List, Option, subst, sym}
use Rattle.std.proofs.lemmas.Bool.{false≢true}
use Rattle.normal_form.specs.Normal.{NormalConstraint}
use Rattle.watch.specs.Keeping.{IsAssumed}
use Rattle.ledger.specs.Ledgers.{AreReasons, shown}
use Rattle.watch.proofs.Assuming.{no_way, whole_end}
use Rattle.watch.proofs.GivenOnes.{reach_of}
use Rattle.watch.proofs.extension.reach_over.Goals as goal

pub returns-then-not-is_whole-clause-value : goal.returns-then-not-is_whole-clause-value
returns-then-not-is_whole-clause-value c =
    let old = c.args.ledger.now in
    let new = c.follow.new.ledger in
    let f = c.in_ok-assumed.ensures in
    let a = c.in_ok-assumed.assumed in
    let reasons = subst (λ (os : List (Option NormalConstraint)). AreReasons (shown os) new.assigned new.reasons) f.slots c.reveal.ensures.reasons in
    no_way (shown old.slots) new.assigned new.reasons c.args.given.now a reasons f.given (λ e. false≢true (sym c.if-not-is_whole.true ∙ c.is_whole.ensures.1 e)) f.end

pub returns-clause-value : goal.returns-clause-value
returns-clause-value c =
    let old = c.args.ledger.now in
    let new = c.follow.new.ledger in
    let f = c.in_ok-assumed.ensures in
    let whole = c.is_whole.ensures.0 c.if-not-is_whole.false in
    let reasons = subst (λ (os : List (Option NormalConstraint)). AreReasons (shown os) new.assigned new.reasons) f.slots c.reveal.ensures.reasons in
    let is = whole_end (shown old.slots) new.assigned new.reasons c.args.given.now reasons f.given (subst (IsAssumed (shown old.slots) c.args.given.now new.assigned) whole f.end) in
    reach_of (shown old.slots) c.args.given.now new.assigned c.from_vec.result (c.from_vec.ensures ∙ c.in_ok-from_slice.ensures.items ∙ c.literals.ensures.assigned) is c.literals.ensures.once c.literals.ensures.consistent
