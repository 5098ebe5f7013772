-- The trail is what chains from what is given lead to, and it is told from where it parts from what is known.
use Rattle.std.proofs.Common.{◌≡◌, ◌∙◌, ◌++◌, ℕ, List, Option, ap, map, subst, take}
use Rattle.linear.specs.declared.term.Lit.{Lit}
use Rattle.normal_form.specs.Normal.{NormalConstraint}
use Rattle.propagate.specs.declared.retrace.Retrace.{Retrace}
use Rattle.propagate.specs.Reach.{told}
use Rattle.ledger.specs.Ledgers.{AreReasons, shown}
use Rattle.watch.proofs.Retraced.{retraced}
use Rattle.watch.proofs.retracing.retrace_over.Goals as goal

pub returns-clause-value : goal.returns-clause-value
returns-clause-value c =
    let new = c.follow.new.ledger in
    let f = c.in_ok-assumed.ensures in
    let kept = c.known_count-kept.result in
    let known = c.args.known.now in
    let rest : List (Lit × Option ℕ) = c.from_vec.result in
    let r : Retrace = record { kept = kept; rest = rest; extent = c.extent_of.result } in
    let reasons = subst (λ (os : List (Option NormalConstraint)). AreReasons (shown os) new.assigned new.reasons) f.slots c.reveal.ensures.reasons in
    let same : told known r ≡ new.assigned =
    ap (λ (ls : List Lit). ls ++ map (λ (p : Lit × Option ℕ). p.0) rest) c.known_count-kept.ensures.same
    ∙ ap (λ (ls : List Lit). take kept ls ++ map (λ (p : Lit × Option ℕ). p.0) rest) c.literals.ensures.assigned
    ∙ ap (λ (ps : List (Lit × Option ℕ)). take kept new.assigned ++ map (λ (p : Lit × Option ℕ). p.0) ps) c.from_vec.ensures
    ∙ c.in_ok-rest.ensures in
    retraced (shown c.args.ledger.now.slots) c.args.given.now known new.assigned new.reasons c.in_ok-assumed.assumed r reasons f.given f.end c.reveal.ensures.once c.reveal.ensures.consistent same c.extent_of.ensures.whole (λ no. c.extent_of.ensures.conflict (told known r) no)
