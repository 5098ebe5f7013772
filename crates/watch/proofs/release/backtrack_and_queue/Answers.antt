-- One literal fewer, as often as it takes.
use Rattle.std.proofs.Common.{◌∙◌, ℕ, List, Option, ap, sym, subst, length, take, refl, arith}
use Rattle.std.proofs.lemmas.List.{take-take}
use Rattle.std.proofs.Math.Seq.{take-length}
use Rattle.linear.specs.declared.term.Lit.{Lit}
use Rattle.normal_form.specs.Normal.{NormalConstraint}
use Rattle.ledger.specs.Ledgers.{shown}
use Rattle.watch.specs.Looking.{AreLookedAt}
use Rattle.watch.proofs.release.backtrack_and_queue.Goals as goal

pub loop-ledger-init : goal.loop-ledger-init
loop-ledger-init c =
    let old = c.args.ledger.now in
    record {
      slots = refl;
      variables = refl;
      count = refl;
      assigned = sym (take-length old.assigned);
      reasons = sym (ap (λ (n : ℕ). take n old.reasons) (sym c.reveal.ensures.reasons.as_many) ∙ take-length old.reasons);
      long = c.requires.count;
      looked_at = c.requires.looked_at;
    }

pub loop-ledger-preserved : goal.loop-ledger-preserved
loop-ledger-preserved c =
    let old = c.args.ledger.now in
    let cur = c.loop-ledger.ledger in
    let new = c.backtrack_one.new.ledger in
    let i = c.loop-ledger.invariant in
    let t = c.backtrack_one.ensures in
    record {
      slots = t.slots ∙ i.slots;
      variables = t.variables ∙ i.variables;
      count = t.count ∙ i.count;
      assigned = t.assigned ∙ ap (λ (xs : List Lit). take (length new.assigned) xs) i.assigned ∙ take-take (length new.assigned) (length cur.assigned) old.assigned (omega (arith, t.literals));
      reasons = t.reasons ∙ ap (λ (rs : List (Option ℕ)). take (length new.assigned) rs) i.reasons ∙ take-take (length new.assigned) (length cur.assigned) old.reasons (omega (arith, t.literals));
      long = omega (arith, i.long, t.literals, c.len.ensures.value, c.loop-ledger-test.true);
      looked_at = subst (λ (os : List (Option NormalConstraint)). AreLookedAt (shown os) new.propagated c.backtrack_one.new.queue.0) i.slots t.looked_at;
    }
