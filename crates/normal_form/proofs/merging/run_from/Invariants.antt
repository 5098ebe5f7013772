-- The net coefficient so far is that of the terms from the start on, which are all of its variable.
use Rattle.std.proofs.Common.{length, take, get_or, cond, ◌-◌, ◌≡◌, ℕ, Bool, ◌<◌, ◌≤◌, pos, ◌+ℤ◌, unsigned_abs}
use Rattle.linear.specs.declared.term.Term.{Term}
use Rattle.normal_form.specs.NormalOf.{size_sum}
use Rattle.normal_form.specs.Balance.{slopes}
use Rattle.normal_form.proofs.merging.run_from.Given as goal

abbrev pub invariant-loop-end : goal.invariant-loop-end
invariant-loop-end l = record {
  after : l.start < l.end;
  within : l.end ≤ length l.sorted;
  net : (set : ℕ → Bool) → (d : Term) → slopes set (take l.end l.sorted) ≡ slopes set (take l.start l.sorted) +ℤ cond (set ((get_or l.sorted l.start d).var.0)) l.net (pos 0);
  size : unsigned_abs l.net ≤ size_sum (take l.end l.sorted);
}

abbrev pub decreases-loop-end : goal.decreases-loop-end
decreases-loop-end l = length l.sorted - l.end
