-- Each decision was free in the table of what stood, so it is one more, and a conflict takes it.
use Rattle.std.proofs.Common.{◌≡◌, ◌∙◌, List, length, refl, sym, ap, subst, append-nil, arith}
use Rattle.std.proofs.lemmas.Bool.{false≢true}
use Rattle.linear.specs.declared.term.Lit.{Lit}
use Rattle.propagate.specs.Content.{IsEnd}
use Rattle.proof_rules.specs.State.{constraints}
use Rattle.search.specs.Conflicts.{LeadsAtLast}
use Rattle.search.specs.Standing.{Assigned}
use Rattle.search.specs.Values.{IsFree, IsUnlisted}
use Rattle.search.proofs.Choices.{free_where}
use Rattle.search.proofs.Deciding.{IsNoted, later, noted, unless}
use Rattle.search.proofs.Descending.{far_more, first_taken, told_at}
use Rattle.search.proofs.Taking.{chosen}
use Rattle.search.proofs.descent.decide.Given.{Over}
use Rattle.search.proofs.descent.decide.Goals as goal

pub loop-one-init : goal.loop-one-init
loop-one-init g c = record {
  so_far = sym (append-nil c.args.decisions.now.items);
  named = c.requires.decisions;
  count = c.requires.count;
  end = c.requires.end;
  fresh = λ _. refl;
  fewer = λ low. absurd (omega (arith, low));
}

-- what a turn comes to, where it ends in a conflict, and where it does not
ended : (g : Over) (c : goal.After-drop-decided-then-is_some g) → IsNoted c.args.log.now c.args.decisions.now.items c.note.new.decisions.items c.note.new.standing.literals c.in_ok-conflict.conflict
ended g c =
    let l = c.args.log.now in
    let i = c.loop-one.invariant in
    let items = c.deref-one-items.result.now in
    let d = c.one-item.result in
    let far = i.so_far in
    let told = told_at l.state.live c.args.decisions.now.items c.as_slice.result.now c.loop-one.decisions.items c.in_ok-decided.decided.items items c.loop-one.one-index d c.as_slice.ensures.value c.deref-one-items.ensures.value far c.in_ok-decided.ensures.answer.0 c.loop-one-test.true (sym c.one-item.is) in
    let is = chosen l.state.live c.loop-one.decisions.items c.loop-one.standing.literals c.values.result.now d.literal (length l.problem.names) i.end c.values.ensures.exact
    (c.is_free.ensures.free.0 c.if-not-is_free.false) (c.is_free.ensures.inside c.if-not-is_free.false) (c.values.ensures.count ∙ i.count) i.named.consistent in
    noted l c.args.decisions.now.items c.loop-one.decisions.items c.note.new.decisions.items c.note.new.standing.literals items c.loop-one.one-index d.literal c.in_ok-conflict.conflict is i.named far i.fewer c.in_ok-conflict.ensures.decided
    (c.in_ok-conflict.ensures.end l.state.live is.consistent i.end told)

going : (g : Over) (c : goal.Else-is_some g) → IsNoted c.args.log.now c.args.decisions.now.items c.note.new.decisions.items c.note.new.standing.literals c.in_ok-conflict.conflict
going g c =
    let l = c.args.log.now in
    let i = c.loop-one.invariant in
    let items = c.deref-one-items.result.now in
    let d = c.one-item.result in
    let far = i.so_far in
    let told = told_at l.state.live c.args.decisions.now.items c.as_slice.result.now c.loop-one.decisions.items c.in_ok-decided.decided.items items c.loop-one.one-index d c.as_slice.ensures.value c.deref-one-items.ensures.value far c.in_ok-decided.ensures.answer.0 c.loop-one-test.true (sym c.one-item.is) in
    let is = chosen l.state.live c.loop-one.decisions.items c.loop-one.standing.literals c.values.result.now d.literal (length l.problem.names) i.end c.values.ensures.exact
    (c.is_free.ensures.free.0 c.if-not-is_free.false) (c.is_free.ensures.inside c.if-not-is_free.false) (c.values.ensures.count ∙ i.count) i.named.consistent in
    noted l c.args.decisions.now.items c.loop-one.decisions.items c.note.new.decisions.items c.note.new.standing.literals items c.loop-one.one-index d.literal c.in_ok-conflict.conflict is i.named far i.fewer c.in_ok-conflict.ensures.decided
    (c.in_ok-conflict.ensures.end l.state.live is.consistent i.end told)

pub returns-then-is_some-clause-decisions : goal.returns-then-is_some-clause-decisions
returns-then-is_some-clause-decisions g c = (ended g c).named

pub returns-then-is_some-clause-fewer : goal.returns-then-is_some-clause-fewer
returns-then-is_some-clause-fewer g c = (ended g c).fewer

pub returns-then-is_some-clause-end : goal.returns-then-is_some-clause-end
returns-then-is_some-clause-end g c = (ended g c).end

pub loop-one-preserved : goal.loop-one-preserved
loop-one-preserved g c =
    let i = c.loop-one.invariant in
    let d = c.one-item.result in
    let is = going g c in
    let l = c.args.log.now in
    let after : List Lit = c.note.new.decisions.items in
    let end = unless (IsEnd l.state.live after c.note.new.standing.literals) (λ id. LeadsAtLast (constraints l.state) after) c.in_ok-conflict.conflict (sym c.is_some.ensures ∙ c.if-is_some.false) is.end in
    record {
      so_far = far_more c.args.decisions.now.items c.loop-one.decisions.items c.note.new.decisions.items c.deref-one-items.result.now c.loop-one.one-index d c.loop-one-test.true (sym c.one-item.is) i.so_far c.in_ok-conflict.ensures.decided;
      named = is.named;
      count = c.in_ok-conflict.ensures.count ∙ i.count;
      end = end;
      fresh = λ e. absurd (omega (arith, e));
      fewer = λ _. is.fewer;
    }

pub returns-then-not-is_free-clause-fewer : goal.returns-then-not-is_free-clause-fewer
returns-then-not-is_free-clause-fewer g c =
    let i = c.loop-one.invariant in
    let l = c.args.log.now in
    later (length l.problem.names) c.loop-one.decisions.items c.args.decisions.now.items c.loop-one.one-index
    (λ start.
    let same = first_taken c.args.first c.args.more.now c.in_ok-decided.decided.items c.deref-one-items.result.now c.loop-one.one-index c.one-item.result c.in_ok-decided.ensures.answer.1 c.deref-one-items.ensures.value start (sym c.one-item.is) in
    let unlisted : IsUnlisted c.loop-one.standing.literals c.args.first.var.0 = subst (λ (s : Assigned). IsUnlisted s.literals c.args.first.var.0) (sym (i.fresh start)) c.requires.free in
    let free : IsFree c.values.result.now c.one-item.result.literal.var.0 =
    subst (λ (x : Lit). IsFree c.values.result.now x.var.0) (sym same)
    (free_where c.loop-one.standing.literals c.values.result.now c.args.first.var.0 c.values.ensures.exact (omega (arith, c.requires.inside, c.requires.count, i.count, c.values.ensures.count)) unlisted) in
    false≢true (sym c.if-not-is_free.true ∙ c.is_free.ensures.free.1 free))
    i.fewer
