use Rattle.std.proofs.Common.{List, true, false, get_or, length, take, refl, sym, subst, ◌∙◌}
use Rattle.std.proofs.lemmas.Bool.{false≢true}
use Rattle.std.proofs.lemmas.List.{take_more, take_all}
use Rattle.linear.specs.declared.term.Lit.{Lit}
use Rattle.solutions.specs.Table.{AreSidesOf}
use Rattle.solutions.proofs.Consistent.{IsApart, side_none, apart_none, apart_more, apart_consistent, listed_at, consistent_agrees}
use Rattle.solutions.proofs.consistency.is_consistent.Goals as goal

abbrev first : Lit
first = record { var = record { 0 = 0 }; negated = false }

pub loop-literal-init : goal.loop-literal-init
loop-literal-init c =
    let count = length c.args.table.now in
    ((side_none count false c.empty.result c.empty.ensures, side_none count true c.empty-2.result c.empty-2.ensures), apart_none c.args.table.now)

pub loop-literal-preserved : goal.loop-literal-preserved
loop-literal-preserved c =
    let at = c.loop-literal in
    let assigned : List Lit = c.args.assigned.now in
    let before = take at.literal-index assigned in
    let more = sym (take_more assigned at.literal-index first c.loop-literal-test.true) in (
      subst (λ xs. AreSidesOf xs (length c.args.table.now) c.agrees.new.beyond.plain c.agrees.new.beyond.negated) more (c.in_ok-agrees.ensures.sides before at.invariant.0),
      subst (λ xs. IsApart c.args.table.now xs) more
          (apart_more c.args.table.now before (get_or assigned at.literal-index first) at.invariant.1 ((c.in_ok-agrees.ensures.agrees before at.invariant.0).0 c.if-not-branch.false)),
    )

pub returns-then-not-branch : goal.returns-then-not-branch
returns-then-not-branch c =
    let at = c.loop-literal in
    let assigned : List Lit = c.args.assigned.now in
    let l = get_or assigned at.literal-index first in (
      λ h. absurd (false≢true h),
      λ consistent. absurd (false≢true (sym c.if-not-branch.true ∙ (c.in_ok-agrees.ensures.agrees (take at.literal-index assigned) at.invariant.0).1
          (consistent_agrees assigned c.args.table.now at.literal-index l c.requires consistent (listed_at at.literal-index assigned first c.loop-literal-test.true)))),
    )

pub returns : goal.returns
returns c =
    let at = c.loop-literal in
    let assigned : List Lit = c.args.assigned.now in
    (λ _. apart_consistent c.args.table.now assigned (subst (λ xs. IsApart c.args.table.now xs) (take_all at.literal-index assigned c.loop-literal-test.false) at.invariant.1), λ _. refl)
