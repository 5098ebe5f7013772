use Rattle.std.proofs.Common.{◌≡◌, get_or, take, false, sym, ap, subst, ◌∙◌, arith}
use Rattle.std.proofs.lemmas.List.{take_more}
use Rattle.linear.specs.declared.term.Lit.{Lit}
use Rattle.propagate.specs.Literals.{lists}
use Rattle.search.proofs.Choices.{alike, different, listed_at, unlisted_more}
use Rattle.search.proofs.overtaken.is_listed.Goals as goal

abbrev first : Lit
first = record { var = record { 0 = 0 }; negated = false }

pub loop-listed-preserved : goal.loop-listed-preserved
loop-listed-preserved c =
    let literals = c.args.literals.now in
    let place = c.loop-listed.listed-index in
    let item : Lit = get_or literals place first in
    subst (λ xs. lists xs c.args.literal ≡ false) (sym (take_more literals place first (omega arith)))
    (unlisted_more (take place literals) item c.args.literal c.loop-listed.invariant (different item c.args.literal (sym c.eq.ensures ∙ c.if-eq.false)))

pub returns-then-eq : goal.returns-then-eq
returns-then-eq c =
    let literals = c.args.literals.now in
    let place = c.loop-listed.listed-index in
    let item : Lit = get_or literals place first in
    sym (ap (lists literals) (sym (alike item c.args.literal (sym c.eq.ensures ∙ c.if-eq.true))) ∙ listed_at literals place first (omega arith))
