-- What stands is what is told.
use Rattle.std.proofs.Common.{◌≡◌, ◌++◌, ◌∙◌, List, ap, map, subst, sym, take}
use Rattle.linear.specs.declared.term.Lit.{Lit}
use Rattle.propagate.specs.Literals.{IsConsistent, IsOnce, SameLiterals}
use Rattle.propagate.specs.Reach.{told}
use Rattle.proof_rules.specs.State.{constraints}
use Rattle.search.proofs.Extending.{reach_of_told}
use Rattle.search.proofs.retracing.stand.Goals as goal

pub returns-clause-reach : goal.returns-clause-reach
returns-clause-reach g c =
    let r = c.in_ok-retrace.retrace in
    let all : List Lit = told c.literals.result.now r in
    let now : List Lit = c.extend.new.self.literals in
    let same : c.keep.new.self.literals ++ map (λ p. p.0) c.as_slice.result.now ≡ all =
    ap (λ ps. c.keep.new.self.literals ++ map (λ p. p.0) ps) c.as_slice.ensures
    ∙ ap (λ (xs : List Lit). xs ++ map (λ p. p.0) r.rest) (c.keep.ensures.literals ∙ ap (λ (xs : List Lit). take r.kept xs) (sym c.literals.ensures.value)) in
    reach_of_told (constraints c.args.log.now.state) c.args.decisions.now all now r.extent c.in_ok-retrace.ensures.answer
    (subst (λ (xs : List Lit). IsConsistent xs → SameLiterals now xs) same c.in_ok-extend.ensures.more)
    (subst IsOnce c.literals-2.ensures.value c.literals-2.ensures.once)
