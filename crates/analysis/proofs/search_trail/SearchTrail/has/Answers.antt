-- A variable beyond all that there is room for is not listed; another one is where its literal is not free.
use Rattle.std.proofs.Common.{◌≡◌, ◌∙◌, true, false, List, ap, not, refl, sym, arith}
use Rattle.linear.specs.declared.term.Lit.{Lit}
use Rattle.propagate.specs.Literals.{among}
use Rattle.analysis.specs.Trails.{TrailState, literals_of}
use Rattle.analysis.proofs.Trails.{by_sign, not_false, standing, unlisted_beyond}
use Rattle.analysis.proofs.search_trail.SearchTrail.has.Goals as goal

pub returns-then-variable-count-clause-stands : goal.returns-then-variable-count-clause-stands
returns-then-variable-count-clause-stands c =
    let t = c.self.inside in
    let v = c.args.variable.0 in
    let same = standing t.trail.0 t.notes.items c.args.self.now.entries c.self.invariant.0 (ap (λ (s : TrailState). s.entries) c.self.view_is) in (
      λ _ s. ap (λ (xs : List Lit). among xs v s) same ∙ unlisted_beyond t.trail.0 t.trail.1 v s c.reveal.ensures.variables (omega (arith, c.if-variable-count.true, c.count.ensures)),
      λ _. refl,
    )

pub returns-clause-stands : goal.returns-clause-stands
returns-clause-stands c =
    let t = c.self.inside in
    let v = c.args.variable.0 in
    let same : literals_of c.args.self.now.entries ≡ t.trail.0 = standing t.trail.0 t.notes.items c.args.self.now.entries c.self.invariant.0 (ap (λ (s : TrailState). s.entries) c.self.view_is) in (
      λ no s. ap (λ (xs : List Lit). among xs v s) same ∙ by_sign t.trail.0 v s (c.leaves_free.ensures.0 (not_false c.leaves_free.result no)).0 (c.leaves_free.ensures.0 (not_false c.leaves_free.result no)).1,
      λ all. ap not (c.leaves_free.ensures.1 (ap (λ (xs : List Lit). among xs v false) (sym same) ∙ all false, ap (λ (xs : List Lit). among xs v true) (sym same) ∙ all true)),
    )
