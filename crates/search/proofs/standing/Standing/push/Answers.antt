-- A literal that the trail refuses has a variable that stands.
use Rattle.std.proofs.Common.{◌≡◌, ◌∙◌, ◌++◌, ◌∷◌, [], List, ap, sym, subst}
use Rattle.linear.specs.declared.term.Lit.{Lit}
use Rattle.propagate.specs.Literals.{SameLiterals, among}
use Rattle.analysis.specs.Trails.{TrailState, literals_of}
use Rattle.search.specs.Standing.{Assigned}
use Rattle.search.proofs.MoreStands.{stands_already}
use Rattle.search.proofs.standing.Standing.push.Goals as goal

pub returns-else-branch-clause-more : goal.returns-else-branch-clause-more
returns-else-branch-clause-more c consistent =
    let l : Lit = c.args.entry.literal in
    let old : List Lit = c.args.self.now.literals in
    let view : literals_of c.self.inside.trail.entries ≡ old = ap (λ (s : Assigned). s.literals) c.self.view_is in
    let same : literals_of c.push.new.self.entries ≡ old = ap (λ (t : TrailState). literals_of t.entries) (c.in_ok-push.ensures.unchanged c.if-branch.false) ∙ view in
    subst (λ (xs : List Lit). SameLiterals xs (old ++ l ∷ [])) (sym same)
    (stands_already old l (λ none. c.in_ok-push.ensures.refused c.if-branch.false (λ s. ap (λ (xs : List Lit). among xs (l.var.0) s) view ∙ none s)) consistent)
