-- What stands is what stood, with the literal and what the trace tells.
use Rattle.std.proofs.Common.{◌≡◌, List, [], ◌∷◌, ◌++◌, map, refl, sym, ap, subst, ◌∙◌}
use Rattle.linear.specs.declared.term.Lit.{Lit}
use Rattle.propagate.specs.Content.{traced}
use Rattle.propagate.specs.Literals.{IsConsistent, SameLiterals}
use Rattle.search.proofs.Descending.{Stands, last_noted}
use Rattle.search.proofs.Extending.{stands_of_told}
use Rattle.search.proofs.MoreStands.{and_more}
use Rattle.search.proofs.descent.note.Goals as goal

pub returns-clause-end : goal.returns-clause-end
returns-clause-end c live consistent end told =
    let last : Lit = c.args.decided.now.literal in
    let t = c.args.decided.now.trace in
    let before : List Lit = c.args.decisions.now.items in
    let assigned : List Lit = c.args.standing.now.literals in
    let now : List Lit = c.force.new.self.literals in
    let noted = and_more c.args.standing.now c.decide.new.self c.force.new.self (last ∷ []) (map (λ p. p.0) c.as_slice.result.now) c.in_ok-decide.ensures.more c.in_ok-force.ensures.more in
    let more : IsConsistent (assigned ++ last ∷ traced t.forced) → SameLiterals now (assigned ++ last ∷ traced t.forced) =
    subst (λ ps. IsConsistent (assigned ++ last ∷ traced ps) → SameLiterals now (assigned ++ last ∷ traced ps)) c.as_slice.ensures noted in
    subst (λ xs. Stands live xs now t.conflict) (sym c.in_ok-push.ensures.items)
    (stands_of_told live (before ++ last ∷ []) (assigned ++ last ∷ traced t.forced) now t.conflict consistent more
    (last_noted live before assigned (assigned ++ last ∷ traced t.forced) last t end told (λ _. refl)))
