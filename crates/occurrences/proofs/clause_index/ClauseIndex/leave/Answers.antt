-- The entries of all terms are taken off.
use Rattle.std.proofs.Common.{◌≡◌, ℕ, List, take, ap, sym, subst, ◌∙◌}
use Rattle.std.proofs.Math.Seq.{take-length}
use Rattle.normal_form.specs.declared.term.NormalTerm.{NormalTerm}
use Rattle.occurrences.specs.Occurrences.{Listed}
use Rattle.occurrences.specs.Occurrences.{HasMore}
use Rattle.occurrences.proofs.clause_index.ClauseIndex.leave.Goals as goal

pub returns-then-place-self-clause-left : goal.returns-then-place-self-clause-left
returns-then-place-self-clause-left c reaches before more =
    let terms : List NormalTerm = c.args.clause.now.terms in
    let all : terms ≡ take c.len.result terms = sym (take-length terms) ∙ ap (λ (k : ℕ). take k terms) (sym c.len.ensures.value) in
    c.leave.ensures.fewer before c.args.place (subst (λ (ts : List NormalTerm). HasMore before c.self.inside.rows c.args.place ts) all (subst (λ (i : Listed). HasMore before i.rows c.args.place terms) (sym c.self.view_is) more))
