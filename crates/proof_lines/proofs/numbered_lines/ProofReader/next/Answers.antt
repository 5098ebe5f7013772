use Rattle.std.proofs.Common.{◌≡◌, [], length, sym, ap, ◌∙◌}
use Rattle.std.proofs.lemmas.List.{nil_from_length}
use Rattle.std.proofs.lemmas.Bool.Decides.{Decides-eqb}
use Rattle.proof_lines.specs.Lines.{Pending, counting_from}
use Rattle.proof_lines.proofs.LinesParted.{nothing_left}
use Rattle.proof_lines.proofs.numbered_lines.ProofReader.next.Goals as goal

pub returns-clause-line : goal.returns-clause-line
returns-clause-line c =
    let at = c.loop-at.at in
    let none : at.rest.now ≡ [] = nil_from_length at.rest.now ((Decides-eqb (length at.rest.now) 0).0 (sym c.is_empty.ensures ∙ c.loop-at-test.false)) in
    let left : counting_from at.number at.rest.now ≡ [] = ap (counting_from at.number) none ∙ nothing_left at.number in
    (sym (ap (λ (p : Pending). p.lines) c.loop-at.invariant) ∙ left, left)
