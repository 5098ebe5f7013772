use Rattle.std.proofs.Common.{◌≡◌, ◌↔◌, inl, inr, List, [], ◌∷◌, ◌++◌, append_assoc, Any, IsTrue, refl, sym, ap, subst, ◌∙◌}
use Rattle.std.proofs.lemmas.Bool.{false≢true}
use Rattle.std.proofs.lemmas.Result.{IfOk-weaker}
use Rattle.std.specs.FinMap as map
use Rattle.normal_form.specs.Normal.{NormalConstraint}
use Rattle.propagate.specs.Chain.{IsRefuted}
use Rattle.substitution.specs.Covering.{Covers}
use Rattle.proof_rules.proofs.ShownHolds.{zero_shown}
use Rattle.database.specs.Database.{Constraints}
use Rattle.proof_rules.specs.Shown.{IsShown}
use Rattle.database.specs.Covered.{HasContradiction}
use Rattle.database.proofs.CoveringShares.{contradiction_refuted}
use Rattle.database.proofs.Showing.{any_right, shown_by_covering}
use Rattle.database.proofs.shown.is_shown.Goals as goal

pub returns-then-degree-eq0-clause-shown : goal.returns-then-degree-eq0-clause-shown
returns-then-degree-eq0-clause-shown g c =
    let n = c.args.constraint.now in
    (λ _. zero_shown (map.values c.args.database.now.live ++ c.args.beside.now.items) n c.degree.ensures.normal.rises (sym c.degree.ensures.value ∙ c.if-degree-eq0.true), λ _. refl)

pub returns-then-is_covered_by-clause-shown : goal.returns-then-is_covered_by-clause-shown
returns-then-is_covered_by-clause-shown g c =
    let live : List NormalConstraint = map.values c.args.database.now.live in
    let P : NormalConstraint → Type 0 = λ e. Covers e c.args.constraint.now in
    (λ _. inl (any_right P live c.args.beside.now.items (subst (Any P) c.as_slice.ensures.value (c.if-is_covered_by.ensures.0 refl))), λ _. refl)

-- no constraint is a contradiction by itself, or they would be refuted
pub is_covered-requires-clause-consistent : goal.is_covered-requires-clause-consistent
is_covered-requires-clause-consistent g c has =
    let live : List NormalConstraint = map.values c.args.database.now.live in
    let beside : List NormalConstraint = c.args.beside.now.items in
    let last : List NormalConstraint = c.in_ok-negation.negation ∷ [] in
    let here : HasContradiction live = subst (λ (d : Constraints). HasContradiction (map.values d.live)) c.is_refuted_beside.ensures.same has in
    false≢true (sym c.if-branch.false ∙ c.in_ok-is_refuted_beside.ensures.refuted.1 (subst IsRefuted (sym (append_assoc live beside last)) (contradiction_refuted live (beside ++ last) here)))

pub returns-then-branch-clause-shown : goal.returns-then-branch-clause-shown
returns-then-branch-clause-shown g c =
    (λ _. inr (c.in_ok-negation.negation, c.in_ok-negation.ensures.form, c.in_ok-is_refuted_beside.ensures.refuted.0 c.if-branch.true), λ _. refl)

pub returns-clause-shown : goal.returns-clause-shown
returns-clause-shown g c =
    let n : NormalConstraint = c.args.constraint.now in
    let live : List NormalConstraint = map.values c.args.database.now.live in
    let beside : List NormalConstraint = c.args.beside.now.items in
    let P : NormalConstraint → Type 0 = λ e. Covers e n in
    let not_beside : Any P beside → ⊥ = λ a. false≢true (c.if-is_covered_by.ensures.1 (subst (Any P) (sym c.as_slice.ensures.value) a)) in
    let same : map.values c.is_refuted_beside.new.database.live ≡ live = ap (λ (d : Constraints). map.values d.live) c.is_refuted_beside.ensures.same in
    IfOk-weaker c.is_covered.result (λ yes. IsTrue yes ↔ Any P (map.values c.is_refuted_beside.new.database.live)) (λ yes. IsTrue yes ↔ IsShown (live ++ beside) n)
    (λ yes covered. shown_by_covering live beside n c.in_ok-negation.negation c.in_ok-is_refuted_beside.field-0 yes c.degree.ensures.normal.rises c.in_ok-negation.ensures.form
    (λ found. false≢true (sym c.if-branch.false ∙ found)) not_beside c.in_ok-is_refuted_beside.ensures.refuted (subst (λ ns. IsTrue yes ↔ Any P ns) same covered))
    c.is_covered.ensures.covered
