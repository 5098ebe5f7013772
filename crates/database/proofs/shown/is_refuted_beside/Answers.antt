use Rattle.std.proofs.Common.{◌≡◌, ℕ, ◌==◌, true, vec_len, List, [], ◌∷◌, ◌++◌, ◌↔◌, length, IfOk, IsTrue, refl, sym, ap, subst, ◌∙◌, append_assoc, arith}
use Rattle.std.proofs.lemmas.Bool.Decides.{nat_tests}
use Rattle.std.proofs.lemmas.List.{append-nil}
use Rattle.std.specs.FinMap as map
use Rattle.normal_form.specs.Normal.{NormalConstraint}
use Rattle.propagate.specs.Chain.{IsRefuted}
use Rattle.database.proofs.shown.is_refuted_beside.Goals as goal

none : (ns : List NormalConstraint) → length ns ≡ 0 → ns ≡ []
none [] h = refl
none (n ∷ ns) h = absurd (omega (arith, h))

zero : (n : ℕ) → (n == 0) ≡ true → n ≡ 0
zero n h = grind (arith, nat_tests)

pub returns-then-is_empty-clause-refuted : goal.returns-then-is_empty-clause-refuted
returns-then-is_empty-clause-refuted g c =
    let live : List NormalConstraint = map.values c.args.database.now.live in
    let alone : (live ++ c.args.beside.now.items) ++ c.args.last ∷ [] ≡ live ++ c.args.last ∷ [] = ap (λ b. (live ++ b) ++ c.args.last ∷ []) (none c.args.beside.now.items (omega (arith, zero (vec_len c.args.beside.now) (sym c.is_empty.ensures ∙ c.if-is_empty.true)))) ∙ ap (λ b. b ++ c.args.last ∷ []) (append-nil live) in
    subst (λ ns. IfOk c.is_refuted_with.result (λ yes. IsTrue yes ↔ IsRefuted ns)) (sym alone) c.is_refuted_with.ensures.refuted

pub returns-clause-refuted : goal.returns-clause-refuted
returns-clause-refuted g c =
    let live : List NormalConstraint = map.values c.args.database.now.live in
    let beside : List NormalConstraint = c.args.beside.now.items in
    let more : c.as_slice.result.now ≡ beside ++ c.args.last ∷ [] = c.as_slice.ensures.value ∙ c.in_ok-push.ensures.items in
    let all : live ++ c.as_slice.result.now ≡ (live ++ beside) ++ c.args.last ∷ [] = ap (λ b. live ++ b) more ∙ sym (append_assoc live beside (c.args.last ∷ [])) in
    subst (λ ns. IsTrue c.in_ok-refuted.field-0 ↔ IsRefuted ns) all c.in_ok-refuted.ensures.refuted
