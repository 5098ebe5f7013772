-- Items at the end of a line.
use Rattle.std.proofs.Common.{◌≡◌, ◌∙◌, ℕ, pos, List, [], ◌∷◌, ◌++◌, ap}
use Rattle.std.proofs.lemmas.List.{append_assoc}
use Rattle.proof_steps.specs.declared.step.Item.{Item}
use Rattle.proof_steps.specs.declared.step.Item.TheVariants as items
use Rattle.analysis.specs.Lines.{BeginsWith, GoesOnFrom}

pub one_more : (before line : List Item) (x : Item) → line ≡ before ++ x ∷ [] → GoesOnFrom before line
one_more before line x e = (x ∷ [], e)

pub two_more : (before right both line : List Item) (x : Item) → both ≡ before ++ right → line ≡ both ++ x ∷ [] → GoesOnFrom before line
two_more before right both line x b e = (right ++ x ∷ [], e ∙ ap (λ (t : List Item). t ++ x ∷ []) b ∙ append_assoc before right (x ∷ []))

pub goes_further : (a b c : List Item) → GoesOnFrom a b → GoesOnFrom b c → GoesOnFrom a c
goes_further a b c p q = (p.0 ++ q.0, q.1 ∙ ap (λ (t : List Item). t ++ q.0) p.1 ∙ append_assoc a p.0 q.0)

pub begins_so : (id : ℕ) (before line : List Item) → BeginsWith id before → GoesOnFrom before line → BeginsWith id line
begins_so id before line p q = (p.0 ++ q.0, q.1 ∙ ap (λ (t : List Item). t ++ q.0) p.1)

pub begins_alone : (id : ℕ) (line : List Item) → line ≡ items.Id (pos id) ∷ [] → BeginsWith id line
begins_alone id line e = ([], e)
