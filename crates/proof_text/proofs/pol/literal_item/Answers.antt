use Rattle.std.proofs.Common.{◌≡◌, true, false, ◌∷◌, codes, sym, subst, ◌∙◌, rules, arith}
use Rattle.proof_steps.specs.declared.step.Item.TheVariants as items
use Rattle.proof_text.specs.Words.{is_first}
use Rattle.proof_text.specs.Forms.{are_items, items_of}
use Rattle.proof_text.specs.PartsRead.{Takes}
use Rattle.proof_text.proofs.PolItems.{weakened, axiomatic, passed, not_passed}
use Rattle.proof_text.proofs.pol.literal_item.Goals as goal
use Rattle.proof_text.proofs.pol.literal_item.Goals.{else-not-lit-via-then-not-lit+else-takes_byte, else-not-lit-via-else-not-lit}

pub returns-then-takes_byte : goal.returns-then-takes_byte
returns-then-takes_byte c a k new e =
    let left = c.args.words.now in
    let rest = c.takes_byte.new.self in
    let first : is_first (codes "w") left ≡ true = sym c.takes_byte.ensures.first ∙ c.if-takes_byte.true in
    let sign : c.args.lit.negated ≡ false = first_of (cc, search rules, grind arith) in
    weakened k new a left rest c.args.lit e.literal e.known e.value sign first (passed (codes "w") left rest first c.takes_byte.ensures.left)

pub returns : goal.returns
returns c a k new e =
    let left = c.args.words.now in
    let l = c.args.lit in
    elim c.else-not-lit.branch [
      | else-not-lit-via-then-not-lit+else-takes_byte w ↦
          let none : is_first (codes "w") left ≡ false = sym w.takes_byte.ensures.first ∙ w.if-takes_byte.false in
          let same : c.else-not-lit.words ≡ left = w.words-is ∙ not_passed (codes "w") left _ none w.takes_byte.ensures.left in
          subst (λ ws. Takes are_items items_of k (a ∷ left) (items.Axiom l) new ws) (sym same)
          (axiomatic k new a left l e.literal e.known e.value (λ s. none))
      | else-not-lit-via-else-not-lit w ↦
          let sign : l.negated ≡ true = first_of (cc, search rules, grind arith) in
          subst (λ ws. Takes are_items items_of k (a ∷ left) (items.Axiom l) new ws) (sym w.words-is)
          (axiomatic k new a left l e.literal e.known e.value (λ s. absurd (cc (sym sign ∙ s))))
    ]
