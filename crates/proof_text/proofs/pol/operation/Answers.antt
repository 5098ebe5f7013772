use Rattle.std.proofs.Common.{◌≡◌, true, false, codes, sym, subst, ◌∙◌}
use Rattle.proof_steps.specs.declared.step.Item.TheVariants as items
use Rattle.proof_text.specs.Words.{is_first}
use Rattle.proof_text.specs.Forms.{are_items, items_of}
use Rattle.proof_text.specs.PartsRead.{Takes}
use Rattle.proof_text.proofs.PolItems.{addition_first, saturation_first, passed, not_passed}
use Rattle.proof_text.proofs.pol.operation.Goals as goal

pub returns-then-takes_byte-clause-takes : goal.returns-then-takes_byte-clause-takes
returns-then-takes_byte-clause-takes c k =
    let left = c.args.words.now in
    let first : is_first (codes "+") left ≡ true = sym c.takes_byte.ensures.first ∙ c.if-takes_byte.true in
    addition_first k left c.takes_byte.new.self first (passed (codes "+") left c.takes_byte.new.self first c.takes_byte.ensures.left)

pub returns-then-takes_byte-2-clause-takes : goal.returns-then-takes_byte-2-clause-takes
returns-then-takes_byte-2-clause-takes c k =
    let left = c.args.words.now in
    let mid = c.takes_byte.new.self in
    let none : is_first (codes "+") left ≡ false = sym c.takes_byte.ensures.first ∙ c.if-takes_byte.false in
    let same : mid ≡ left = not_passed (codes "+") left mid none c.takes_byte.ensures.left in
    let first : is_first (codes "s") mid ≡ true = sym c.takes_byte-2.ensures.first ∙ c.if-takes_byte-2.true in
    subst (λ ws. Takes are_items items_of k ws items.Saturate k c.takes_byte-2.new.self) same
    (saturation_first k mid c.takes_byte-2.new.self first (passed (codes "s") mid c.takes_byte-2.new.self first c.takes_byte-2.ensures.left))
