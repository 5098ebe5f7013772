use Rattle.std.proofs.Common.{◌≡◌, ℤ, true, false, ◌∷◌, codes, sym, subst, ◌∙◌, FitsSigned, rules}
use Rattle.std.proofs.lemmas.Int.{to_z-of_z}
use mir.Syntax.{w128}
use Rattle.proof_steps.specs.declared.step.Item.TheVariants as items
use Rattle.proof_text.specs.Words.{is_first}
use Rattle.proof_text.specs.Forms.{are_items, items_of}
use Rattle.proof_text.specs.PartsRead.{Takes}
use Rattle.proof_text.proofs.PolItems.{multiplied, divided, referred, passed, not_passed}
use Rattle.proof_text.proofs.pol.number_item.Goals as goal

pub returns-then-takes_byte : goal.returns-then-takes_byte
returns-then-takes_byte c a k e =
    let left = c.args.words.now in
    let rest = c.takes_byte.new.self in
    let n = c.args.number in
    let fits : FitsSigned w128 n = search rules in
    let first : is_first (codes "*") left ≡ true = sym c.takes_byte.ensures.first ∙ c.if-takes_byte.true in
    subst (λ (x : ℤ). Takes are_items items_of k (a ∷ left) (items.Multiply x) k rest) (sym (to_z-of_z w128 n fits))
    (multiplied k a left rest n e.integer e.value e.small first (passed (codes "*") left rest first c.takes_byte.ensures.left))

pub returns-then-takes_byte-2 : goal.returns-then-takes_byte-2
returns-then-takes_byte-2 c a k e =
    let left = c.args.words.now in
    let rest = c.takes_byte-2.new.self in
    let n = c.args.number in
    let fits : FitsSigned w128 n = search rules in
    let star : is_first (codes "*") left ≡ false = sym c.takes_byte.ensures.first ∙ c.if-takes_byte.false in
    let same : c.takes_byte.new.self ≡ left = not_passed (codes "*") left c.takes_byte.new.self star c.takes_byte.ensures.left in
    let first : is_first (codes "d") c.takes_byte.new.self ≡ true = sym c.takes_byte-2.ensures.first ∙ c.if-takes_byte-2.true in
    let passed_it = passed (codes "d") c.takes_byte.new.self rest first c.takes_byte-2.ensures.left in
    subst (λ (x : ℤ). Takes are_items items_of k (a ∷ left) (items.Divide x) k rest) (sym (to_z-of_z w128 n fits))
    (subst (λ ws. Takes are_items items_of k (a ∷ ws) (items.Divide n) k rest) same
    (divided k a c.takes_byte.new.self rest n e.integer e.value e.small first passed_it))

pub returns : goal.returns
returns c a k e =
    let left = c.args.words.now in
    let rest = c.takes_byte-2.new.self in
    let n = c.args.number in
    let fits : FitsSigned w128 n = search rules in
    let star : is_first (codes "*") left ≡ false = sym c.takes_byte.ensures.first ∙ c.if-takes_byte.false in
    let same : c.takes_byte.new.self ≡ left = not_passed (codes "*") left c.takes_byte.new.self star c.takes_byte.ensures.left in
    let d : is_first (codes "d") c.takes_byte.new.self ≡ false = sym c.takes_byte-2.ensures.first ∙ c.if-takes_byte-2.false in
    let still : rest ≡ c.takes_byte.new.self = not_passed (codes "d") c.takes_byte.new.self rest d c.takes_byte-2.ensures.left in
    let there : rest ≡ left = still ∙ same in
    subst (λ (x : ℤ). Takes are_items items_of k (a ∷ left) (items.Id x) k rest) (sym (to_z-of_z w128 n fits))
    (subst (λ ws. Takes are_items items_of k (a ∷ left) (items.Id n) k ws) (sym there)
    (referred k a left n e.integer e.value e.small star (subst (λ ws. is_first (codes "d") ws ≡ false) same d)))
