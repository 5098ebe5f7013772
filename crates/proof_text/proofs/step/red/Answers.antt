use Rattle.std.proofs.Common.{◌≡◌, Some, None, is_some, map, if◌then◌else◌, ◌&&◌, true, false, sym, ap, subst, ◌∙◌}
use Rattle.std.proofs.lemmas.Result.{err_from_is_err_and}
use Rattle.pb_text.specs.TokensOf.{texts_of}
use Rattle.substitution.specs.Images.{NamesOnce}
use Rattle.proof_text.specs.declared.keyword.Rule.TheVariants as rule
use Rattle.proof_text.specs.Words.{Halves, halves}
use Rattle.proof_text.specs.Forms.{are_images, images_of, lefts, repeats, closing_of, behind_terms}
use Rattle.proof_text.specs.Steps.{begins_block, red_step}
use Rattle.proof_text.specs.declared.fault.ProofFault.TheVariants as faults
use Rattle.proof_text.specs.PartsRead.{IsRead, IsConstraintRead}
use Rattle.proof_text.specs.StepsRead.{IsStepRead}
use Rattle.proof_text.specs.PartsDenied.{Denies}
use Rattle.proof_text.proofs.StepsRead.{red_read, red_says, red_known, red_small, denied_red, denied_images, denied_behind, denied_full, denied_twice}
use Rattle.proof_text.proofs.step.red.Goals as goal

pub returns-in_err-constraint-clause-denies : goal.returns-in_err-constraint-clause-denies
returns-in_err-constraint-clause-denies c =
    let f = c.in_err-constraint.field-0.0 in
    let p = err_from_is_err_and c.from_residual.result c.from_residual.ensures.1 in
    rw (p.1, p.2)
    (denied_red f c.args.table.now.names (texts_of c.args.words)
    (subst (λ (h : Halves). Denies f (is_some h.behind && is_some (closing_of (behind_terms h.front))) h.front) c.new.ensures c.in_err-constraint.ensures.denies))

pub returns-in_err-witness-clause-denies : goal.returns-in_err-witness-clause-denies
returns-in_err-witness-clause-denies c =
    let f = c.in_err-witness.field-0.0 in
    let w = texts_of c.in_ok-constraint.behind in
    let behind : (halves (texts_of c.args.words)).behind ≡ Some w = sym (ap (λ (h : Halves). h.behind) c.new.ensures) ∙ c.in_ok-constraint.ensures.behind in
    let p = err_from_is_err_and c.from_residual-in_err-witness.result c.from_residual-in_err-witness.ensures.1 in
    rw (p.1, p.2)
    (denied_images f c.args.table.now.names (texts_of c.args.words) w behind
    (subst (λ (h : Halves). Denies f (are_images h.front) h.front) c.new-words.ensures c.in_err-witness.ensures.denies))

pub returns-in_err-block-clause-denies : goal.returns-in_err-block-clause-denies
returns-in_err-block-clause-denies c =
    let f = c.in_err-block.field-0.0 in
    let w = texts_of c.in_ok-constraint.behind in
    let behind : (halves (texts_of c.args.words)).behind ≡ Some w = sym (ap (λ (h : Halves). h.behind) c.new.ensures) ∙ c.in_ok-constraint.ensures.behind in
    let none : begins_block (halves w).behind ≡ None = ap begins_block (sym (c.in_ok-witness.ensures.behind ∙ ap (λ (h : Halves). h.behind) c.new-words.ensures)) ∙ c.in_err-block.ensures.denies in
    let p = err_from_is_err_and c.from_residual-in_err-block.result c.from_residual-in_err-block.ensures.1 in
    rw (p.1, p.2) (denied_behind f c.args.table.now.names (texts_of c.args.words) w behind none c.in_err-block.ensures.form)

pub returns-then-is_full-clause-denies : goal.returns-then-is_full-clause-denies
returns-then-is_full-clause-denies c =
    let k = c.args.table.now in
    let mid = c.constraint.new.table in
    let new = c.images.new.table in
    let ws = texts_of c.args.words in
    let w = texts_of c.in_ok-constraint.behind in
    let x = c.in_ok-constraint.constraint in
    let images = c.in_ok-witness.witness.images.items in
    let behind : (halves ws).behind ≡ Some w = sym (ap (λ (h : Halves). h.behind) c.new.ensures) ∙ c.in_ok-constraint.ensures.behind in
    let r : IsConstraintRead k (halves ws).front x mid = subst (λ (h : Halves). IsConstraintRead k h.front x mid) c.new.ensures c.in_ok-constraint.ensures.read in
    let i : IsRead are_images images_of mid (halves w).front images new = subst (λ (h : Halves). IsRead are_images images_of mid h.front images new) c.new-words.ensures c.in_ok-witness.ensures.read in
    let block = c.in_ok-block.block in
    let g : begins_block (halves w).behind ≡ Some block = ap begins_block (sym (c.in_ok-witness.ensures.behind ∙ ap (λ (h : Halves). h.behind) c.new-words.ensures)) ∙ c.in_ok-block.ensures.block in
    let full : new.full ≡ true = sym c.is_full.ensures ∙ c.if-is_full.true in
    let left : map (λ s. s.now) c.in_ok-witness.witness.names.items ≡ lefts (halves w).front = c.in_ok-witness.ensures.names ∙ ap (λ (h : Halves). lefts h.front) c.new-words.ensures in
    let f = c.unless_twice.result in
    denied_full f k new ws w (red_step x images block) (c.unless_twice.ensures ∙ ap (λ n. if repeats n then faults.BadLine else faults.TooManyIds) left) behind
    c.requires (red_known k mid new ws w x images r behind i) full (red_small ws w behind r.small i.small) (red_says k mid new ws w x images block r behind i g)

pub returns-in-Some-clause-read : goal.returns-in-Some-clause-read
returns-in-Some-clause-read c =
    let k = c.args.table.now in
    let mid = c.constraint.new.table in
    let new = c.images.new.table in
    let ws = texts_of c.args.words in
    let w = texts_of c.in_ok-constraint.behind in
    let x = c.in_ok-constraint.constraint in
    let images = c.in_ok-witness.witness.images.items in
    let behind : (halves ws).behind ≡ Some w = sym (ap (λ (h : Halves). h.behind) c.new.ensures) ∙ c.in_ok-constraint.ensures.behind in
    let r : IsConstraintRead k (halves ws).front x mid = subst (λ (h : Halves). IsConstraintRead k h.front x mid) c.new.ensures c.in_ok-constraint.ensures.read in
    let i : IsRead are_images images_of mid (halves w).front images new = subst (λ (h : Halves). IsRead are_images images_of mid h.front images new) c.new-words.ensures c.in_ok-witness.ensures.read in
    let block = c.in_ok-block.block in
    let g : begins_block (halves w).behind ≡ Some block = ap begins_block (sym (c.in_ok-witness.ensures.behind ∙ ap (λ (h : Halves). h.behind) c.new-words.ensures)) ∙ c.in_ok-block.ensures.block in
    let s = c.in-Some.witness in
    let made : s ≡ images = rw c.in-Some.is at c.in_ok-witness-2.ensures.some in
    subst (λ y. IsStepRead rule.Red k ws y new) (ap (λ y. red_step x y block) (sym made) ∙ sym c.red_step.ensures)
    (red_read k mid new ws w x images block r behind i g (subst NamesOnce made c.reveal.ensures))

pub returns-in-None-clause-denies : goal.returns-in-None-clause-denies
returns-in-None-clause-denies c =
    let k = c.args.table.now in
    let mid = c.constraint.new.table in
    let new = c.images.new.table in
    let ws = texts_of c.args.words in
    let w = texts_of c.in_ok-constraint.behind in
    let x = c.in_ok-constraint.constraint in
    let images = c.in_ok-witness.witness.images.items in
    let behind : (halves ws).behind ≡ Some w = sym (ap (λ (h : Halves). h.behind) c.new.ensures) ∙ c.in_ok-constraint.ensures.behind in
    let r : IsConstraintRead k (halves ws).front x mid = subst (λ (h : Halves). IsConstraintRead k h.front x mid) c.new.ensures c.in_ok-constraint.ensures.read in
    let i : IsRead are_images images_of mid (halves w).front images new = subst (λ (h : Halves). IsRead are_images images_of mid h.front images new) c.new-words.ensures c.in_ok-witness.ensures.read in
    let block = c.in_ok-block.block in
    let g : begins_block (halves w).behind ≡ Some block = ap begins_block (sym (c.in_ok-witness.ensures.behind ∙ ap (λ (h : Halves). h.behind) c.new-words.ensures)) ∙ c.in_ok-block.ensures.block in
    let full : new.full ≡ false = sym c.is_full.ensures ∙ c.if-is_full.false in
    denied_twice k mid new ws w x images block c.requires r behind i g full (c.in_ok-witness-2.ensures.none c.in-None.is)
