use Rattle.std.proofs.Common.{◌≡◌, ◌∷◌, [], ◌++◌, refl, sym, subst, arith}
use Rattle.std.proofs.lemmas.Grind.{common_steps}
use Rattle.std.proofs.lemmas.Result.{err_from_is_err_and}
use Rattle.proof_text.specs.Forms.{are_items, items_of}
use Rattle.proof_text.specs.NamesMet.{NamesMet}
use Rattle.proof_text.specs.PartsRead.{Takes, IsRead}
use Rattle.proof_text.proofs.PartsInTurn.{all_read, one_more, denied_left}
use Rattle.proof_text.proofs.pol.items.Goals as goal

pub returns-in_err-item-clause-denies : goal.returns-in_err-item-clause-denies
returns-in_err-item-clause-denies c =
    let l = c.loop-items in
    let f = c.in_err-item.field-0.0 in
    let p = err_from_is_err_and c.from_residual-in_err-item.result c.from_residual-in_err-item.ensures.1 in
    rw (p.1, p.2) (denied_left are_items items_of c.args.table.now c.args.words l.items.items l.table l.words f l.invariant c.in_err-item.ensures.denies)

pub loop-items-preserved : goal.loop-items-preserved
loop-items-preserved c =
    let l = c.loop-items in
    let x = c.in-Some.item in
    let more : c.push.new.self.items ≡ l.items.items ++ x ∷ [] = grind (arith, common_steps) in
    let taken : Takes are_items items_of l.table l.words x c.next_item.new.table c.next_item.new.words = rw c.in-Some.is at c.in_ok-item.ensures.next in
    one_more are_items items_of c.args.table.now c.args.words l.items.items c.push.new.self.items x l.table c.next_item.new.table l.words c.next_item.new.words l.invariant taken more

pub returns-clause-read : goal.returns-clause-read
returns-clause-read c =
    let l = c.loop-items in
    let ends : (l.words ≡ []) × (c.next_item.new.table ≡ l.table) = rw c.in_default.is at c.in_ok-item.ensures.next in
    subst (λ xs. IsRead are_items items_of c.args.table.now c.args.words xs c.next_item.new.table) (sym c.short_lived.ensures)
    (subst (λ (k : NamesMet). IsRead are_items items_of c.args.table.now c.args.words l.items.items k) (sym ends.1)
    (all_read are_items items_of c.args.table.now c.args.words l.items.items l.table l.words l.invariant ends.0 (λ n. refl)))
