-- One number more, of a constraint that was not noted yet.
use Rattle.std.proofs.Common.{◌≡◌, ◌≤◌, ℤ, pos, List, [], ◌∷◌, ◌++◌, rules, sym, subst, ◌∙◌, arith}
use Rattle.pb_text.specs.Number.{largest_number}
use Rattle.proof_log.specs.Deleting.{AreNoted}
use Rattle.proof_log.proofs.Forgetting.{noted_more}
use Rattle.proof_log.proofs.log.Log.note.Goals as goal

pub returns : goal.returns
returns g c before =
    let numbers : List ℤ = c.args.numbers.now.items in
    let written : c.push.new.self.items ≡ numbers ++ pos c.args.id ∷ [] = first_of (search rules, cc, grind arith) in
    let small : c.args.id ≤ largest_number = omega arith in
    subst (λ (ns : List ℤ). AreNoted c.args.self.now ns c.insert.new.self) (sym written)
    (noted_more c.args.self.now numbers c.args.seen.now c.insert.new.self c.args.id before (c.is_deletable.ensures.spare c.if-not-is_deletable.false) (c.is_deletable.ensures.live c.if-not-is_deletable.false)
    (sym c.contains.ensures ∙ c.if-contains.false) small c.in_ok-insert.ensures.ok)
