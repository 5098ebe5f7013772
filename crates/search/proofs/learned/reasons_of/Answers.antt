-- One entry after another, with a reason or without.
use Rattle.std.proofs.Common.{◌≡◌, ◌+◌, ◌∙◌, ◌<◌, length, get_or, ap, subst, sym, take, arith}
use Rattle.propagate.specs.Ids.{IdSet}
use Rattle.analysis.specs.declared.entry.Entry.{Entry}
use Rattle.search.proofs.Reasons.{AreReasonsIn, same_ids, one_id_more}
use Rattle.search.proofs.learned.reasons_of.Goals as goal
use Rattle.search.proofs.learned.reasons_of.Goals.{in-Some+in_ok-insert, in_default}

pub loop-place-preserved : goal.loop-place-preserved
loop-place-preserved c =
    let es = c.args.trail.now.entries in
    let i = c.loop-place.place in
    let e : Entry = c.entry.result in
    let low : i < length es = omega (arith, c.loop-place-test.true, c.len-place-end.ensures) in
    let here : (get_or es i e).reason ≡ e.reason = ap (λ (x : Entry). x.reason) (sym c.entry.ensures) in
    elim c.match-entry.branch [
      | in-Some+in_ok-insert w ↦
          subst (λ (s : IdSet). AreReasonsIn s (take (i + 1) es)) (sym w.reasons-is)
          (one_id_more c.loop-place.reasons w.insert.new.self es i e w.in-Some.reason low c.loop-place.invariant (here ∙ w.in-Some.is) w.in_ok-insert.ensures.ok)
      | in_default w ↦
          subst (λ (s : IdSet). AreReasonsIn s (take (i + 1) es)) (sym w.reasons-is)
          (same_ids c.loop-place.reasons es i e low c.loop-place.invariant (here ∙ w.in_default.is))
    ]
