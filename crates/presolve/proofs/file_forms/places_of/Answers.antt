use Rattle.std.proofs.Common.{rules, ◌+◌, get_or, take, subst, sym}
use Rattle.presolve.specs.Forms.{ArePlacesOf, NotesTerms}
use Rattle.presolve.proofs.Places.{no_keys_placed, places_more, written_back}
use Rattle.presolve.proofs.file_forms.places_of.Goals as goal

pub loop-place-init : goal.loop-place-init
loop-place-init c = no_keys_placed c.args.count c.in_ok-table.table.items c.in_ok-table.ensures.0 c.in_ok-table.ensures.1

pub loop-place-preserved : goal.loop-place-preserved
loop-place-preserved c =
    let i = c.loop-place.place in
    let old = c.loop-place.table.items in
    let new = c.note_terms.new.places in
    let here : NotesTerms (get_or c.args.keys.now i c.index-keys-place.result).terms.items i old new =
    subst (λ ts. NotesTerms ts i old new) c.as_slice.ensures.value (subst (λ table. NotesTerms c.as_slice.result.now i table new) c.as_mut_slice.ensures.value c.in_ok-note_terms.ensures) in
    subst (ArePlacesOf (take (i + 1) c.args.keys.now) c.args.count) (sym (written_back new old c.loop-place.table.len (search rules)))
    (places_more c.args.keys.now i c.index-keys-place.result c.args.count old new c.loop-place-test.true (search rules) c.loop-place.invariant here)
