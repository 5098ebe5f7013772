-- Each step marks the variable of the term at this place.
use Rattle.std.proofs.Common.{◌≡◌, ℕ, ◌+◌, ◌<◌, ◌++◌, ◌∷◌, [], List, length, get_or, take, sym, subst, ◌∙◌, arith, length-append}
use Rattle.std.specs.Prelude.{All, Contains}
use Rattle.std.proofs.Math.Seq.{get_or-append_seam}
use Rattle.std.proofs.lemmas.List.{take_all}
use Rattle.std.proofs.lemmas.List.Elements.{All-push}
use Rattle.normal_form.specs.declared.term.NormalTerm.{NormalTerm}
use Rattle.accumulate.specs.Nets.{NamesAll}
use Rattle.accumulate.proofs.NetTerms.{room_at}
use Rattle.accumulate.proofs.Marks.{names_more, more_contains}
use Rattle.accumulate.proofs.cells.mark_reserved.Goals as goal

last : (marks : List ℕ) (v : ℕ) → Contains (marks ++ v ∷ []) v
last marks v = (length marks, omega (arith, length-append marks (v ∷ [])), get_or-append_seam marks v [] v)

one_more : (marks next : List ℕ) (ts : List NormalTerm) (i : ℕ) (t : NormalTerm) → i < length ts → t ≡ get_or ts i t → next ≡ marks ++ t.var.0 ∷ [] → NamesAll marks (take i ts) → NamesAll next (take (i + 1) ts)
one_more marks next ts i t h e n all = names_more marks next ts i t h e (λ v m. subst (λ (xs : List ℕ). Contains xs v) (sym n) (more_contains marks (t.var.0) v m)) (subst (λ (xs : List ℕ). Contains xs (t.var.0)) (sym n) (last marks (t.var.0))) all

still_below : (marks next : List ℕ) (v n : ℕ) → next ≡ marks ++ v ∷ [] → v < n → All (λ x. x < n) marks → All (λ x. x < n) next
still_below marks next v n e h all = subst (λ (xs : List ℕ). All (λ x. x < n) xs) (sym e) (All-push (λ x. x < n) marks v all h)

pub push_reserved-requires : goal.push_reserved-requires
push_reserved-requires c = omega (arith, c.loop-place.invariant.longer, c.loop-place.invariant.room, c.requires, c.loop-place-test.true, c.len-place-end.ensures.value)

pub loop-place-preserved : goal.loop-place-preserved
loop-place-preserved c =
    let at = c.loop-place in
    let ts : List NormalTerm = c.args.other.now.terms in
    let here : c.loop-place.place < length c.args.other.now.terms = omega (arith, c.loop-place-test.true, c.len-place-end.ensures.value) in
    record {
      names = one_more at.touched.items c.push_reserved.new.self.items ts at.place c.term.result here c.term.ensures.value c.push_reserved.ensures.items at.invariant.names;
      kept = λ v p. subst (λ (xs : List ℕ). Contains xs v) (sym c.push_reserved.ensures.items) (more_contains at.touched.items (c.term.result.var.0) v (at.invariant.kept v p));
      below = λ n b all. still_below at.touched.items c.push_reserved.new.self.items (c.term.result.var.0) n c.push_reserved.ensures.items (room_at ts at.place n c.term.result here c.term.ensures.value b) (at.invariant.below n b all);
      longer = omega (arith, c.push_reserved.ensures.len, c.loop-place.invariant.longer);
      room = c.push_reserved.ensures.capacity ∙ c.loop-place.invariant.room;
    }

pub returns-clause-names : goal.returns-clause-names
returns-clause-names c = subst (λ (ts : List NormalTerm). NamesAll c.loop-place.touched.items ts) (take_all c.loop-place.place c.args.other.now.terms (omega (arith, c.loop-place-test.false, c.len-place-end.ensures.value))) c.loop-place.invariant.names
