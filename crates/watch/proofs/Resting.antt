-- Where nothing waited, as the trail is cut and constraints come and go.
use Rattle.std.proofs.Common.{◌≡◌, ℕ, zero, suc, ◌<◌, ◌≤◌, inl, inr, Option, None, List, [], ◌∷◌, ◌++◌, length, get_or, set, take, refl, ap, sym, subst, arith}
use Rattle.std.proofs.lemmas.Bool.{cases_lt}
use Rattle.std.proofs.lemmas.List.{get_or_past, length-map, length-set, length-take-le, take-take, take_all}
use Rattle.linear.specs.declared.term.Lit.{Lit}
use Rattle.normal_form.specs.Normal.{NormalConstraint}
use Rattle.propagate.specs.Chain.{IsFixpoint}
use Rattle.propagate.specs.Walk.{IsQuiet}
use Rattle.ledger.specs.Ledgers.{State, constraint_at, constraint_in, shown}
use Rattle.watch.specs.declared.rest.Rest.{Rest}
use Rattle.watch.specs.Rests.{IsRest}
use Rattle.watch.proofs.Deciding.{quiet_when_fixpoint}
use Rattle.watch.proofs.Settling.{none_settled, settled_more, settled_on, settled_pushed}
use Rattle.watch.proofs.TakenBack.{quiet_without}

only_first : (h j : ℕ) → get_or (h ∷ []) j 0 ≤ h
only_first h zero = omega arith
only_first h (suc j) = omega (arith, get_or_past (h ∷ []) (suc j) 0 (omega arith))

-- nothing is known
pub rest_nothing : (ns : List NormalConstraint) (propagated : List Lit) → IsRest ns propagated (record { height = 0; count = 0 })
rest_nothing ns propagated = record { as_many = refl; settled = λ j k low. absurd (omega (arith, low, only_first 0 j)) }

-- all are quiet where the walk ended
pub rest_here : (slots : List (Option NormalConstraint)) (propagated assigned : List Lit) (count : ℕ) → propagated ≡ assigned → IsFixpoint (shown slots) assigned → count ≡ length slots → IsRest (shown slots) propagated (record { height = length assigned; count = count })
rest_here slots propagated assigned count all fixpoint many =
    let ns : List NormalConstraint = shown slots in
    settled_pushed ns propagated assigned [] [] count
    (λ k low. let there : k < length ns = omega (arith, low, many, length-map slots constraint_in) in (there, all, subst (λ (xs : List Lit). IsQuiet xs (constraint_at ns k)) (sym all) (quiet_when_fixpoint ns assigned k fixpoint there)))
    (none_settled ns propagated)

-- the trail is cut above it
pub rest_back : (ns : List NormalConstraint) (propagated : List Lit) (rest : Rest) (count : ℕ) → rest.height ≤ count → IsRest ns propagated rest → IsRest ns (take count propagated) rest
rest_back ns propagated rest count low s = record {
  as_many = s.as_many;
  settled = λ j k first.
      let h : ℕ = get_or (rest.height ∷ []) j 0 in
      let few : h ≤ count = omega (arith, only_first rest.height j, low) in
      let it = s.settled j k first in
      (it.0, short h it.1 few, subst (λ (xs : List Lit). IsQuiet xs (constraint_at ns k)) (sym (take-take h count propagated few)) it.2);
}
  where
    short : (h : ℕ) → h ≤ length propagated → h ≤ count → h ≤ length (take count propagated)
    short h a b = elim (cases_lt count (length propagated)) [
      | inl less ↦ omega (arith, b, length-take-le count propagated (omega (arith, less)))
      | inr more ↦ omega (arith, a, ap (length {A = Lit}) (take_all count propagated (omega (arith, more))))
    ]

-- a constraint is taken out
pub rest_without : (slots : List (Option NormalConstraint)) (place : ℕ) (propagated : List Lit) (rest : Rest) → IsRest (shown slots) propagated rest → IsRest (shown (set slots place None)) propagated rest
rest_without slots place propagated rest s = record {
  as_many = s.as_many;
  settled = λ j k low.
      let it = s.settled j k low in
      let there : k < length slots = omega (arith, it.0, length-map slots constraint_in) in
      (omega (arith, there, length-map (set slots place None) constraint_in, length-set slots place None), it.1, quiet_without slots place (take (get_or (rest.height ∷ []) j 0) propagated) k there it.2);
}

-- constraints come
pub rest_more : (old new : State) (rest : Rest) (more : List (Option NormalConstraint)) → new.slots ≡ old.slots ++ more → new.propagated ≡ old.propagated → IsRest (shown old.slots) old.propagated rest → IsRest (shown new.slots) new.propagated rest
rest_more old new rest more a b h = rw (a, b) (settled_more old.slots more old.propagated (rest.height ∷ []) (rest.count ∷ []) h)

-- nothing changes of what it speaks of
pub rest_same : (old new : State) (rest : Rest) → new.slots ≡ old.slots → new.propagated ≡ old.propagated → IsRest (shown old.slots) old.propagated rest → IsRest (shown new.slots) new.propagated rest
rest_same old new rest a b h = rw (a, b) h

-- more is propagated
pub rest_on : (old new : State) (rest : Rest) → new.slots ≡ old.slots → take (length old.propagated) new.propagated ≡ old.propagated → IsRest (shown old.slots) old.propagated rest → IsRest (shown new.slots) new.propagated rest
rest_on old new rest a first h = rw a (settled_on (shown old.slots) old.propagated new.propagated (rest.height ∷ []) (rest.count ∷ []) first h)
