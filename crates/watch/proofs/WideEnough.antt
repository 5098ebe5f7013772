-- Room for the variables of an assignment, where its first literals stand on the trail already.
use Rattle.std.proofs.Common.{◌≡◌, ◌∙◌, ℕ, ◌+◌, ◌-◌, ◌<◌, ◌≤◌, inl, inr, true, All, List, ap, drop, get_or, length, subst, sym, take, arith}
use Rattle.std.proofs.lemmas.Bool.{cases_lt}
use Rattle.std.proofs.lemmas.List.{get_or-drop, get_or-take, length-drop, length-take-le}
use Rattle.std.proofs.Math.Seq.{take-length}
use Rattle.linear.specs.declared.term.Lit.{Lit}
use Rattle.propagate.specs.Literals.{lists}
use Rattle.ledger.specs.Ledgers.{State}
use Rattle.propagate.proofs.Positions.{listed_at}
use Rattle.watch.specs.Keeping.{IsKept}
use Rattle.watch.proofs.KeptLevels.{top_has}

-- the first literals are kept ones, and the rest is below a number
pub wide_enough : (s : State) (levels : List Lit × List ℕ × List ℕ) (q : List ℕ) (c agreed count wide : ℕ) (given : List Lit) → agreed ≤ length given → levels.0 ≡ take agreed given → ((l : Lit) → lists s.assigned l ≡ true → l.var.0 < s.variables)
    → All (λ l. l.var.0 < count) (take (length given - agreed) (drop agreed given)) → s.variables ≤ wide → count ≤ wide → IsKept s levels q c → All (λ l. l.var.0 < wide) given
wide_enough s levels q c agreed count wide given short first room rest more enough kept k d low = elim (cases_lt k agreed) [
  | inl before ↦
      let is : get_or levels.0 k d ≡ get_or given k d = ap (λ (xs : List Lit). get_or xs k d) first ∙ get_or-take agreed given k d before in
      let there : k < length levels.0 = omega (arith, before, ap (length {A = Lit}) first, length-take-le agreed given short) in
      let on_trail = top_has s.assigned s.reasons levels.0 levels.1 kept.levels_are (get_or levels.0 k d) (listed_at levels.0 k d there) in
      omega (arith, room (get_or levels.0 k d) on_trail, ap (λ (l : Lit). l.var.0) is, more)
  | inr after ↦
      let place : agreed + (k - agreed) ≡ k = omega (arith, after) in
      let is : get_or (drop agreed given) (k - agreed) d ≡ get_or given k d = get_or-drop agreed given (k - agreed) d ∙ ap (λ (n : ℕ). get_or given n d) place in
      let all : take (length given - agreed) (drop agreed given) ≡ drop agreed given = ap (λ (n : ℕ). take n (drop agreed given)) (sym (length-drop agreed given)) ∙ take-length (drop agreed given) in
      let others = subst (λ (xs : List Lit). All (λ (l : Lit). l.var.0 < count) xs) all rest in
      let inside : k - agreed < length (drop agreed given) = omega (arith, after, low, length-drop agreed given) in
      omega (arith, others (k - agreed) d inside, ap (λ (l : Lit). l.var.0) is, enough)
]
