use Rattle.std.proofs.Common.{◌<◌, ◌+◌, ℕ, Bool, true, false, List, length, refl, sym, subst, ◌∙◌}
use Rattle.std.specs.Prelude.{Option, MatchOption}
use Rattle.std.proofs.lemmas.Bool.{false≢true}
use Rattle.linear.specs.Opb.{Opb}
use Rattle.linear.specs.declared.term.Var.{Var}
use Rattle.presolve.specs.Pairs.{AreTaken, AreUsedBelow, IsPartner}
use Rattle.presolve.specs.declared.swapping.Swap.{Swap}
use Rattle.presolve.proofs.Pairing.{none_more, one_more, read_at, taken_more, used_is_partner}
use Rattle.presolve.proofs.swapping.Chosen.pair.Goals as goal

-- what is said of the first partner
Answers : Opb → List Bool → ℕ → ℕ → Option Var → Type 0
Answers p taken left x found =
    MatchOption found ((z : ℕ) → IsPartner p taken left x z → ⊥) (λ y. IsPartner p taken left x (y.0) × ((z : ℕ) → z < y.0 → IsPartner p taken left x z → ⊥))

pub returns-then-index-clause-used : goal.returns-then-index-clause-used
returns-then-index-clause-used c fixed h =
    let p : Opb = c.args.symmetries.now.problem.now in
    let x = c.args.x.0 in
    let taken : List Bool = c.args.self.now.taken.items in
    let used : List Swap = c.args.self.now.swaps.items in
    let inside : x < length taken = subst (λ n. x < n) (sym c.requires.taken) c.requires.variable in
    let is = read_at taken x c.index.result.now true inside c.index.ensures c.if-index.true in
    record {
      pairs = none_more p fixed x used h.pairs (λ s at u.
          let free = (used_is_partner p fixed used taken c.args.left x s h.pairs h.variables c.requires.taken c.requires.left at u).0 in
          false≢true (sym ((h.variables x inside).1 free) ∙ is));
      variables = h.variables;
    }

pub returns-in_ok-add-clause-used : goal.returns-in_ok-add-clause-used
unfolding Answers
returns-in_ok-add-clause-used c fixed h =
    let p : Opb = c.args.symmetries.now.problem.now in
    let x = c.args.x.0 in
    let y = c.in-Some.second.0 in
    let taken : List Bool = c.args.self.now.taken.items in
    let used : List Swap = c.args.self.now.swaps.items in
    let new : Swap = record { first = c.args.x; second = c.in-Some.second } in
    let inside : x < length taken = subst (λ n. x < n) (sym c.requires.taken) c.requires.variable in
    let is = read_at taken x c.index.result.now false inside c.index.ensures c.if-index.false in
    let answer = subst (Answers p taken c.args.left x) c.in-Some.is (subst (λ ts. Answers p ts c.args.left x c.in_ok-second.field-0) c.as_slice.ensures.value c.in_ok-second.ensures) in
    let pairs = one_more p fixed x y c.args.left used taken new h.pairs h.variables c.requires.taken c.requires.variable c.requires.left refl refl ((h.variables x inside).0 is) answer.0 answer.1 in
    record {
      pairs = subst (AreUsedBelow p fixed (x + 1)) (sym c.in_ok-add.ensures.swaps) pairs;
      variables = subst (λ s. AreTaken fixed s c.add.new.self.taken.items) (sym c.in_ok-add.ensures.swaps) (taken_more fixed used new taken c.add.new.self.taken.items c.in_ok-add.ensures.count h.variables c.in_ok-add.ensures.taken);
    }

pub returns-in_default-clause-used : goal.returns-in_default-clause-used
unfolding Answers
returns-in_default-clause-used c fixed h =
    let p : Opb = c.args.symmetries.now.problem.now in
    let x = c.args.x.0 in
    let taken : List Bool = c.args.self.now.taken.items in
    let used : List Swap = c.args.self.now.swaps.items in
    let answer = subst (Answers p taken c.args.left x) c.in_default.is (subst (λ ts. Answers p ts c.args.left x c.in_ok-second.field-0) c.as_slice.ensures.value c.in_ok-second.ensures) in
    record {
      pairs = none_more p fixed x used h.pairs (λ s at u. answer (s.second.0) (used_is_partner p fixed used taken c.args.left x s h.pairs h.variables c.requires.taken c.requires.left at u).1);
      variables = h.variables;
    }
