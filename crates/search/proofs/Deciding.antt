-- What a decision of a turn comes to.
use Rattle.std.proofs.Common.{◌≡◌, ℕ, zero, suc, ◌<◌, false, List, [], ◌∷◌, ◌++◌, Option, None, Some, is_some, MatchOption, length, take, refl, sym, subst, append-nil, ◌∙◌, arith}
use Rattle.std.proofs.lemmas.Bool.{false≢true}
use Rattle.std.specs.FinMap as fin
use Rattle.linear.specs.declared.term.Lit.{Lit}
use Rattle.normal_form.specs.Normal.{NormalConstraint}
use Rattle.propagate.specs.declared.trace.Decided.{Decided}
use Rattle.propagate.specs.Chain.{LeadsToConflict}
use Rattle.propagate.specs.Content.{IsEnd}
use Rattle.proof_rules.specs.State.{constraints}
use Rattle.proof_log.specs.Log.{Logbook}
use Rattle.search.specs.Conflicts.{LeadsAtLast, TakesLast}
use Rattle.search.specs.Decisions.{AreDecisions}
use Rattle.search.specs.Values.{unlisted_below}
use Rattle.search.proofs.Decisions.{more_decisions}
use Rattle.search.proofs.Descending.{literals}
use Rattle.search.proofs.Taking.{IsChosen}

-- fewer variables are free then
fewer_since : (n : ℕ) (start now after : List Lit) (items : List Decided) (k : ℕ) (l : Lit) → now ≡ start ++ literals (take k items) → (0 < k → unlisted_below n now < unlisted_below n start) → after ≡ now ++ l ∷ []
    → unlisted_below n (now ++ l ∷ []) < unlisted_below n now → unlisted_below n after < unlisted_below n start
fewer_since n start now after items zero l far below more step =
    let here : now ≡ start = far ∙ append-nil start in
    subst (λ (xs : List Lit). unlisted_below n after < unlisted_below n xs) here (subst (λ (xs : List Lit). unlisted_below n xs < unlisted_below n now) (sym more) step)
fewer_since n start now after items (suc k) l far below more step =
    let first : unlisted_below n now < unlisted_below n start = below (omega arith) in
    let then : unlisted_below n after < unlisted_below n now = subst (λ (xs : List Lit). unlisted_below n xs < unlisted_below n now) (sym more) step in
    omega (arith, first, then)

-- a conflict takes the decision
at_last : (live : List NormalConstraint) (after : List Lit) (A : Type 0) (falsified : Option ℕ) → MatchOption falsified A (λ id. LeadsToConflict live after) → TakesLast live after → MatchOption falsified A (λ id. LeadsAtLast live after)
at_last live after A None end takes = end
at_last live after A (Some id) end takes = (end, takes)

pub record IsNoted (l : Logbook) (start after standing : List Lit) (falsified : Option ℕ) : Type 0 where
  pub named : AreDecisions l after
  pub fewer : unlisted_below (length l.problem.names) after < unlisted_below (length l.problem.names) start
  pub end : MatchOption falsified (IsEnd l.state.live after standing) (λ id. LeadsAtLast (constraints l.state) after)

pub noted : (l : Logbook) (start now after standing : List Lit) (items : List Decided) (k : ℕ) (d : Lit) (falsified : Option ℕ) → IsChosen l.state.live now d (length l.problem.names) → AreDecisions l now → now ≡ start ++ literals (take k items)
    → (0 < k → unlisted_below (length l.problem.names) now < unlisted_below (length l.problem.names) start) → after ≡ now ++ d ∷ []
    → MatchOption falsified (IsEnd l.state.live after standing) (λ id. LeadsToConflict (fin.values l.state.live) after) → IsNoted l start after standing falsified
noted l start now after standing items k d falsified is named far below more end = record {
  named = subst (AreDecisions l) (sym more) (more_decisions l now d is.consistent is.within named);
  fewer = fewer_since (length l.problem.names) start now after items k d far below more is.fewer;
  end = at_last (constraints l.state) after (IsEnd l.state.live after standing) falsified end (subst (TakesLast (constraints l.state)) (sym more) is.takes);
}

-- what holds behind the first turn holds, where this is not the first
pub later : (n : ℕ) (now start : List Lit) (k : ℕ) → (k ≡ 0 → ⊥) → (0 < k → unlisted_below n now < unlisted_below n start) → unlisted_below n now < unlisted_below n start
later n now start zero first below = absurd (first refl)
later n now start (suc k) first below = below (omega arith)

-- where there is no conflict
pub unless : (A : Type 0) (B : ℕ → Type 0) (falsified : Option ℕ) → is_some falsified ≡ false → MatchOption falsified A B → A
unless A B None e h = h
unless A B (Some id) e h = absurd (false≢true (sym e))
