-- The touched constraints are judged by rising id: what is no more in the set of those to be judged is shown.
use Rattle.std.proofs.Common.{◌≡◌, ◌↔◌, inl, inr, ℕ, ◌-◌, false, Some, List, ◌++◌, All, sym, subst, ◌∙◌, arith}
use Rattle.std.proofs.lemmas.Bool.{cases_eq, false≢true}
use Rattle.std.specs.FinMap as map
use Rattle.std.specs.FinSet as set
use Rattle.std.specs.Ordering.{nat_cmp}
use Rattle.normal_form.specs.Normal.{NormalConstraint, Rises}
use Rattle.propagate.specs.Ids.{IdSet, HasId, IsLeastId}
use Rattle.substitution.specs.Images.{Images}
use Rattle.proof_rules.specs.Redundant.{IsShownUnder}
use Rattle.proof_rules.specs.State.{Live}
use Rattle.proof_rules.specs.declared.fault.StepFault.TheVariants.{GoalOpen}
use Rattle.proof_rules.proofs.LiveConstraints.{All-get}
use Rattle.database.specs.Database.{Constraints}
use Rattle.database.proofs.IdSets.{others_stay, removed_keeps}
use Rattle.database.specs.Touched.{IsTouched}
use Rattle.kernel.specs.Redundance.{AreAskedShown, IsAsked, IsOpenLive}
use Rattle.database.proofs.Touched.{touched_live}
use Rattle.kernel.proofs.Untouched.{untouched_shown}

-- the ids still to be judged are live, and what is asked of the constraints of all others is shown
pub record IsJudging (live : Live) (end : ℕ) (opened : IdSet) (from : List NormalConstraint) (images : Images) (ids : IdSet) : Type 0 where
  pub there : (k : ℕ) → HasId ids k → (n : NormalConstraint) × (map.get live k ≡ Some n)
  pub shown : (k : ℕ) (n : NormalConstraint) → IsAsked end opened k → map.get live k ≡ Some n → (HasId ids k → ⊥) → IsShownUnder from images n

pub judging_first : (live : Live) (end : ℕ) (opened : IdSet) (beside : List NormalConstraint) (images : Images) (ids : IdSet) → All (λ n. Rises 0 n.terms) (map.values live)
    → ((k : ℕ) → HasId ids k ↔ IsTouched live images k) → IsJudging live end opened (map.values live ++ beside) images ids
judging_first live end opened beside images ids rises touched = record {
  there = λ k h. touched_live live images k ((touched k).0 h);
  shown = λ k n asked is absent. untouched_shown live beside images k n is (All-get (λ m. Rises 0 m.terms) live k n rises is) (λ h. absent ((touched k).1 h));
}

pub judging_more : (live : Live) (end : ℕ) (opened : IdSet) (from : List NormalConstraint) (images : Images) (ids new : IdSet) (id : ℕ) → IsJudging live end opened from images ids
    → new ≡ set.remove ids id → ((n : NormalConstraint) → map.get live id ≡ Some n → IsAsked end opened id → IsShownUnder from images n) → IsJudging live end opened from images new
judging_more live end opened from images ids new id j is here = subst (IsJudging live end opened from images) (sym is) (record {
  there = λ k h. j.there k (removed_keeps ids id k h);
  shown = λ k n asked at absent. elim (cases_eq k id) as (λ _. IsShownUnder from images n) [
    | inl same ↦ here n (subst (λ (i : ℕ). map.get live i ≡ Some n) same at) (subst (IsAsked end opened) same asked)
    | inr other ↦ j.shown k n asked at (λ h. absent (others_stay ids id k other h))
  ];
})

-- the goal of the least one is open
pub judging_open : (live : Live) (end : ℕ) (opened : IdSet) (from : List NormalConstraint) (images : Images) (ids : IdSet) (id : ℕ) → IsJudging live end opened from images ids → IsLeastId ids id
    → IsAsked end opened id → ((n : NormalConstraint) → map.get live id ≡ Some n → IsShownUnder from images n → ⊥) → IsOpenLive live end opened from images (GoalOpen id)
judging_open live end opened from images ids id j least asked never =
    let n = j.there id least.0 in
    (n.0, asked, n.1, never n.0 n.1, λ k d before also is. j.shown k d also is (λ h. omega (arith, before, least.1 k h)))

pub judging_end : (live : Live) (end : ℕ) (opened : IdSet) (from : List NormalConstraint) (images : Images) (ids : IdSet) → IsJudging live end opened from images ids → ids ≡ set.empty
    → AreAskedShown live end opened from images
judging_end live end opened from images ids j none k n asked is =
    j.shown k n asked is (λ h. false≢true (sym (set.contains-empty nat_cmp k) ∙ subst (λ (s : IdSet). HasId s k) none h))

-- what was answered of a constraint, in the words of what the judging began with
pub judged : (d e : Constraints) (beside now : List NormalConstraint) (images : Images) (id : ℕ) (P : (NormalConstraint → Type 0) → NormalConstraint → Type 0) → e ≡ d → now ≡ beside
    → ((n : NormalConstraint) → map.get e.live id ≡ Some n → P (IsShownUnder (map.values e.live ++ now) images) n)
    → (n : NormalConstraint) → map.get d.live id ≡ Some n → P (IsShownUnder (map.values d.live ++ beside) images) n
judged d e beside now images id P same still answered =
    subst (λ (c : Constraints). (n : NormalConstraint) → map.get c.live id ≡ Some n → P (IsShownUnder (map.values c.live ++ beside) images) n) same
    (subst (λ (items : List NormalConstraint). (n : NormalConstraint) → map.get e.live id ≡ Some n → P (IsShownUnder (map.values e.live ++ items) images) n) still answered)
