-- What is kept of an open block through the steps that it allows, and what its end makes of that.
use Rattle.std.proofs.Common.{◌≡◌, ℕ, ◌+◌, ◌<◌, ◌≤◌, ◌≤ℤ◌, ◌⊎◌, inl, inr, Bool, true, false, cond, ◌||◌, List, Option, None, Some, All, IfSome, IsSomeAnd, refl, sym, ap, subst, ◌∙◌, arith}
use Rattle.std.specs.FinMap as fin
use Rattle.std.specs.FinSet as set
use Rattle.std.specs.Ordering.{nat_cmp, eq_by_cmp}
use Rattle.std.proofs.lemmas.Bool.{false≢true, cases_lt}
use Rattle.std.proofs.lemmas.Cmp.{nat_cmp_total}
use Rattle.std.proofs.lemmas.Int.{ints}
use Rattle.linear.specs.declared.term.Term.{Term}
use Rattle.linear.specs.Valuation.{Valuation}
use Rattle.linear.specs.Opb.{Opb, value_of, objective_value}
use Rattle.normal_form.specs.Normal.{NormalConstraint, Holds, Rises}
use Rattle.normal_form.specs.Negation.{IsNegation}
use Rattle.normal_form.proofs.Negations.{negation_meaning}
use Rattle.substitution.specs.Images.{Images, after}
use Rattle.substitution.specs.Under.{IsUnder}
use Rattle.substitution.specs.Objective.{IsObjectiveGoal}
use Rattle.substitution.proofs.Images.{under_meaning, objective_meaning}
use Rattle.proof_steps.specs.declared.step.GoalName.{GoalName}
use Rattle.proof_steps.specs.declared.step.GoalName.TheVariants as names
use Rattle.linear.specs.declared.constraint.Signed.{Signed}
use Rattle.proof_rules.specs.Block.{with_block, closed, finished, EndsBlock, EndsOpen, LegalRedBegin, LegalGoal, LegalEnd}
use Rattle.proof_rules.specs.Preserved.{IsPreserved, IsAsGood, AreNormal, MeetsBelow, MeetsOutside, AreGoalsMet, MeetsOpenGoal, MeetsBlock, IsBlockKept}
use Rattle.proof_rules.specs.Redundant.{IsShownUnder, IsShownNotRaised}
use Rattle.proof_rules.specs.Shown.{IsShown, absurdity}
use Rattle.proof_rules.specs.State.{State, Block, Live, constraints, id_of, IsOutside, up_to, with_constraint}
use Rattle.proof_rules.proofs.LiveConstraints.{All-from_get, All-insert, All-up_to, key_of, within_up_to, found_up_to}
use Rattle.proof_rules.proofs.ShownHolds.{shown_holds, holds_or_not, absurdity_fails}

-- what is found with one more constraint is that one, or was found before
by_key : (P : NormalConstraint → Type 0) (next id : ℕ) (n x : NormalConstraint) (rest : Option NormalConstraint) (b : Bool) → eq_by_cmp nat_cmp id next ≡ b
    → (id ≡ next → P n) → (rest ≡ Some x → P x) → cond b (Some n) rest ≡ Some x → P x
by_key P next id n x rest true key here there is = let same : n ≡ x = cc in subst P same (here (key_of id next key))
by_key P next id n x rest false key here there is = there is

pub found_with : (P : NormalConstraint → Type 0) (live : Live) (next id : ℕ) (n x : NormalConstraint) → (id ≡ next → P n) → (fin.get live id ≡ Some x → P x)
    → fin.get (fin.insert live next n) id ≡ Some x → P x
found_with P live next id n x here there is =
    by_key P next id n x (fin.get live id) (eq_by_cmp nat_cmp id next) refl here there (sym (fin.get-insert nat_cmp_total live next n id) ∙ is)

-- what was found before is found with it, where its id is another one
kept_key : (next id : ℕ) (n x : NormalConstraint) (rest : Option NormalConstraint) (b : Bool) → eq_by_cmp nat_cmp id next ≡ b → (id ≡ next → ⊥) → rest ≡ Some x
    → cond b (Some n) rest ≡ Some x
kept_key next id n x rest true key other is = absurd (other (key_of id next key))
kept_key next id n x rest false key other is = is

pub found_still : (live : Live) (next id : ℕ) (n x : NormalConstraint) → id < next → fin.get live id ≡ Some x → fin.get (fin.insert live next n) id ≡ Some x
found_still live next id n x less is =
    fin.get-insert nat_cmp_total live next n id
    ∙ kept_key next id n x (fin.get live id) (eq_by_cmp nat_cmp id next) refl (λ same. omega (arith, less, same)) is

-- the ids that were given, with one more
pub given_more : (live : Live) (next : ℕ) (n : NormalConstraint) → ((id : ℕ) (x : NormalConstraint) → fin.get live id ≡ Some x → id < next)
    → (id : ℕ) (x : NormalConstraint) → fin.get (fin.insert live next n) id ≡ Some x → id < next + 1
given_more live next n given id x is =
    found_with (λ _. id < next + 1) live next id n x (λ same. omega (arith, same)) (λ old. omega (arith, given id x old)) is

-- who meets what is live below an end meets it with one more constraint behind that, and the other way round
pub below_more : (s : State) (end : ℕ) (n : NormalConstraint) (b : Valuation) → end ≤ s.next → MeetsBelow (with_constraint n s) end b → MeetsBelow s end b
below_more s end n b few meets id x is less = meets id x (found_still s.live s.next id n x (omega (arith, few, less)) is) less

-- of an open block: whoever meets it, its open goal's constraints too, meets all that is live
all_met : (p : Opb) (s : State) (k : Block) (b : Valuation) → MeetsBlock p s k b → (o : Option ℕ) → k.goal ≡ o
    → IsSomeAnd o (λ g. (id : ℕ) (n : NormalConstraint) → fin.get s.live id ≡ Some n → g ≤ id → Holds b n) ⊎ (o ≡ None) → All (Holds b) (constraints s)
all_met p s k b m None is h = All-from_get (Holds b) s.live (λ id n there. m.constraints id n there (subst (λ o. IfSome o (λ g. id < g)) (sym is) tt))
all_met p s k b m (Some g) is (inl opens) =
    All-from_get (Holds b) s.live (λ id n there. elim (cases_lt id g) as (λ _. Holds b n) [
      | inl less ↦ m.constraints id n there (subst (λ o. IfSome o (λ g. id < g)) (sym is) less)
      | inr above ↦ opens id n there above
    ])
all_met p s k b m (Some g) is (inr none) = absurd (cc)

pub goal_met : (p : Opb) (s : State) (k : Block) (b : Valuation) → MeetsBlock p s k b → MeetsOpenGoal s k b → All (Holds b) (constraints s)
goal_met p s k b m opens = all_met p s k b m k.goal refl (inl opens)

pub block_met : (p : Opb) (s : State) (k : Block) (b : Valuation) → MeetsBlock p s k b → k.goal ≡ None → All (Holds b) (constraints s)
block_met p s k b m none = all_met p s k b m k.goal refl (inr none)

no_goal_open : (s : State) (k : Block) (b : Valuation) → k.goal ≡ None → MeetsOpenGoal s k b → ⊥
no_goal_open s k b none opens = subst (λ o. IsSomeAnd o (λ g. (id : ℕ) (n : NormalConstraint) → fin.get s.live id ≡ Some n → g ≤ id → Holds b n)) none opens

-- One more constraint in a block, which holds wherever all that is live does: it is the open goal's, or the block's where none is open.
module _ (p : Opb) (s : State) (k : Block) (n : NormalConstraint) (kept : IsBlockKept p s k)
    (follows : (b : Valuation) → All (Holds b) (constraints s) → Holds b n) where
  abbrev more : State
  more = with_constraint n s

  -- it holds where no goal is opens, and behind an opens goal it is not asked for
  by_goal : (b : Valuation) → MeetsBlock p s k b → (o : Option ℕ) → k.goal ≡ o → IfSome o (λ g. (k.first < g) × (g < s.next)) → IfSome o (λ g. s.next < g) → Holds b n
  by_goal b m None is begun behind = follows b (block_met p s k b m is)
  by_goal b m (Some g) is begun behind = absurd (omega (arith, begun.1, behind))

  goals_more : (b : Valuation) → AreGoalsMet p s k b → AreGoalsMet p more k b
  goals_more b met = record {
    each_live = λ id e less opened is.
        found_with (λ x. Holds (after b k.images) x) s.live s.next id n e (λ same. absurd (omega (arith, kept.begun, less, same))) (met.each_live id e less opened) is;
    itself = met.itself;
    objective = met.objective;
  }

  open_more : (b : Valuation) → MeetsBlock p s k b → (o : Option ℕ) → MeetsOpenGoal s k b
      → IsSomeAnd o (λ g. (id : ℕ) (x : NormalConstraint) → fin.get s.live id ≡ Some x → g ≤ id → Holds b x)
      → IsSomeAnd o (λ g. (id : ℕ) (x : NormalConstraint) → fin.get more.live id ≡ Some x → g ≤ id → Holds b x)
  open_more b m None whole opens = opens
  open_more b m (Some g) whole opens = λ id x is above.
      found_with (λ y. Holds b y) s.live s.next id n x (λ same. follows b (goal_met p s k b m whole)) (λ old. opens id x old above) is

  either_more : (b : Valuation) → MeetsBlock p s k b → AreGoalsMet p s k b ⊎ MeetsOpenGoal s k b → AreGoalsMet p more k b ⊎ MeetsOpenGoal more k b
  either_more b m (inl met) = inl (goals_more b met)
  either_more b m (inr opens) = inr (open_more b m k.goal opens opens)

  pub block_more : IsBlockKept p more k
  block_more = record {
    begun = omega (arith, kept.begun);
    goal = by k.goal kept.goal;
    rises = kept.rises;
    meets = λ b below fails.
        let m = kept.meets b (below_more s k.first n b (omega (arith, kept.begun)) below) fails in
        record {
          constraints = λ id x is early.
              found_with (λ y. Holds b y) s.live s.next id n x
              (λ same. by_goal b m k.goal refl kept.goal (subst (λ z. IfSome k.goal (λ g. z < g)) same early)) (λ old. m.constraints id x old early) is;
          goals = either_more b m m.goals;
        };
  }
    where
      by : (o : Option ℕ) → IfSome o (λ g. (k.first < g) × (g < s.next)) → IfSome o (λ g. (k.first < g) × (g < s.next + 1))
      by None h = h
      by (Some g) h = (h.0, omega (arith, h.1))

-- The negation of a new constraint open a block.
abbrev pub outside_all : (s : State) → IsOutside s → (id : ℕ) → IfSome s.block (λ k. id < k.first)
outside_all s outside id = subst (λ o. IfSome o (λ k. id < k.first)) (sym outside) tt

pub begin_preserves : (p : Opb) (s t : State) (c : Signed) (images : Images) → IsPreserved p s → IsOutside s → LegalRedBegin s c images t → IsPreserved p t
begin_preserves p s t c images kept outside (n, m, admitted, negated, fits, room, is) = subst (IsPreserved p) (sym is) (record {
  answer = λ a satisfies better.
      let b = kept.answer a satisfies better in (
        b.0,
        record {
          meets = λ id x there early.
              found_with (λ y. Holds b.0 y) s.live s.next id m x (λ same. absurd (omega (arith, early, same))) (λ old. b.1.meets id x old (outside_all s outside id)) there;
          value = b.1.value;
        },
      );
  logged = kept.logged;
  least = kept.least;
  given = given_more s.live s.next m kept.given;
  block = record {
    begun = omega arith;
    goal = tt;
    rises = admitted.form.rises;
    meets = λ b below fails. record {
      constraints = λ id x there early.
          found_with (λ y. Holds b y) s.live s.next id m x (λ same. (negation_meaning n m admitted.form.rises negated b).1 fails)
          (λ old. below id x there (kept.given id x old)) there;
      goals = inl (record {
        each_live = λ id e less opened there. absurd (false≢true (sym (set.contains-empty nat_cmp id) ∙ opened));
        itself = λ h. absurd (false≢true h);
        objective = λ h. absurd (false≢true h);
      });
    };
  };
})

pub begin_normal : (s t : State) (c : Signed) (images : Images) → AreNormal s → LegalRedBegin s c images t → AreNormal t
begin_normal s t c images normal (n, m, admitted, negated, fits, room, is) =
    subst AreNormal (sym is) (All-insert (λ e. Rises 0 e.terms) s.live s.next m negated.rises normal)

-- The negation of a goal open it. It holds where the goal does not, so each goal is met or the open one's negation is.
module _ (p : Opb) (s : State) (k : Block) (m : NormalConstraint) (kept : IsPreserved p s) (is : s.block ≡ Some k) (none : k.goal ≡ None)
    (opened : set.FinSet nat_cmp) (itself objective : Bool) where
  abbrev asked : Block
  asked = record k { opened = opened; itself = itself; objective = objective; goal = Some s.next }

  abbrev with_asked : State
  with_asked = with_block asked m s

  block : IsBlockKept p s k
  block = subst (λ o. IfSome o (IsBlockKept p s)) is kept.block

  pub goal_opened : ((b : Valuation) → AreGoalsMet p s k b → AreGoalsMet p with_asked asked b ⊎ Holds b m) → IsPreserved p with_asked
  goal_opened met = record {
    answer = λ a satisfies better.
        let b = kept.answer a satisfies better in (
          b.0,
          record {
            meets = λ id x there early.
                found_with (λ y. Holds b.0 y) s.live s.next id m x (λ same. absurd (omega (arith, early, same, block.begun)))
                (λ old. b.1.meets id x old (subst (λ o. IfSome o (λ j. id < j.first)) (sym is) early)) there;
            value = b.1.value;
          },
        );
    logged = kept.logged;
    least = kept.least;
    given = given_more s.live s.next m kept.given;
    block = record {
      begun = omega (arith, block.begun);
      goal = (block.begun, omega arith);
      rises = block.rises;
      meets = λ b below fails.
          let old = block.meets b (below_more s k.first m b (omega (arith, block.begun)) below) fails in
          record {
            constraints = λ id x there early.
                found_with (λ y. Holds b y) s.live s.next id m x (λ same. absurd (omega (arith, early, same)))
                (λ before. old.constraints id x before (subst (λ o. IfSome o (λ g. id < g)) (sym none) tt)) there;
            goals = either b old.goals;
          };
    };
  }
    where
      negation_alone : (b : Valuation) → Holds b m → MeetsOpenGoal with_asked asked b
      negation_alone b holds = λ id x there late.
          found_with (λ y. Holds b y) s.live s.next id m x (λ same. holds) (λ before. absurd (omega (arith, late, kept.given id x before))) there

      from_met : (b : Valuation) → AreGoalsMet p with_asked asked b ⊎ Holds b m → AreGoalsMet p with_asked asked b ⊎ MeetsOpenGoal with_asked asked b
      from_met b (inl all) = inl all
      from_met b (inr holds) = inr (negation_alone b holds)

      either : (b : Valuation) → AreGoalsMet p s k b ⊎ MeetsOpenGoal s k b → AreGoalsMet p with_asked asked b ⊎ MeetsOpenGoal with_asked asked b
      either b (inl all) = from_met b (met b all)
      either b (inr opens) = absurd (no_goal_open s k b none opens)

opened_before : (opened : set.FinSet nat_cmp) (id q : ℕ) (b : Bool) → eq_by_cmp nat_cmp q id ≡ b → set.contains (set.insert opened id) q ≡ true
    → (q ≡ id) ⊎ (set.contains opened q ≡ true)
opened_before opened id q true key h = inl (key_of q id key)
opened_before opened id q false key h = inr (sym (ap (λ z. z || set.contains opened q) key) ∙ sym (set.contains-insert nat_cmp_total opened id q) ∙ h)

one_found : (o : Option NormalConstraint) (x y : NormalConstraint) → o ≡ Some x → o ≡ Some y → x ≡ y
one_found o x y h k = let same : Some x ≡ Some y = sym h ∙ k in cc

-- what the goals that were opened before ask for, with one more constraint in the state
goals_before : (p : Opb) (s : State) (k j : Block) (n : NormalConstraint) (b : Valuation) → k.first < s.next → AreGoalsMet p s k b
    → (id : ℕ) (e : NormalConstraint) → id < k.first → set.contains k.opened id ≡ true → fin.get (with_block j n s).live id ≡ Some e → Holds (after b k.images) e
goals_before p s k j n b begun met id e less opened there =
    found_with (λ x. Holds (after b k.images) x) s.live s.next id n e (λ same. absurd (omega (arith, begun, less, same))) (met.each_live id e less opened) there

-- a goal holds, or its negation does
goal_or_not : (r m : NormalConstraint) (b : Valuation) → Rises 0 r.terms → IsNegation r m → (P : Type 0) → (Holds b r → P) → P ⊎ Holds b m
goal_or_not r m b rises negated P h = by (holds_or_not b r)
  where
    by : Holds b r ⊎ (Holds b r → ⊥) → P ⊎ Holds b m
    by (inl holds) = inl (h holds)
    by (inr fails) = inr ((negation_meaning r m rises negated b).1 fails)

abbrev live_opened : State → Block → ℕ → Block
live_opened s k id = record k { opened = set.insert k.opened id; goal = Some s.next }

abbrev own_opened : State → Block → Block
own_opened s k = record k { itself = true; goal = Some s.next }

abbrev objective_opened : State → Block → Block
objective_opened s k = record k { objective = true; goal = Some s.next }

live_goal : (p : Opb) (s : State) (k : Block) (m r e : NormalConstraint) (id : ℕ) → IsPreserved p s → s.block ≡ Some k → k.goal ≡ None
    → fin.get s.live id ≡ Some e → IsUnder e k.images r → IsNegation r m → IsPreserved p (with_block (live_opened s k id) m s)
live_goal p s k m r e id kept is none there under negated =
    goal_opened p s k m kept is none (set.insert k.opened id) k.itself k.objective (λ b met.
    goal_or_not r m b under.rises negated (AreGoalsMet p (with_block (live_opened s k id) m s) (live_opened s k id) b) (λ holds. record {
      each_live = λ q x less opened found. by b met holds q x less found (opened_before k.opened id q (eq_by_cmp nat_cmp q id) refl opened);
      itself = met.itself;
      objective = met.objective;
    }))
  where
    begun : k.first < s.next
    begun = (subst (λ o. IfSome o (IsBlockKept p s)) is kept.block).begun

    by : (b : Valuation) → AreGoalsMet p s k b → Holds b r → (q : ℕ) (x : NormalConstraint) → q < k.first → fin.get (with_block (live_opened s k id) m s).live q ≡ Some x
        → (q ≡ id) ⊎ (set.contains k.opened q ≡ true) → Holds (after b k.images) x
    by b met holds q x less found (inl same) =
        found_with (λ y. Holds (after b k.images) y) s.live s.next q m x (λ last. absurd (omega (arith, begun, less, last)))
        (λ old. subst (λ y. Holds (after b k.images) y) (one_found (fin.get s.live id) e x there (subst (λ z. fin.get s.live z ≡ Some x) same old))
        ((under_meaning e r k.images under b).0 holds)) found
    by b met holds q x less found (inr opened) = goals_before p s k (live_opened s k id) m b begun met q x less opened found

own_goal : (p : Opb) (s : State) (k : Block) (m r : NormalConstraint) → IsPreserved p s → s.block ≡ Some k → k.goal ≡ None
    → IsUnder k.constraint k.images r → IsNegation r m → IsPreserved p (with_block (own_opened s k) m s)
own_goal p s k m r kept is none under negated =
    goal_opened p s k m kept is none k.opened true k.objective (λ b met.
    goal_or_not r m b under.rises negated (AreGoalsMet p (with_block (own_opened s k) m s) (own_opened s k) b) (λ holds. record {
      each_live = goals_before p s k (own_opened s k) m b begun met;
      itself = λ _. (under_meaning k.constraint r k.images under b).0 holds;
      objective = met.objective;
    }))
  where
    begun : k.first < s.next
    begun = (subst (λ o. IfSome o (IsBlockKept p s)) is kept.block).begun

objective_goal : (p : Opb) (s : State) (k : Block) (m r : NormalConstraint) (terms : List Term) → IsPreserved p s → s.block ≡ Some k → k.goal ≡ None
    → p.objective ≡ Some terms → IsObjectiveGoal terms k.images r → IsNegation r m → IsPreserved p (with_block (objective_opened s k) m s)
objective_goal p s k m r terms kept is none minimises target negated =
    goal_opened p s k m kept is none k.opened k.itself true (λ b met.
    goal_or_not r m b target.rises negated (AreGoalsMet p (with_block (objective_opened s k) m s) (objective_opened s k) b) (λ holds. record {
      each_live = goals_before p s k (objective_opened s k) m b begun met;
      itself = met.itself;
      objective = λ _.
          subst (λ o. objective_value (after b k.images) o ≤ℤ objective_value b o) (sym minimises) ((objective_meaning terms r k.images target b).0 holds);
    }))
  where
    begun : k.first < s.next
    begun = (subst (λ o. IfSome o (IsBlockKept p s)) is kept.block).begun

pub goal_preserves : (p : Opb) (s t : State) (name : GoalName) → IsPreserved p s → LegalGoal p s name t → IsPreserved p t
goal_preserves p s t (names.Live number) kept (k, r, m, is, none, (unopened, (e, there, under)), negated, fits, room, same) =
    subst (IsPreserved p) (sym same) (live_goal p s k m r e (id_of s.next number) kept is none there under negated)
goal_preserves p s t names.Itself kept (k, r, m, is, none, (unopened, under), negated, fits, room, same) =
    subst (IsPreserved p) (sym same) (own_goal p s k m r kept is none under negated)
goal_preserves p s t names.Objective kept (k, r, m, is, none, (unopened, (terms, minimises, target)), negated, fits, room, same) =
    subst (IsPreserved p) (sym same) (objective_goal p s k m r terms kept is none minimises target negated)

pub goal_normal : (p : Opb) (s t : State) (name : GoalName) → AreNormal s → LegalGoal p s name t → AreNormal t
goal_normal p s t name normal (k, r, m, is, none, asks, negated, fits, room, same) =
    subst AreNormal (sym same) (All-insert (λ e. Rises 0 e.terms) s.live s.next m negated.rises normal)

-- The end of a goal: whoever fails it would meet all that is live, from which `0 >= 1` is shown.
closes : (p : Opb) (s : State) (k : Block) (g : ℕ) → IsPreserved p s → AreNormal s → s.block ≡ Some k → k.goal ≡ Some g → IsShown (constraints s) absurdity
    → IsPreserved p (closed g k s)
closes p s k g kept normal is goal shown = record {
  answer = λ a satisfies better.
      let b = kept.answer a satisfies better in (
        b.0,
        record {
          meets = λ id x there early. b.1.meets id x (within_up_to s.live g id x there).1 (subst (λ o. IfSome o (λ j. id < j.first)) (sym is) early);
          value = b.1.value;
        },
      );
  logged = kept.logged;
  least = kept.least;
  given = λ id x there. kept.given id x (within_up_to s.live g id x there).1;
  block = record {
    begun = block.begun;
    goal = tt;
    rises = block.rises;
    meets = λ b below fails.
        let old = block.meets b (λ id x there less. below id x (found_up_to s.live g id x (omega (arith, less, begun.0)) there) less) fails in
        record {
          constraints = λ id x there early.
              let w = within_up_to s.live g id x there in
              old.constraints id x w.1 (subst (λ o. IfSome o (λ z. id < z)) (sym goal) w.0);
          goals = inl (met b (closed_goals b old old.goals));
        };
  };
}
  where
    block : IsBlockKept p s k
    block = subst (λ o. IfSome o (IsBlockKept p s)) is kept.block

    begun : (k.first < g) × (g < s.next)
    begun = subst (λ o. IfSome o (λ z. (k.first < z) × (z < s.next))) goal block.goal

    closed_goals : (b : Valuation) → MeetsBlock p s k b → AreGoalsMet p s k b ⊎ MeetsOpenGoal s k b → AreGoalsMet p s k b
    closed_goals b m (inl all) = all
    closed_goals b m (inr opens) = absurd (absurdity_fails b (shown_holds (constraints s) absurdity normal tt shown b (goal_met p s k b m opens)))

    met : (b : Valuation) → AreGoalsMet p s k b → AreGoalsMet p (closed g k s) (record k { goal = None }) b
    met b all = record {
      each_live = λ id e less opened there. all.each_live id e less opened (within_up_to s.live g id e there).1;
      itself = all.itself;
      objective = all.objective;
    }

-- The end of a block: where the new constraint fails at an answer, the answer after the substitution meets all.
module _ (p : Opb) (s t : State) (k : Block) (kept : IsPreserved p s) (normal : AreNormal s) (is : s.block ≡ Some k) (none : k.goal ≡ None) (ends : EndsBlock p s k t) where
  ended : IsBlockKept p s k
  ended = subst (λ o. IfSome o (IsBlockKept p s)) is kept.block

  shown_after : (b : Valuation) → All (Holds b) (constraints s) → (e : NormalConstraint) → IsShownUnder (constraints s) k.images e → Holds (after b k.images) e
  shown_after b all e (q, under, shown) = (under_meaning e q k.images under b).0 (shown_holds (constraints s) q normal under.rises shown b all)

  not_raised : (b : Valuation) → All (Holds b) (constraints s) → (o : Option (List Term)) → IfSome o (IsShownNotRaised (constraints s) k.images)
      → objective_value (after b k.images) o ≤ℤ objective_value b o
  not_raised b all None h = omega (arith, ints)
  not_raised b all (Some terms) (q, target, shown) = (objective_meaning terms q k.images target b).0 (shown_holds (constraints s) q normal target.rises shown b all)

  -- a live constraint from before the block, whose goal was opened or is shown
  live_after : (b : Valuation) → All (Holds b) (constraints s) → AreGoalsMet p s k b → (id : ℕ) (e : NormalConstraint) → id < k.first → fin.get s.live id ≡ Some e
      → (o : Bool) → set.contains k.opened id ≡ o → Holds (after b k.images) e
  live_after b all met id e less there true opened = met.each_live id e less opened there
  live_after b all met id e less there false not = shown_after b all e (ends.each_live id e (less, not) there)

  own_after : (b : Valuation) → All (Holds b) (constraints s) → AreGoalsMet p s k b → (o : Bool) → k.itself ≡ o → Holds (after b k.images) k.constraint
  own_after b all met true opened = met.itself opened
  own_after b all met false not = shown_after b all k.constraint (ends.itself not)

  value_after : (b : Valuation) → All (Holds b) (constraints s) → AreGoalsMet p s k b → (o : Bool) → k.objective ≡ o → value_of (after b k.images) p ≤ℤ value_of b p
  value_after b all met true opened = met.objective opened
  value_after b all met false not = not_raised b all p.objective (ends.objective not)

  -- whoever meets the constraints from before the block and the new one meets all that are live behind its end
  all_left : (b : Valuation) → MeetsBelow s k.first b → Holds b k.constraint → MeetsOutside (finished k s) b
  all_left b below holds id x there early =
      found_with (λ y. Holds b y) (up_to k.first s.live) s.next id k.constraint x (λ same. holds)
      (λ old. let w = within_up_to s.live k.first id x old in below id x w.1 w.0) there

  from_fails : (a b : Valuation) → IsAsGood p s a b → (Holds b k.constraint → ⊥) → MeetsBlock p s k b → AreGoalsMet p s k b ⊎ MeetsOpenGoal s k b
      → (d : Valuation) × IsAsGood p (finished k s) a d
  from_fails a b good fails m (inr opens) = absurd (no_goal_open s k b none opens)
  from_fails a b good fails m (inl met) =
      let all = block_met p s k b m none in
      let own = own_after b all met k.itself refl in
      let value = value_after b all met k.objective refl in
      let least = good.value in (
        after b k.images,
        record {
          meets = all_left (after b k.images) (λ id e there less. live_after b all met id e less there (set.contains k.opened id) refl) own;
          value = omega (arith, ints, value, least);
        },
      )

  below_of : (a b : Valuation) → IsAsGood p s a b → MeetsBelow s k.first b
  below_of a b good id x there less = good.meets id x there (subst (λ o. IfSome o (λ j. id < j.first)) (sym is) less)

  from_answer : (a b : Valuation) → IsAsGood p s a b → Holds b k.constraint ⊎ (Holds b k.constraint → ⊥) → (d : Valuation) × IsAsGood p (finished k s) a d
  from_answer a b good (inl holds) = (b, record { meets = all_left b (below_of a b good) holds; value = good.value })
  from_answer a b good (inr fails) = let m = ended.meets b (below_of a b good) fails in from_fails a b good fails m m.goals

  pub block_ends : IsPreserved p (finished k s)
  block_ends = record {
    answer = λ a satisfies better. let b = kept.answer a satisfies better in from_answer a b.0 b.1 (holds_or_not b.0 k.constraint);
    logged = kept.logged;
    least = kept.least;
    given = given_more (up_to k.first s.live) s.next k.constraint (λ id x there. kept.given id x (within_up_to s.live k.first id x there).1);
    block = tt;
  }

open_ends : (p : Opb) (s t : State) (k : Block) → IsPreserved p s → AreNormal s → s.block ≡ Some k → (o : Option ℕ) → k.goal ≡ o → EndsOpen p s k o t → IsPreserved p t
open_ends p s t k kept normal is (Some g) goal (shown, same) = subst (IsPreserved p) (sym same) (closes p s k g kept normal is goal shown)
open_ends p s t k kept normal is None none ends = subst (IsPreserved p) (sym ends.becomes) (block_ends p s t k kept normal is none ends)

pub end_preserves : (p : Opb) (s t : State) → IsPreserved p s → AreNormal s → LegalEnd p s t → IsPreserved p t
end_preserves p s t kept normal (k, is, ends) = open_ends p s t k kept normal is k.goal refl ends

open_ends_normal : (p : Opb) (s t : State) (k : Block) → Rises 0 k.constraint.terms → AreNormal s → (o : Option ℕ) → EndsOpen p s k o t → AreNormal t
open_ends_normal p s t k rises normal (Some g) (shown, same) = subst AreNormal (sym same) (All-up_to (λ e. Rises 0 e.terms) s.live g normal)
open_ends_normal p s t k rises normal None ends =
    subst AreNormal (sym ends.becomes)
    (All-insert (λ e. Rises 0 e.terms) (up_to k.first s.live) s.next k.constraint rises (All-up_to (λ e. Rises 0 e.terms) s.live k.first normal))

pub end_normal : (p : Opb) (s t : State) → IsPreserved p s → AreNormal s → LegalEnd p s t → AreNormal t
end_normal p s t kept normal (k, is, ends) =
    open_ends_normal p s t k (subst (λ o. IfSome o (IsBlockKept p s)) is kept.block).rises normal k.goal ends
