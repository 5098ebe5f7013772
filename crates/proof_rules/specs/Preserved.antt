-- What every legal step preserves: an answer to the problem.
--
-- "The live constraints follow from the file" is true of cutting planes and of propagation alone. By redundance-based
-- strengthening (Gocht and Nordström) a constraint may rule solutions out, as long as one that is as good is left; and an
-- improving solution rules out all that are not better. So what is kept is an answer: whoever satisfies the file, and is
-- better than the best so far, has one as good among those that meet the live constraints. That is enough for every
-- conclusion: where no one meets them, no one is left who satisfies the file and is better; where all who meet them
-- are worth at least some number, so is whoever satisfies the file and is better than the best so far.
--
-- The file stands on one side and the live constraints on the other. So a deletion keeps it, whatever goes, and what
-- a logged solution was completed by matters no more once it is seen to satisfy the file.
--
-- An open block assumes the negation of its new constraint, and its open goal that goal's negation. So its own constraints are no part
-- of what is kept: that speaks of the constraints from before the block. What is kept of the block is what its end needs: whoever meets
-- the constraints from before it and fails the new one meets the block's too, and each goal that was opened; or else fails
-- the open goal, and meets that goal's constraints.
use Rattle.std.specs.Prelude.{◌≡◌, ◌⊎◌, ℕ, ◌<◌, ◌≤◌, ◌<ℤ◌, ◌≤ℤ◌, true, Some, All, Any, IfSome, IsSomeAnd}
use Rattle.std.specs.FinMap as map
use Rattle.std.specs.FinSet as set
use Rattle.linear.specs.Valuation.{Valuation}
use Rattle.linear.specs.Opb.{Opb, Satisfies, value_of}
use Rattle.normal_form.specs.Normal.{NormalConstraint, Holds, Rises}
use Rattle.substitution.specs.Images.{after}
use Rattle.proof_rules.specs.Claim.{IsSolution}
use Rattle.proof_rules.specs.Legal.{worth_of}
use Rattle.proof_rules.specs.State.{State, Block, constraints}

-- an assignment that meets the live constraints under ids below a number
abbrev pub MeetsBelow : State → ℕ → Valuation → Type 0
MeetsBelow s end b = (id : ℕ) (n : NormalConstraint) → map.get s.live id ≡ Some n → id < end → Holds b n

-- an assignment that meets the live constraints outside the open block: all of them, where none is open
abbrev pub MeetsOutside : State → Valuation → Type 0
MeetsOutside s b = (id : ℕ) (n : NormalConstraint) → map.get s.live id ≡ Some n → IfSome s.block (λ k. id < k.first) → Holds b n

-- such an assignment that is worth no more than `a`
pub record IsAsGood (p : Opb) (s : State) (a b : Valuation) : Type 0 where
  pub meets : MeetsOutside s b
  pub value : value_of b p ≤ℤ value_of a p

-- the goals that were opened in a block, at an assignment: what they ask of the one after the substitution
pub record AreGoalsMet (p : Opb) (s : State) (k : Block) (b : Valuation) : Type 0 where
  pub each_live : (id : ℕ) (e : NormalConstraint) → id < k.first → set.contains k.opened id ≡ true → map.get s.live id ≡ Some e → Holds (after b k.images) e
  pub itself : k.itself ≡ true → Holds (after b k.images) k.constraint
  pub objective : k.objective ≡ true → value_of (after b k.images) p ≤ℤ value_of b p

-- the open goal fails at an assignment, so that it meets that goal's constraints
abbrev pub MeetsOpenGoal : State → Block → Valuation → Type 0
MeetsOpenGoal s k b = IsSomeAnd k.goal (λ g. (id : ℕ) (n : NormalConstraint) → map.get s.live id ≡ Some n → g ≤ id → Holds b n)

-- an assignment that meets a block: its constraints, apart from those of the open goal, and its goals
pub record MeetsBlock (p : Opb) (s : State) (k : Block) (b : Valuation) : Type 0 where
  pub constraints : (id : ℕ) (n : NormalConstraint) → map.get s.live id ≡ Some n → IfSome k.goal (λ g. id < g) → Holds b n
  pub goals : AreGoalsMet p s k b ⊎ MeetsOpenGoal s k b

-- What is kept of an open block. Its ids were given since it was opened, and those of its open goal since then.
pub record IsBlockKept (p : Opb) (s : State) (k : Block) : Type 0 where
  pub begun : k.first < s.next
  pub goal : IfSome k.goal (λ g. (k.first < g) × (g < s.next))
  pub rises : Rises 0 k.constraint.terms
  pub meets : (b : Valuation) → MeetsBelow s k.first b → (Holds b k.constraint → ⊥) → MeetsBlock p s k b

-- For every assignment that satisfies the problem, and is worth less than the least improving value where there is one,
-- one as good meets all live constraints outside the open block. Each logged assignment satisfies the problem, and the least improving
-- value is that of a logged one. The live side may lose assignments; the problem's side is the file, whatever is deleted.
pub record IsPreserved (p : Opb) (s : State) : Type 0 where
  pub answer : (a : Valuation) → Satisfies a p → IfSome s.least (λ least. value_of a p <ℤ least) → (b : Valuation) × IsAsGood p s a b
  pub logged : All (IsSolution p) s.logged
  pub least : IfSome s.least (λ least. Any (λ g. worth_of p g ≡ least) s.logged)
  -- the ids of the live constraints were given
  pub given : (id : ℕ) (n : NormalConstraint) → map.get s.live id ≡ Some n → id < s.next
  pub block : IfSome s.block (IsBlockKept p s)

-- Each live constraint is in normal form: no variable stands twice in it, so no literal beside its opposite, and no
-- coefficient is 0. `Rises` says so by the order in which terms are kept. The laws on negations, on covering and on
-- substitution are about such constraints.
abbrev pub AreNormal : State → Type 0
AreNormal s = All (λ n. Rises 0 n.terms) (constraints s)
