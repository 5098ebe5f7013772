-- Small states in which a block is open, to compute the definitions on.
--
-- Each is listed as it stands, and not by the definitions of what begins and ends a block.
use Rattle.std.specs.Prelude.{ℕ, ◌^◌, pos, Bool, true, false, List, [], ◌∷◌, Option, Some, None}
use Rattle.std.specs.FinMap as map
use Rattle.std.specs.FinSet as set
use Rattle.std.specs.Ordering.{nat_cmp}
use Rattle.linear.specs.declared.constraint.Relation.TheVariants.{AtLeast}
use Rattle.linear.specs.declared.constraint.Signed.{Signed}
use Rattle.normal_form.specs.Cases.{signed, signed_not, plain, negated, normal}
use Rattle.normal_form.specs.Normal.{NormalConstraint}
use Rattle.propagate.specs.Cases.{unit, unit_not}
use Rattle.substitution.specs.Cases.{single, to_plain}
use Rattle.substitution.specs.Images.{Images}
use Rattle.substitution.specs.declared.image.Image.TheVariants.{Zero, One}
use Rattle.proof_rules.specs.Cases.{cover, not_second_alone}
use Rattle.proof_rules.specs.Shown.{absurdity}
use Rattle.proof_rules.specs.State.{State, Block, id_limit}

-- live constraints under their ids, the next id, and the open block
abbrev pub block_state : List (ℕ × NormalConstraint) → ℕ → Option Block → State
block_state live next block = record { live = map.from_entries live; next = next; least = None; logged = []; block = block }

-- the same, where all ids are taken
abbrev pub full : State → State
full s = record s { next = id_limit }

-- x0 -> x1 x1 -> x0
abbrev pub exchange : Images
exchange = (record { 0 = 0 }, to_plain 1) ∷ (record { 0 = 1 }, to_plain 0) ∷ []

-- 1 x0 1 ~x1 >= 1, as a proof writes it, and its negation 1 ~x0 1 x1 >= 2
abbrev pub exchanged_written : Signed
exchanged_written = record { terms = signed (pos 1) 0 ∷ signed_not (pos 1) 1 ∷ []; relation = AtLeast; right = pos 1 }

abbrev pub not_exchanged : NormalConstraint
not_exchanged = normal (negated 1 0 ∷ plain 1 1 ∷ []) 2

-- 1 x0 1 ~x1 >= 2: the negation of what it becomes, 1 ~x0 1 x1 >= 1
abbrev pub not_become : NormalConstraint
not_become = normal (plain 1 0 ∷ negated 1 1 ∷ []) 2

-- red 1 x0 1 ~x1 >= 1 ; x0 -> x1 x1 -> x0 ; begin, beside 1 x0 1 x1 >= 1: whether `#1` was opened, and the open goal
abbrev pub exchange_block : Bool → Option ℕ → Block
exchange_block itself goal = record {
  constraint = not_second_alone;
  images = exchange;
  first = 2;
  opened = set.empty;
  itself = itself;
  objective = false;
  goal = goal;
}

-- behind that line; behind `proofgoal #1`; behind its end; behind the block's
abbrev pub begun : State
begun = block_state ((1, cover) ∷ (2, not_exchanged) ∷ []) 3 (Some (exchange_block false None))

abbrev pub own_goal : State
own_goal = block_state ((1, cover) ∷ (2, not_exchanged) ∷ (3, not_become) ∷ []) 4 (Some (exchange_block true (Some 3)))

abbrev pub own_closed : State
own_closed = block_state ((1, cover) ∷ (2, not_exchanged) ∷ []) 4 (Some (exchange_block true None))

abbrev pub ended : State
ended = block_state ((1, cover) ∷ (4, not_second_alone) ∷ []) 5 None

-- where `1 x0 1 x1 >= 1` has the id 2, and what had the id 1 is deleted
abbrev pub begun_later : State
begun_later = block_state ((2, cover) ∷ (3, not_exchanged) ∷ []) 4 (Some (record (exchange_block false None) { first = 3 }))

-- behind `proofgoal 1` at `begun`: its goal is 1 x0 1 x1 >= 1 still; and behind its end
abbrev pub neither : NormalConstraint
neither = normal (negated 1 0 ∷ negated 1 1 ∷ []) 2

abbrev pub first_opened : Option ℕ → Block
first_opened goal = record (exchange_block false goal) { opened = set.insert set.empty 1 }

abbrev pub live_goal : State
live_goal = block_state ((1, cover) ∷ (2, not_exchanged) ∷ (3, neither) ∷ []) 4 (Some (first_opened (Some 3)))

abbrev pub live_closed : State
live_closed = block_state ((1, cover) ∷ (2, not_exchanged) ∷ []) 4 (Some (first_opened None))

-- red 1 ~x0 >= 1 ; x0 -> 0 ; begin, beside 1 x0 1 x1 >= 1 and 1 x0 1 ~x1 >= 1, where these goals were opened
abbrev pub falling_block : set.FinSet nat_cmp → Block
falling_block opened = record {
  constraint = unit_not 0;
  images = single 0 Zero;
  first = 3;
  opened = opened;
  itself = false;
  objective = false;
  goal = None;
}

abbrev pub falling : set.FinSet nat_cmp → State
falling opened = block_state ((1, cover) ∷ (2, not_second_alone) ∷ (3, unit 0) ∷ []) 4 (Some (falling_block opened))

-- red 1 ~x0 >= 1 ; x1 -> 1 ; begin, beside 1 x0 1 x1 >= 1, and whether `#1` and `#2` were opened
abbrev pub rising_block : Bool → Bool → Block
rising_block itself objective = record {
  constraint = unit_not 0;
  images = single 1 One;
  first = 2;
  opened = set.empty;
  itself = itself;
  objective = objective;
  goal = None;
}

abbrev pub rising : Bool → Bool → State
rising itself objective = block_state ((1, cover) ∷ (2, unit 0) ∷ []) 3 (Some (rising_block itself objective))

-- >= 1, as a proof writes it
abbrev pub absurd_written : Signed
absurd_written = record { terms = []; relation = AtLeast; right = pos 1 }

-- red >= 1 ; ; begin, beside 1 x0 1 x1 >= 1, and behind `proofgoal #1`: nothing is assumed, neither for the block nor for the goal
abbrev pub absurd_block : Block
absurd_block = record {
  constraint = absurdity;
  images = [];
  first = 2;
  opened = set.empty;
  itself = true;
  objective = false;
  goal = Some 3;
}

abbrev pub absurd_goal : State
absurd_goal = block_state ((1, cover) ∷ (2, normal [] 0) ∷ (3, normal [] 0) ∷ []) 4 (Some absurd_block)

-- 2^120 x0 >= 0, as a proof writes it, and its normal form, whose negation 2^120 ~x0 >= 2^120 + 1 is beyond the limits
abbrev pub heavy_written : Signed
heavy_written = record { terms = signed (pos (2 ^ 120)) 0 ∷ []; relation = AtLeast; right = pos 0 }

abbrev pub heavy : NormalConstraint
heavy = normal (plain (2 ^ 120) 0 ∷ []) 0

-- red 1 x0 >= 1 ; ; begin, beside that constraint
abbrev pub heavy_block : Block
heavy_block = record {
  constraint = unit 0;
  images = [];
  first = 2;
  opened = set.empty;
  itself = false;
  objective = false;
  goal = None;
}

abbrev pub beside_heavy : State
beside_heavy = block_state ((1, heavy) ∷ (2, unit_not 0) ∷ []) 3 (Some heavy_block)
