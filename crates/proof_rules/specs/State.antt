-- The state of a proof: the live constraints, and the solutions logged so far.
--
-- An id is given once and stays with its constraint, so what was deleted is not found again under it, and the next id
-- rises by what is added alone. A number in a step names an id from the front, or from the end by a minus sign, as in
-- the VeriPB format: -1 is the newest id, whether its constraint is live or not.
--
-- A `red` step with subproofs is a block of steps, which a state keeps while it is open. The constraints of the block are live beside
-- the others and tell themselves by their ids, since ids only rise and nothing else becomes live meanwhile: those of the block have the
-- ids from its first one on, and those of its open goal the ids from that goal's on.
use Rattle.std.specs.Prelude.{◌≡◌, ℕ, ◌+◌, ◌-◌, ◌<◌, ◌≤◌, ◌^◌, ℤ, pos, negsuc, Bool, nat_lt, List, [], ◌∷◌, Option, None, Some, length}
use Rattle.std.specs.Ordering.{nat_cmp}
use Rattle.std.specs.FinMap as map
use Rattle.std.specs.FinSet as set
use Rattle.linear.specs.Opb.{Opb}
use Rattle.normal_form.specs.Normal.{NormalConstraint}
use Rattle.substitution.specs.Images.{Images}
use Rattle.proof_rules.specs.Forms.{AreFormsOfAll}

-- live constraints by their ids
abbrev pub Live : Type 0
Live = map.FinMap nat_cmp NormalConstraint

-- an open block
pub record Block : Type 0 where
  -- the constraint that the block is to add, and the substitution under which its goals are asked
  pub constraint : NormalConstraint
  pub images : Images
  -- the id of that constraint's negation
  pub first : ℕ
  -- the goals that were opened so far: live constraints by their ids, the new constraint, the objective
  pub opened : set.FinSet nat_cmp
  pub itself : Bool
  pub objective : Bool
  -- the id of the negation of the open goal, if there is one
  pub goal : Option ℕ

pub record State : Type 0 where
  -- the live constraints
  pub live : Live
  -- the id that the next constraint takes; ids count from 1
  pub next : ℕ
  -- the least value of an improving solution, if there is one
  pub least : Option ℤ
  -- the solutions, the first one first: the values of the file's variables
  pub logged : List (List Bool)
  -- the block of a `red` step, while one is open
  pub block : Option Block

-- the live constraints, by rising id
abbrev pub constraints : State → List NormalConstraint
constraints s = map.values s.live

-- the id that a number in a step means: -k is the next id less k
abbrev pub id_of : ℕ → ℤ → ℕ
id_of next (pos k) = k
id_of next (negsuc k) = next - (k + 1)

-- the live constraint of an id, if there is one
abbrev pub constraint_of : State → ℤ → Option NormalConstraint
constraint_of s id = map.get s.live (id_of s.next id)

-- ids are below this number
abbrev pub id_limit : ℕ
id_limit = 2 ^ 32

-- an id is left for one more constraint
abbrev pub HasRoom : State → Type 0
HasRoom s = s.next < id_limit

-- live ids are above 0 and below the next one, which is at most the first beyond all ids
pub record AreNumbered (live : Live) (next : ℕ) : Type 0 where
  pub first : 0 < next
  pub last : next ≤ id_limit
  pub within : (id : ℕ) (n : NormalConstraint) → map.get live id ≡ Some n → (0 < id) × (id < next)

-- the state with one more constraint, which takes the next id
abbrev pub with_constraint : NormalConstraint → State → State
with_constraint n s = record s { live = map.insert s.live s.next n; next = s.next + 1 }

-- the constraints under the ids from `id` on
abbrev pub numbered : ℕ → List NormalConstraint → List (ℕ × NormalConstraint)
numbered id [] = []
numbered id (n ∷ ns) = (id, n) ∷ numbered (id + 1) ns

-- the state of these constraints, under the ids 1, 2, .., where nothing is logged
abbrev pub state_of : List NormalConstraint → State
state_of ns = record {
  live = map.from_entries (numbered 1 ns);
  next = length ns + 1;
  least = None;
  logged = [];
  block = None;
}

-- no block is open
abbrev pub IsOutside : State → Type 0
IsOutside s = s.block ≡ None

-- the live constraints under ids below a number
abbrev pub up_to : ℕ → Live → Live
up_to id live = map.retain_keys live (λ k. nat_lt k id)

-- the state before the first step: the normal constraints of the file
abbrev pub IsStart : Opb → State → Type 0
IsStart p s = (ns : List NormalConstraint) × AreFormsOfAll p.constraints ns × (s ≡ state_of ns)
