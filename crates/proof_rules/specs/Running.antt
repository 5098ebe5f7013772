-- Running the items of a `pol` step from left to right over a stack. What a step derives is the value of one expression, and that
-- speaks of no stack; but which fault a wrong line has is told by the first item that cannot run, and so is what a reader of a long line
-- wants to know.
use Rattle.std.specs.Prelude.{◌≡◌, pos, ◌<ℤ◌, List, [], ◌∷◌, ◌++◌, Some, unsigned_abs}
use Rattle.normal_form.specs.Normal.{NormalConstraint, Fits}
use Rattle.cut_rules.specs.Rules.{IsSum, IsMultiple, IsQuotient, IsSaturation, IsWeakening, IsAxiom}
use Rattle.proof_steps.specs.declared.step.Item.{Item}
use Rattle.proof_steps.specs.declared.step.Item.TheVariants as items
use Rattle.proof_rules.specs.Expression.{Given, Expression, postfix, HasValue}

-- what an item does to the constraints on a stack, its top first
abbrev pub AppliesItem : Given → Item → List NormalConstraint → List NormalConstraint → Type 0
AppliesItem given (items.Id id) old new = (n : NormalConstraint) × (given id ≡ Some n) × (new ≡ n ∷ old)
AppliesItem given (items.Axiom l) old new = (n : NormalConstraint) × IsAxiom l n × (new ≡ n ∷ old)
AppliesItem given items.Add old new =
    (d : NormalConstraint) × (g : NormalConstraint) × (n : NormalConstraint) × (rest : List NormalConstraint)
    × (old ≡ g ∷ d ∷ rest) × IsSum d g n × Fits n × (new ≡ n ∷ rest)
AppliesItem given (items.Multiply k) old new =
    (d : NormalConstraint) × (n : NormalConstraint) × (rest : List NormalConstraint)
    × (old ≡ d ∷ rest) × (pos 0 <ℤ k) × IsMultiple (unsigned_abs k) d n × Fits n × (new ≡ n ∷ rest)
AppliesItem given (items.Divide k) old new =
    (d : NormalConstraint) × (n : NormalConstraint) × (rest : List NormalConstraint)
    × (old ≡ d ∷ rest) × (pos 0 <ℤ k) × IsQuotient (unsigned_abs k) d n × (new ≡ n ∷ rest)
AppliesItem given items.Saturate old new =
    (d : NormalConstraint) × (n : NormalConstraint) × (rest : List NormalConstraint)
    × (old ≡ d ∷ rest) × IsSaturation d n × (new ≡ n ∷ rest)
AppliesItem given (items.Weaken x) old new =
    (d : NormalConstraint) × (n : NormalConstraint) × (rest : List NormalConstraint)
    × (old ≡ d ∷ rest) × IsWeakening (x.0) d n × (new ≡ n ∷ rest)

-- the items lead, one after another, from one stack to another
abbrev pub Runs : Given → List Item → List NormalConstraint → List NormalConstraint → Type 0
Runs given [] old new = new ≡ old
Runs given (i ∷ rest) old new = (between : List NormalConstraint) × AppliesItem given i old between × Runs given rest between new

-- the items leave these constraints on an empty stack, its top first: each is the value of an expression, and these stand one after
-- another
abbrev pub LeavesStack : Given → List Item → List NormalConstraint → Type 0
LeavesStack given written [] = written ≡ []
LeavesStack given written (n ∷ ns) =
    (before : List Item) × (e : Expression) × (written ≡ before ++ postfix e) × HasValue given e n × LeavesStack given before ns
