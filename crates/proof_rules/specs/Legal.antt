-- The legal steps of a proof: `Legal p old step new` says that the step leads from one state to another.
--
-- The rules are those of the VeriPB proof format: cutting planes (Cook, Coullard and Turán) for `pol`, propagation for
-- `rup`, redundance-based strengthening (Gocht and Nordström) for `red`, and solutions and deletions. A step is a
-- relation of two states, so nothing is said of how it is judged; that it leads to one state at most is a law.
--
-- A `red` step shows its goals by itself, or is a block of steps in which some of them are shown by others; within a block stand
-- nothing but `pol`, `rup` and the steps of blocks. A solution is judged by the file and not by the
-- live constraints, which `red` and `soli` may have made narrower. So `del id` may take out any live constraint, the file's
-- own and those that improving solutions added among them: what is kept is an answer to the file, and the fewer constraints
-- are live, the more answers meet them.
use Rattle.std.specs.Prelude.{◌≡◌, ℕ, ℤ, pos, ◌<ℤ◌, ◌-ℤ◌, Bool, List, [], ◌∷◌, ◌++◌, Some, IfSome, IsSome, length}
use Rattle.std.specs.FinMap as map
use Rattle.linear.specs.declared.constraint.Signed.{Signed}
use Rattle.linear.specs.declared.term.Lit.{Lit}
use Rattle.linear.specs.declared.term.Term.{Term}
use Rattle.linear.specs.Opb.{Opb, Satisfies, value_of}
use Rattle.linear.specs.Valuation.{valuation_of}
use Rattle.normal_form.specs.Normal.{NormalConstraint}
use Rattle.normal_form.specs.NormalOf.{IsNormalOf}
use Rattle.substitution.specs.Images.{Images}
use Rattle.proof_steps.specs.declared.step.Item.{Item}
use Rattle.proof_steps.specs.declared.step.Step.{Step}
use Rattle.proof_steps.specs.declared.step.Step.TheVariants as steps
use Rattle.proof_rules.specs.Block.{LegalRedBegin, LegalGoal, LegalEnd}
use Rattle.proof_rules.specs.Expression.{IsPostfixOf}
use Rattle.proof_rules.specs.Redundant.{Redundant}
use Rattle.proof_rules.specs.Shown.{IsShown, IsAdmitted}
use Rattle.proof_rules.specs.Solution.{Completes, at_most}
use Rattle.proof_rules.specs.State.{State, constraints, constraint_of, id_of, HasRoom, IsOutside, with_constraint}

-- a constraint is added under the next id
abbrev pub Adds : NormalConstraint → State → State → Type 0
Adds n old new = HasRoom old × (new ≡ with_constraint n old)

-- pol: the items write one expression of cutting planes, whose value is added
abbrev pub LegalPol : State → List Item → State → Type 0
LegalPol old items new = (n : NormalConstraint) × IsPostfixOf (constraint_of old) items n × Adds n old new

-- rup: a constraint that is shown from the live ones is added
abbrev pub LegalRup : State → Signed → State → Type 0
LegalRup old c new = (n : NormalConstraint) × IsAdmitted c n × IsShown (constraints old) n × Adds n old new

-- red: a redundant constraint is added
abbrev pub LegalRed : Opb → State → Signed → Images → State → Type 0
LegalRed p old c images new =
    (n : NormalConstraint) × (m : NormalConstraint) × IsAdmitted c n × Redundant p (constraints old) images n m × Adds n old new

-- sol: an assignment whose completion satisfies the problem is logged
pub record Logs (p : Opb) (old : State) (assigned : List Lit) (g : List Bool) : Type 0 where
  pub completes : Completes (constraints old) (length p.names) assigned g
  pub satisfies : Satisfies (valuation_of g) p

abbrev pub with_solution : List Bool → State → State
with_solution g s = record s { logged = s.logged ++ g ∷ [] }

abbrev pub LegalSol : Opb → State → List Lit → State → Type 0
LegalSol p old assigned new = (g : List Bool) × Logs p old assigned g × (new ≡ with_solution g old)

-- the value of an assignment of the file's variables
abbrev pub worth_of : Opb → List Bool → ℤ
worth_of p g = value_of (valuation_of g) p

-- soli: a solution that is better than the improving ones before is logged, and a constraint is added that asks for
-- still better ones. No limit is asked of that constraint: where the problem is within the limits of a file, its
-- coefficients add up to at most 2^110, and its degree is at most 1 above their sum; a constraint may have 2^120.
pub record Improves (p : Opb) (old : State) (objective : List Term) (assigned : List Lit) (g : List Bool) (n : NormalConstraint) : Type 0 where
  pub minimises : p.objective ≡ Some objective
  pub logs : Logs p old assigned g
  pub better : IfSome old.least (λ least. worth_of p g <ℤ least)
  pub form : IsNormalOf (at_most objective (worth_of p g -ℤ pos 1)) n
  pub room : HasRoom old

abbrev pub with_improvement : Opb → List Bool → NormalConstraint → State → State
with_improvement p g n s = record (with_constraint n (with_solution g s)) { least = Some (worth_of p g) }

abbrev pub LegalSoli : Opb → State → List Lit → State → Type 0
LegalSoli p old assigned new =
    (objective : List Term) × (g : List Bool) × (n : NormalConstraint) × Improves p old objective assigned g n × (new ≡ with_improvement p g n old)

abbrev pub without : ℕ → State → State
without id s = record s { live = map.remove s.live id }

-- del id: each id is that of a live constraint in its turn, which goes; by a law the ids differ, and each is live before the
-- step
abbrev pub LegalDel : State → List ℤ → State → Type 0
LegalDel old [] new = new ≡ old
LegalDel old (id ∷ ids) new = IsSome (constraint_of old id) × LegalDel (without (id_of old.next id) old) ids new

abbrev pub Legal : Opb → State → Step → State → Type 0
Legal p old (steps.Pol items) new = LegalPol old items new
Legal p old (steps.Rup c) new = LegalRup old c new
Legal p old (steps.Red c images) new = IsOutside old × LegalRed p old c images new
Legal p old (steps.Sol assigned) new = IsOutside old × LegalSol p old assigned new
Legal p old (steps.Soli assigned) new = IsOutside old × LegalSoli p old assigned new
Legal p old (steps.Del ids) new = IsOutside old × LegalDel old ids new
Legal p old (steps.RedBegin c images) new = IsOutside old × LegalRedBegin old c images new
Legal p old (steps.Goal name) new = LegalGoal p old name new
Legal p old steps.End new = LegalEnd p old new

-- steps lead, one after another, from one state to another
abbrev pub Leads : Opb → State → List Step → State → Type 0
Leads p old [] new = new ≡ old
Leads p old (step ∷ rest) new = (between : State) × Legal p old step between × Leads p between rest new
