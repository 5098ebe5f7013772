-- What a conclusion claims of a problem, in the words of assignments and the problem's own signed sums alone: no
-- normal form, id or step of a proof stands here.
use Rattle.std.specs.Prelude.{◌≡◌, ◌≤ℤ◌, List, Bool, Option, length, IfSome, IsSome, IsSomeAnd, ⊤}
use Rattle.linear.specs.Valuation.{Valuation, valuation_of}
use Rattle.linear.specs.Opb.{Opb, Satisfies, value_of}
use Rattle.proof_steps.specs.declared.conclusion.Lower.{Lower}
use Rattle.proof_steps.specs.declared.conclusion.Upper.{Upper}
use Rattle.proof_steps.specs.declared.conclusion.Conclusion.{Conclusion}
use Rattle.proof_steps.specs.declared.conclusion.Lower.TheVariants as lowers
use Rattle.proof_steps.specs.declared.conclusion.Upper.TheVariants as uppers
use Rattle.proof_steps.specs.declared.conclusion.Conclusion.TheVariants as conclusions

-- no assignment satisfies the problem
abbrev pub IsUnsatisfiable : Opb → Type 0
IsUnsatisfiable p = (a : Valuation) → Satisfies a p → ⊥

-- a lower bound: no satisfying assignment is worth less; `INF`: none satisfies
abbrev pub ClaimsLower : Opb → Lower → Type 0
ClaimsLower p lowers.MinusInf = ⊤
ClaimsLower p (lowers.At l) = (a : Valuation) → Satisfies a p → l ≤ℤ value_of a p
ClaimsLower p lowers.Inf = IsUnsatisfiable p

-- an upper bound: the best assignment is there, and worth no more; `INF` claims nothing
abbrev pub ClaimsUpper : Opb → Upper → Option (List Bool) → Type 0
ClaimsUpper p (uppers.At u) best = IsSomeAnd best (λ b. value_of (valuation_of b) p ≤ℤ u)
ClaimsUpper p uppers.Inf best = ⊤

abbrev pub Concludes : Opb → Conclusion → Option (List Bool) → Type 0
Concludes p conclusions.Nothing best = ⊤
Concludes p (conclusions.Sat hint) best = IsSome best
Concludes p conclusions.Unsat best = IsUnsatisfiable p
Concludes p (conclusions.Bounds lower upper hint) best = ClaimsLower p lower × ClaimsUpper p upper best

-- an assignment of the problem's variables that satisfies it
pub record IsSolution (p : Opb) (b : List Bool) : Type 0 where
  pub long : length b ≡ length p.names
  pub satisfies : Satisfies (valuation_of b) p

-- what a conclusion and the best assignment that is handed out with it claim
pub record Claim (p : Opb) (c : Conclusion) (best : Option (List Bool)) : Type 0 where
  pub solution : IfSome best (IsSolution p)
  pub concludes : Concludes p c best
