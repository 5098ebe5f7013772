-- An open literal that was looked for.
use Rattle.std.proofs.Common.{◌≡◌, ℕ, ◌++◌, false, List, Option, None, Some, get_or, refl, subst}
use Rattle.std.specs.Prelude.{IfSome}
use Rattle.std.specs.Option.{option_or}
use Rattle.linear.specs.declared.term.Lit.{Lit}
use Rattle.linear.specs.Literal.{opposite}
use Rattle.propagate.specs.Literals.{lists}
use Rattle.trail.proofs.AssignedLiterals.{fewer}
use Rattle.ledger.specs.declared.pair.Pair.{Pair}
use Rattle.ledger.specs.Watched.{IsOpenAt}

-- what is open under more literals is open under fewer
pub open_under_fewer : (xs ys ls : List Lit) (p : Pair) (k : ℕ) → IsOpenAt (xs ++ ys) ls p k → IsOpenAt xs ls p k
open_under_fewer xs ys ls p k h = record {
  rest = h.rest;
  below = h.below;
  unset = λ d. unset_too (get_or ls k d) (h.unset d);
  apart = h.apart;
}
  where
    unset_too : (l : Lit) → lists (xs ++ ys) (opposite l) ≡ false → lists xs (opposite l) ≡ false
    unset_too l = fewer xs ys (l.var.0) (opposite l).negated (lists xs (opposite l)) refl

-- what is chosen is one that was found, or else one that was kept
pub chosen_open : (found kept : Option ℕ) (index : ℕ) (A B : ℕ → Type 0) → option_or found kept ≡ Some index → IfSome found A → IfSome kept B → ((k : ℕ) → A k → B k) → B index
chosen_open (Some k) kept index A B e f g h = subst (λ o. IfSome o B) e (h k f)
chosen_open None kept index A B e f g h = subst (λ o. IfSome o B) e g
