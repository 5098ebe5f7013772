-- Assignments with the same literals: a constraint says the same under both.
use Rattle.std.proofs.Common.{◌≡◌, Bool, not, ◌||◌, List, [], ◌∷◌, ◌++◌, sym, ap, ◌∙◌, arith}
use Rattle.std.proofs.lemmas.Int.{ints}
use Rattle.linear.specs.declared.term.Lit.{Lit}
use Rattle.normal_form.specs.Normal.{NormalConstraint, sum_over}
use Rattle.propagate.specs.Literals.{among, SameLiterals}
use Rattle.propagate.specs.Slack.{not_false, IsFalsified, IsForced}
use Rattle.propagate.specs.declared.forced.Forced.{Forced}
use Rattle.propagate.specs.Walk.{IsReasonedChain}
use Rattle.normal_form.proofs.SetSums.{Within, sum_within}
use Rattle.propagate.proofs.Assignments.{among_append, fewer_not_false}

pub within_same : (xs ys : List Lit) → SameLiterals xs ys → Within (among xs) (among ys)
within_same xs ys same v s h = sym (same v s) ∙ h

pub turned_same : (xs ys : List Lit) → SameLiterals xs ys → SameLiterals ys xs
turned_same xs ys same v s = sym (same v s)

open_same : (xs ys : List Lit) (n : NormalConstraint) → SameLiterals xs ys → sum_over (not_false xs) n.terms ≡ sum_over (not_false ys) n.terms
open_same xs ys n same =
    omega (
      arith,
      sum_within (not_false xs) (not_false ys) (fewer_not_false ys xs (within_same ys xs (turned_same xs ys same))) n.terms,
      sum_within (not_false ys) (not_false xs) (fewer_not_false xs ys (within_same xs ys same)) n.terms,
    )

pub same_forced : (xs ys : List Lit) (n : NormalConstraint) (l : Lit) → SameLiterals xs ys → IsForced xs l n → IsForced ys l n
same_forced xs ys n l same f = record {
  unset = sym (same (l.var.0) l.negated) ∙ f.unset;
  opposite_unset = sym (same (l.var.0) (not l.negated)) ∙ f.opposite_unset;
  occurs = f.occurs;
  above = omega (arith, ints, f.above, open_same xs ys n same);
}

pub same_falsified : (xs ys : List Lit) (n : NormalConstraint) → SameLiterals xs ys → IsFalsified xs n → IsFalsified ys n
same_falsified xs ys n same b = omega (arith, ints, b, open_same xs ys n same)

pub same_pushed : (xs ys : List Lit) (zs : List Lit) → SameLiterals xs ys → SameLiterals (xs ++ zs) (ys ++ zs)
same_pushed xs ys zs same v s =
    among_append xs zs v s ∙ ap (λ (b : Bool). b || among zs v s) (same v s) ∙ sym (among_append ys zs v s)

pub same_chain : (ns : List NormalConstraint) (xs ys : List Lit) (steps : List Forced) → SameLiterals xs ys → IsReasonedChain ns xs steps → IsReasonedChain ns ys steps
same_chain ns xs ys [] same c = tt
same_chain ns xs ys (s ∷ ss) same c =
    ((c.0.0, c.0.1, same_forced xs ys c.0.0 s.literal same c.0.2), same_chain ns (xs ++ s.literal ∷ []) (ys ++ s.literal ∷ []) ss (same_pushed xs ys (s.literal ∷ []) same) c.1)
