-- A file has one state: one normal form of each constraint, in order.
use Rattle.std.proofs.Common.{◌≡◌, List, [], ◌∷◌, ◌++◌, sym, ap, ◌∙◌}
use Rattle.linear.specs.Opb.{Opb}
use Rattle.linear.specs.declared.constraint.Signed.{Signed}
use Rattle.linear.specs.declared.constraint.Relation.{Relation}
use Rattle.linear.specs.declared.constraint.Relation.TheVariants as relations
use Rattle.normal_form.specs.Normal.{NormalConstraint}
use Rattle.normal_form.specs.NormalOf.{signs_changed}
use Rattle.normal_form.proofs.NormalForm.{one_form}
use Rattle.proof_rules.specs.Forms.{AreFormsAs, AreFormsOfAll}
use Rattle.proof_rules.specs.State.{State, IsStart, state_of}

-- a constraint has one form, and an equality two
one_here : (r : Relation) (c : Signed) (ns ms : List NormalConstraint) → AreFormsAs r c ns → AreFormsAs r c ms → ns ≡ ms
one_here relations.AtLeast c ns ms x y = x.1 ∙ ap (λ n. n ∷ []) (one_form c x.0 y.0 x.2 y.2) ∙ sym y.1
one_here relations.Equal c ns ms x y =
    let least = one_form c x.0 y.0 x.3.at_least y.3.at_least in
    let most = one_form (signs_changed c) x.1 y.1 x.3.at_most y.3.at_most in
    x.2 ∙ ap (λ n. n ∷ x.1 ∷ []) least ∙ ap (λ m. y.0 ∷ m ∷ []) most ∙ sym y.2

one_file : (cs : List Signed) (ns ms : List NormalConstraint) → AreFormsOfAll cs ns → AreFormsOfAll cs ms → ns ≡ ms
one_file [] ns ms x y = x ∙ sym y
one_file (c ∷ cs) ns ms x y =
    let here = one_here c.relation c x.0 y.0 x.3 y.3 in
    let rest = one_file cs x.1 y.1 x.4 y.4 in
    x.2 ∙ ap (λ n. n ++ x.1) here ∙ ap (λ n. y.0 ++ n) rest ∙ sym y.2

-- the state of a file
pub one_start : (p : Opb) (s t : State) → IsStart p s → IsStart p t → s ≡ t
one_start p s t x y = x.2 ∙ ap state_of (one_file p.constraints x.0 y.0 x.1 y.1) ∙ sym y.2
