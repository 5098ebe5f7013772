-- What decisions extend to.
use Rattle.std.proofs.Common.{◌≡◌, ◌↔◌, ℕ, true, List, Option, None, Some, ap, sym, ◌∙◌, inl, inr}
use Rattle.std.specs.FinMap as fin
use Rattle.linear.specs.declared.term.Lit.{Lit}
use Rattle.normal_form.specs.Normal.{NormalConstraint}
use Rattle.propagate.specs.Chain.{IsClosure, LeadsToConflict}
use Rattle.propagate.specs.Content.{Content, IsEnd}
use Rattle.propagate.specs.Literals.{IsConsistent, IsOnce, SameLiterals, lists}
use Rattle.propagate.specs.Reach.{IsReach, reach_told}
use Rattle.propagate.specs.declared.reach.Reach.TheVariants as reaches
use Rattle.propagate.specs.declared.retrace.Extent.{Extent}
use Rattle.propagate.specs.declared.retrace.Extent.TheVariants as extents
use Rattle.search.proofs.Descending.{Stands}
use Rattle.search.proofs.Settling.{closure_consistent}

-- a conflict, where no literal is given beside its opposite, is one to which a chain leads
pub led : (live : List NormalConstraint) (given : List Lit) → IsConsistent given → IsReach live given reaches.Conflict → LeadsToConflict live given
led live given consistent h = elim h [
  | inl both ↦ absurd (consistent both)
  | inr conflict ↦ conflict
]

-- else the chain comes to its end
pub extended : (content : Content) (given standing : List Lit) → IsReach (fin.values content) given (reaches.Closed standing) → IsEnd content given standing
extended content given standing h = record { no_conflict = λ conflict. h.0 (inr conflict); closure = h.1 }

-- the same literals are what follows too
same_closed : (live : List NormalConstraint) (given xs ys : List Lit) → SameLiterals ys xs → IsClosure live given xs → IsClosure live given ys
same_closed live given xs ys same closure l = (λ e. (closure l).0 (sym (same (l.var.0) l.negated) ∙ e), λ h. same (l.var.0) l.negated ∙ (closure l).1 h)

-- where those that are told stand as far as they contradict nothing, what stands is what the decisions extend to
pub reach_of_told : (live : List NormalConstraint) (given told now : List Lit) (extent : Extent) → IsReach live given (reach_told told extent) → (IsConsistent told → SameLiterals now told) → IsOnce now → IsReach live given (reach_told now extent)
reach_of_told live given told now extents.Closed h same once =
    let consistent = closure_consistent live given told (λ both. h.0 (inl both)) (λ conflict. h.0 (inr conflict)) h.1 in
    (h.0, same_closed live given told now (same consistent) h.1, once)
reach_of_told live given told now (extents.Falsified id) h same once = h
reach_of_told live given told now extents.Clash h same once = h

-- and so it is behind a decision
pub stands_of_told : (content : Content) (given told now : List Lit) (falsified : Option ℕ) → IsConsistent given → (IsConsistent told → SameLiterals now told) → Stands content given told falsified → Stands content given now falsified
stands_of_told content given told now None consistent same end = record {
  no_conflict = end.no_conflict;
  closure = same_closed (fin.values content) given told now (same (closure_consistent (fin.values content) given told consistent end.no_conflict end.closure)) end.closure;
}
stands_of_told content given told now (Some id) consistent same conflict = conflict
