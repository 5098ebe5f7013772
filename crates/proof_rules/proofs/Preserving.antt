-- Each legal step preserves an answer to the problem, and keeps every live constraint normal.
use Rattle.std.proofs.Common.{◌≡◌, ℕ, ℤ, pos, ◌<ℤ◌, ◌≤ℤ◌, ◌-ℤ◌, neg_ℤ, ◌⊎◌, inl, inr, Bool, List, [], ◌∷◌, ◌++◌, map, ◌<◌, Option, None, Some, All, Any, IfSome, refl, sym, ap, subst, ◌∙◌, arith}
use Rattle.std.proofs.lemmas.Int.{ints}
use Rattle.std.proofs.lemmas.List.{get_or_append_left, length-append}
use Rattle.std.proofs.lemmas.Option.{IfSome_then}
use Rattle.std.proofs.lemmas.List.Elements.{All-push, All-weaker}
use Rattle.std.proofs.lemmas.List.Quantifiers.{Any-push}
use Rattle.linear.specs.declared.term.Term.{Term}
use Rattle.linear.specs.declared.term.Lit.{Lit}
use Rattle.linear.specs.declared.constraint.Signed.{Signed}
use Rattle.linear.specs.Valuation.{Valuation}
use Rattle.linear.specs.Sum.{sum_of}
use Rattle.linear.specs.Opb.{Opb, value_of, objective_value}
use Rattle.normal_form.specs.Normal.{NormalConstraint, Holds, Rises}
use Rattle.normal_form.specs.NormalOf.{IsNormalOf, sign_changed}
use Rattle.normal_form.proofs.NormalForm.{form_meaning}
use Rattle.normal_form.proofs.Negations.{negation_meaning}
use Rattle.normal_form.proofs.SignChanges.{sign_changed_sum}
use Rattle.substitution.specs.Images.{Images, after}
use Rattle.substitution.proofs.Images.{under_meaning, objective_meaning}
use Rattle.proof_steps.specs.declared.step.Item.{Item}
use Rattle.proof_steps.specs.declared.step.Step.{Step}
use Rattle.proof_steps.specs.declared.step.Step.TheVariants as steps
use Rattle.proof_rules.specs.Claim.{IsSolution}
use Rattle.proof_rules.specs.Legal.{Legal, LegalPol, LegalRup, LegalRed, LegalSol, LegalSoli, LegalDel, Leads, Logs, worth_of, with_solution, with_improvement, without}
use Rattle.proof_rules.specs.Redundant.{Redundant, IsShownUnder, IsShownNotRaised}
use Rattle.proof_rules.specs.Preserved.{IsPreserved, IsAsGood, IsBlockKept, AreNormal}
use Rattle.proof_rules.specs.Solution.{at_most}
use Rattle.proof_rules.specs.State.{State, Block, constraints, constraint_of, id_of, IsOutside, with_constraint}
use Rattle.proof_rules.proofs.Blocks.{found_with, given_more, outside_all, block_more, begin_preserves, begin_normal, goal_preserves, goal_normal, end_preserves, end_normal}
use Rattle.proof_rules.proofs.LiveConstraints.{All-get, All-from_get, All-insert, All-remove, found_left}
use Rattle.proof_rules.proofs.ShownHolds.{shown_holds, holds_or_not}
use Rattle.proof_rules.proofs.Values.{value_holds, value_rises}

-- one of some is one of them with another behind
any_before : {X : Type 0} (P : X → Type 0) (xs : List X) (x : X) → Any P xs → Any P (xs ++ x ∷ [])
any_before P xs x (i, y, below, is, holds) =
    (i, y, omega (arith, below, length-append xs (x ∷ [])), get_or_append_left xs (x ∷ []) y i below ∙ is, holds)

-- a constraint was added outside blocks, for which each answer can be changed
added : (p : Opb) (s t : State) (n : NormalConstraint) → IsPreserved p s → IsOutside s
    → ((a b : Valuation) → IsAsGood p s a b → (c : Valuation) × IsAsGood p s a c × Holds c n)
    → t ≡ with_constraint n s → IsPreserved p t
added p s t n kept outside change is = subst (IsPreserved p) (sym is) (record {
  answer = λ a satisfies below.
      let b = kept.answer a satisfies below in
      let c = change a b.0 b.1 in (
        c.0,
        record {
          meets = λ id x there early. found_with (λ y. Holds c.0 y) s.live s.next id n x (λ same. c.2) (λ old. c.1.meets id x old early) there;
          value = c.1.value;
        },
      );
  logged = kept.logged;
  least = kept.least;
  given = given_more s.live s.next n kept.given;
  block = subst (λ o. IfSome o (IsBlockKept p (with_constraint n s))) (sym outside) tt;
})

-- what is met outside the open block, by those who meet all that is live
pub outside_met : (p : Opb) (s : State) (a b : Valuation) → IsAsGood p s a b → IsOutside s → All (Holds b) (constraints s)
outside_met p s a b good outside = All-from_get (Holds b) s.live (λ id n there. good.meets id n there (outside_all s outside id))

-- a constraint was added that holds wherever the live ones do, outside blocks or in one
followed : (p : Opb) (s t : State) (n : NormalConstraint) → IsPreserved p s → ((b : Valuation) → All (Holds b) (constraints s) → Holds b n)
    → t ≡ with_constraint n s → IsPreserved p t
followed p s t n kept follows is = by s.block refl
  where
    in_block : (k : Block) → s.block ≡ Some k → IsPreserved p (with_constraint n s)
    in_block k some =
        let block : IsBlockKept p s k = subst (λ o. IfSome o (IsBlockKept p s)) some kept.block in
        record {
          answer = λ a satisfies below.
              let b = kept.answer a satisfies below in (
                b.0,
                record {
                  meets = λ id x there early.
                      found_with (λ y. Holds b.0 y) s.live s.next id n x
                      (λ same. let less = subst (λ o. IfSome o (λ j. id < j.first)) some early in absurd (omega (arith, less, same, block.begun)))
                      (λ old. b.1.meets id x old early) there;
                  value = b.1.value;
                },
              );
          logged = kept.logged;
          least = kept.least;
          given = given_more s.live s.next n kept.given;
          block = subst (λ o. IfSome o (IsBlockKept p (with_constraint n s))) (sym some) (block_more p s k n block follows);
        }

    by : (o : Option Block) → s.block ≡ o → IsPreserved p t
    by None outside = added p s t n kept outside (λ a b good. (b, good, follows b (outside_met p s a b good outside))) is
    by (Some k) some = subst (IsPreserved p) (sym is) (in_block k some)

normal_more : (s t : State) (n : NormalConstraint) → AreNormal s → Rises 0 n.terms → t ≡ with_constraint n s → AreNormal t
normal_more s t n normal rises is = subst AreNormal (sym is) (All-insert (λ e. Rises 0 e.terms) s.live s.next n rises normal)

cited_holds : (P : NormalConstraint → Type 0) (s : State) → All P (constraints s) → (id : ℤ) (n : NormalConstraint) → constraint_of s id ≡ Some n → P n
cited_holds P s all id n is = All-get P s.live (id_of s.next id) n all is

pub pol_preserves : (p : Opb) (s t : State) (items : List Item) → IsPreserved p s → LegalPol s items t → IsPreserved p t
pol_preserves p s t items kept (n, polish, adds) =
    followed p s t n kept (λ b meets. value_holds (constraint_of s) b (cited_holds (Holds b) s meets) polish.0 n polish.2) adds.1

pub pol_normal : (s t : State) (items : List Item) → AreNormal s → LegalPol s items t → AreNormal t
pol_normal s t items normal (n, polish, adds) =
    normal_more s t n normal (value_rises (constraint_of s) (cited_holds (λ e. Rises 0 e.terms) s normal) polish.0 n polish.2) adds.1

pub rup_preserves : (p : Opb) (s t : State) (c : Signed) → IsPreserved p s → AreNormal s → LegalRup s c t → IsPreserved p t
rup_preserves p s t c kept normal (n, admitted, shown, adds) =
    followed p s t n kept (λ b meets. shown_holds (constraints s) n normal admitted.form.rises shown b meets) adds.1

pub rup_normal : (s t : State) (c : Signed) → AreNormal s → LegalRup s c t → AreNormal t
rup_normal s t c normal (n, admitted, shown, adds) = normal_more s t n normal admitted.form.rises adds.1

-- Redundance: where the new constraint fails at an answer, the answer after the substitution meets all.
module _ (p : Opb) (live : List NormalConstraint) (images : Images) (n m : NormalConstraint) (r : Redundant p live images n m)
    (normal : All (λ e. Rises 0 e.terms) live) (rises : Rises 0 n.terms)
    (b : Valuation) (meets : All (Holds b) live) (fails : Holds b n → ⊥) where
  abbrev from : List NormalConstraint
  from = live ++ m ∷ []

  from_normal : All (λ e. Rises 0 e.terms) from
  from_normal = All-push (λ e. Rises 0 e.terms) live m normal r.negation.rises

  from_holds : All (Holds b) from
  from_holds = All-push (Holds b) live m meets ((negation_meaning n m rises r.negation b).1 fails)

  shown_after : (e : NormalConstraint) → IsShownUnder from images e → Holds (after b images) e
  shown_after e (q, under, shown) = (under_meaning e q images under b).0 (shown_holds from q from_normal under.rises shown b from_holds)

  live_after : All (Holds (after b images)) live
  live_after = All-weaker (IsShownUnder from images) (Holds (after b images)) shown_after live r.each_live

  not_raised : (o : Option (List Term)) → IfSome o (IsShownNotRaised from images) → objective_value (after b images) o ≤ℤ objective_value b o
  not_raised None h = omega (arith, ints)
  not_raised (Some objective) (q, goal, shown) = (objective_meaning objective q images goal b).0 (shown_holds from q from_normal goal.rises shown b from_holds)

  redundant_after : (Holds (after b images) n) × All (Holds (after b images)) live × (value_of (after b images) p ≤ℤ value_of b p)
  redundant_after = (shown_after n r.itself, live_after, not_raised p.objective r.objective)

no_greater : (x y z : ℤ) → x ≤ℤ y → y ≤ℤ z → x ≤ℤ z
no_greater x y z h k = omega (arith, ints, h, k)

pub red_preserves : (p : Opb) (s t : State) (c : Signed) (images : Images) → IsPreserved p s → AreNormal s → IsOutside s → LegalRed p s c images t → IsPreserved p t
red_preserves p s t c images kept normal outside (n, m, admitted, r, adds) = added p s t n kept outside (λ a b good. by a b good (holds_or_not b n)) adds.1
  where
    by : (a b : Valuation) → IsAsGood p s a b → Holds b n ⊎ (Holds b n → ⊥) → (d : Valuation) × IsAsGood p s a d × Holds d n
    by a b good (inl holds) = (b, good, holds)
    by a b good (inr fails) =
        let after' = redundant_after p (constraints s) images n m r normal admitted.form.rises b (outside_met p s a b good outside) fails in (
          after b images,
          record {
            meets = λ id x there early. All-get (Holds (after b images)) s.live id x after'.1 there;
            value = no_greater (value_of (after b images) p) (value_of b p) (value_of a p) after'.2 good.value;
          },
          after'.0,
        )

pub red_normal : (p : Opb) (s t : State) (c : Signed) (images : Images) → AreNormal s → LegalRed p s c images t → AreNormal t
red_normal p s t c images normal (n, m, admitted, r, adds) = normal_more s t n normal admitted.form.rises adds.1

solution_of : (p : Opb) (s : State) (assigned : List Lit) (g : List Bool) → Logs p s assigned g → IsSolution p g
solution_of p s assigned g logs = record { long = logs.completes.long; satisfies = logs.satisfies }

pub sol_preserves : (p : Opb) (s t : State) (assigned : List Lit) → IsPreserved p s → IsOutside s → LegalSol p s assigned t → IsPreserved p t
sol_preserves p s t assigned kept outside (g, logs, is) = subst (IsPreserved p) (sym is) (record {
  answer = λ a satisfies below. let b = kept.answer a satisfies below in (b.0, record { meets = b.1.meets; value = b.1.value });
  logged = All-push (IsSolution p) s.logged g kept.logged (solution_of p s assigned g logs);
  least = IfSome_then s.least kept.least (λ least some. any_before (λ h. worth_of p h ≡ least) s.logged g some);
  given = kept.given;
  block = subst (λ o. IfSome o (IsBlockKept p (with_solution g s))) (sym outside) tt;
})

pub sol_normal : (p : Opb) (s t : State) (assigned : List Lit) → AreNormal s → LegalSol p s assigned t → AreNormal t
sol_normal p s t assigned normal (g, logs, is) = subst AreNormal (sym is) normal

-- a value below a bound makes objective <= bound - 1 hold
improved : (p : Opb) (objective : List Term) (n : NormalConstraint) (bound : ℤ) (b : Valuation) → p.objective ≡ Some objective
    → IsNormalOf (at_most objective (bound -ℤ pos 1)) n → value_of b p <ℤ bound → Holds b n
improved p objective n bound b minimises form below =
    let value : value_of b p ≡ sum_of b objective = ap (objective_value b) minimises in
    let turned : sum_of b (map sign_changed objective) ≡ neg_ℤ (sum_of b objective) = sign_changed_sum b objective in
    (form_meaning (at_most objective (bound -ℤ pos 1)) n refl form b).1 (omega (arith, ints, value, turned, below))

between : (x y z : ℤ) → x ≤ℤ y → y <ℤ z → x <ℤ z
between x y z h k = omega (arith, ints, h, k)

less_then : (x y z : ℤ) → x <ℤ y → y <ℤ z → x <ℤ z
less_then x y z h k = omega (arith, ints, h, k)

pub soli_preserves : (p : Opb) (s t : State) (assigned : List Lit) → IsPreserved p s → IsOutside s → LegalSoli p s assigned t → IsPreserved p t
soli_preserves p s t assigned kept outside (objective, g, n, better, is) = subst (IsPreserved p) (sym is) (record {
  answer = λ a satisfies below.
      let b = kept.answer a satisfies (IfSome_then s.least better.better (λ least h. less_then (value_of a p) (worth_of p g) least below h)) in
      let holds = improved p objective n (worth_of p g) b.0 better.minimises better.form (between (value_of b.0 p) (value_of a p) (worth_of p g) b.1.value below) in (
        b.0,
        record {
          meets = λ id x there early. found_with (λ y. Holds b.0 y) s.live s.next id n x (λ same. holds) (λ old. b.1.meets id x old early) there;
          value = b.1.value;
        },
      );
  logged = All-push (IsSolution p) s.logged g kept.logged (solution_of p s assigned g better.logs);
  least = Any-push (λ h. worth_of p h ≡ worth_of p g) s.logged g refl;
  given = given_more s.live s.next n kept.given;
  block = subst (λ o. IfSome o (IsBlockKept p (with_improvement p g n s))) (sym outside) tt;
})

pub soli_normal : (p : Opb) (s t : State) (assigned : List Lit) → AreNormal s → LegalSoli p s assigned t → AreNormal t
soli_normal p s t assigned normal (objective, g, n, better, is) =
    subst AreNormal (sym is) (All-insert (λ e. Rises 0 e.terms) s.live s.next n better.form.rises normal)

gone_preserves : (p : Opb) (s : State) (id : ℕ) → IsPreserved p s → IsOutside s → IsPreserved p (without id s)
gone_preserves p s id kept outside = record {
  answer = λ a satisfies below.
      let b = kept.answer a satisfies below in
      (b.0, record { meets = λ q x there early. b.1.meets q x (found_left s.live id q x there) early; value = b.1.value });
  logged = kept.logged;
  least = kept.least;
  given = λ q x there. kept.given q x (found_left s.live id q x there);
  block = subst (λ o. IfSome o (IsBlockKept p (without id s))) (sym outside) tt;
}

pub del_preserves : (p : Opb) (s t : State) (ids : List ℤ) → IsPreserved p s → IsOutside s → LegalDel s ids t → IsPreserved p t
del_preserves p s t [] kept outside is = subst (IsPreserved p) (sym is) kept
del_preserves p s t (id ∷ ids) kept outside (live, rest) =
    del_preserves p (without (id_of s.next id) s) t ids (gone_preserves p s (id_of s.next id) kept outside) outside rest

pub del_normal : (s t : State) (ids : List ℤ) → AreNormal s → LegalDel s ids t → AreNormal t
del_normal s t [] normal is = subst AreNormal (sym is) normal
del_normal s t (id ∷ ids) normal (live, rest) =
    del_normal (without (id_of s.next id) s) t ids (All-remove (λ e. Rises 0 e.terms) s.live (id_of s.next id) normal) rest

pub step_preserves : (p : Opb) (s : State) (step : Step) (t : State) → IsPreserved p s → AreNormal s → Legal p s step t → IsPreserved p t
step_preserves p s (steps.Pol items) t kept normal legal = pol_preserves p s t items kept legal
step_preserves p s (steps.Rup c) t kept normal legal = rup_preserves p s t c kept normal legal
step_preserves p s (steps.Red c images) t kept normal (outside, legal) = red_preserves p s t c images kept normal outside legal
step_preserves p s (steps.Sol assigned) t kept normal (outside, legal) = sol_preserves p s t assigned kept outside legal
step_preserves p s (steps.Soli assigned) t kept normal (outside, legal) = soli_preserves p s t assigned kept outside legal
step_preserves p s (steps.Del ids) t kept normal (outside, legal) = del_preserves p s t ids kept outside legal
step_preserves p s (steps.RedBegin c images) t kept normal (outside, legal) = begin_preserves p s t c images kept outside legal
step_preserves p s (steps.Goal name) t kept normal legal = goal_preserves p s t name kept legal
step_preserves p s steps.End t kept normal legal = end_preserves p s t kept normal legal

pub step_normal : (p : Opb) (s : State) (step : Step) (t : State) → IsPreserved p s → AreNormal s → Legal p s step t → AreNormal t
step_normal p s (steps.Pol items) t kept normal legal = pol_normal s t items normal legal
step_normal p s (steps.Rup c) t kept normal legal = rup_normal s t c normal legal
step_normal p s (steps.Red c images) t kept normal (outside, legal) = red_normal p s t c images normal legal
step_normal p s (steps.Sol assigned) t kept normal (outside, legal) = sol_normal p s t assigned normal legal
step_normal p s (steps.Soli assigned) t kept normal (outside, legal) = soli_normal p s t assigned normal legal
step_normal p s (steps.Del ids) t kept normal (outside, legal) = del_normal s t ids normal legal
step_normal p s (steps.RedBegin c images) t kept normal (outside, legal) = begin_normal s t c images normal legal
step_normal p s (steps.Goal name) t kept normal legal = goal_normal p s t name normal legal
step_normal p s steps.End t kept normal legal = end_normal p s t kept normal legal

pub steps_preserve : (p : Opb) (s : State) (proof : List Step) (t : State) → IsPreserved p s → AreNormal s → Leads p s proof t → IsPreserved p t × AreNormal t
steps_preserve p s [] t kept normal is = (subst (IsPreserved p) (sym is) kept, subst AreNormal (sym is) normal)
steps_preserve p s (step ∷ rest) t kept normal (between, legal, leads) =
    steps_preserve p between rest t (step_preserves p s step between kept normal legal) (step_normal p s step between kept normal legal) leads
