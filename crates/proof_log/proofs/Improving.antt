-- The values of improving solutions fall, and the last one is the least.
use Rattle.std.proofs.Common.{◌≡◌, ℤ, ◌<ℤ◌, ◌⊎◌, inl, inr, List, [], ◌∷◌, ◌++◌, Option, None, Some, All, IfSome, refl, sym, ap, subst, ◌∙◌, arith}
use Rattle.std.proofs.lemmas.Int.{ints}
use Rattle.std.proofs.lemmas.List.Elements.{All-nil, All-cons, All-weaker}
use Rattle.linear.specs.Opb.{Opb}
use Rattle.proof_steps.specs.declared.step.Step.{Step}
use Rattle.proof_steps.specs.declared.step.Step.TheVariants as kinds
use Rattle.proof_rules.specs.Legal.{Leads, Legal, LegalDel, without, worth_of}
use Rattle.proof_rules.proofs.NotLegal.{none_some}
use Rattle.proof_rules.specs.State.{State, id_of}
use Rattle.proof_log.specs.Log.{Logbook, LeadsImproving, improvement, value_list, IsFalling, last_of, IsProof}
use Rattle.proof_log.proofs.Blocks.{begin_logs, end_logs, goal_logs}

-- a value is below the least one so far, if there is one
abbrev Below : Option ℤ → ℤ → Type 0
Below start value = IfSome start (λ least. value <ℤ least)

-- the last value, or what there was before
last_or : List ℤ → Option ℤ → Option ℤ
last_or [] start = start
last_or (value ∷ later) start = last_or later (Some value)

improve_deleted : (p : Opb) (s t : State) (ids : List ℤ) → LegalDel s ids t → t.least ≡ s.least
improve_deleted p s t [] same = ap (λ (u : State). u.least) same
improve_deleted p s t (id ∷ ids) (deletable, rest) = improve_deleted p (without (id_of s.next id) s) t ids rest

-- what a step does to the least value
abbrev OneStep : Option ℤ → List ℤ → Option ℤ → Type 0
OneStep start new end = ((new ≡ []) × (end ≡ start)) ⊎ ((value : ℤ) × (new ≡ value ∷ []) × (end ≡ Some value) × Below start value)

one_step : (p : Opb) (s t : State) (step : Step) → Legal p s step t → OneStep s.least (improvement step t) t.least
one_step p s t (kinds.Pol items) (m, written, adds) = inl (refl, ap (λ (u : State). u.least) adds.1)
one_step p s t (kinds.Rup c) (m, admitted, shown, adds) = inl (refl, ap (λ (u : State). u.least) adds.1)
one_step p s t (kinds.Red c images) (outside, (m, k, admitted, redundant, adds)) = inl (refl, ap (λ (u : State). u.least) adds.1)
one_step p s t (kinds.Sol assigned) (outside, (g, logs, is)) = inl (refl, ap (λ (u : State). u.least) is)
one_step p s t (kinds.Soli assigned) (outside, (objective, g, m, improves, is)) =
    inr (worth_of p g, ap (λ (u : State). value_list u.least) is, ap (λ (u : State). u.least) is, improves.better)
one_step p s t (kinds.Del ids) (outside, legal) = inl (refl, improve_deleted p s t ids legal)
one_step p s t (kinds.RedBegin c images) (outside, legal) = inl (refl, (begin_logs s t c images legal).0)
one_step p s t (kinds.Goal name) legal = inl (refl, (goal_logs p s t name legal).0)
one_step p s t kinds.End legal = inl (refl, (end_logs p s t legal).0)

-- without an objective nothing improves
least_stays : (p : Opb) (s t : State) (step : Step) → p.objective ≡ None → Legal p s step t → t.least ≡ s.least
least_stays p s t (kinds.Pol items) none (m, written, adds) = ap (λ (u : State). u.least) adds.1
least_stays p s t (kinds.Rup c) none (m, admitted, shown, adds) = ap (λ (u : State). u.least) adds.1
least_stays p s t (kinds.Red c images) none (outside, (m, k, admitted, redundant, adds)) = ap (λ (u : State). u.least) adds.1
least_stays p s t (kinds.Sol assigned) none (outside, (g, logs, is)) = ap (λ (u : State). u.least) is
least_stays p s t (kinds.Soli assigned) none (outside, (objective, g, m, improves, is)) = absurd (none_some p.objective objective none improves.minimises)
least_stays p s t (kinds.Del ids) none (outside, legal) = improve_deleted p s t ids legal
least_stays p s t (kinds.RedBegin c images) none (outside, legal) = (begin_logs s t c images legal).0
least_stays p s t (kinds.Goal name) none legal = (goal_logs p s t name legal).0
least_stays p s t kinds.End none legal = (end_logs p s t legal).0

pub least_kept : (p : Opb) (a b : State) (steps : List Step) → p.objective ≡ None → Leads p a steps b → b.least ≡ a.least
least_kept p a b [] none same = ap (λ (u : State). u.least) same
least_kept p a b (x ∷ xs) none (m, first, rest) = least_kept p m b xs none rest ∙ least_stays p a m x none first

further : (start : Option ℤ) (v w : ℤ) → Below start v → w <ℤ v → Below start w
further None v w b h = tt
further (Some least) v w b h = omega (arith, ints, b, h)

-- values below what there was before fall to the least one
abbrev FallsFrom : Option ℤ → List ℤ → Option ℤ → Type 0
FallsFrom start values end = All (Below start) values × IsFalling values × (last_or values start ≡ end)

made : (start end : Option ℤ) (value : ℤ) (later : List ℤ) → Below start value → FallsFrom (Some value) later end → FallsFrom start (value ∷ later) end
unfolding last_or
made start end value later below g = (
  All-cons (Below start) value later below (All-weaker (λ w. w <ℤ value) (Below start) (λ w h. further start value w below h) later g.0),
  (g.0, g.1),
  g.2,
)

behind : (start between end : Option ℤ) (new later : List ℤ) → OneStep start new between → FallsFrom between later end → FallsFrom start (new ++ later) end
behind start between end new later (inl (none, same)) f =
    subst (λ vs. FallsFrom start (vs ++ later) end) (sym none) (subst (λ o. FallsFrom o later end) same f)
behind start between end new later (inr (value, is, now, below)) f =
    subst (λ vs. FallsFrom start (vs ++ later) end) (sym is) (made start end value later below (subst (λ o. FallsFrom o later end) now f))

falls : (p : Opb) (a b : State) (steps : List Step) (values : List ℤ) → LeadsImproving p a steps b values → FallsFrom a.least values b.least
unfolding last_or
falls p a b [] values (same, none) =
    subst (λ vs. FallsFrom a.least vs b.least) (sym none) (All-nil (Below a.least), tt, sym (ap (λ (u : State). u.least) same))
falls p a b (x ∷ xs) values (between, first, (later, is, rest)) =
    subst (λ vs. FallsFrom a.least vs b.least) (sym is)
    (behind a.least between.least b.least (improvement x between) later (one_step p a between x first) (falls p between b xs later rest))

last_is : (x : ℤ) (xs : List ℤ) → last_of (x ∷ xs) ≡ last_or xs (Some x)
unfolding last_or
last_is x [] = refl
last_is x (y ∷ ys) = last_is y ys

last_same : (values : List ℤ) → last_of values ≡ last_or values None
unfolding last_or
last_same [] = refl
last_same (x ∷ xs) = last_is x xs

from_start : (start end : Option ℤ) (values : List ℤ) → start ≡ None → FallsFrom start values end → IsFalling values × (last_of values ≡ end)
from_start start end values none f =
    (f.1, last_same values ∙ sym (ap (last_or values) none) ∙ f.2)

pub values_fall : (l : Logbook) → IsProof l → IsFalling l.improved × (last_of l.improved ≡ l.state.least)
values_fall l proof =
    from_start proof.start.least l.state.least l.improved (ap (λ (u : State). u.least) proof.starts.2)
    (falls l.problem proof.start l.state proof.steps l.improved proof.improves)
