-- Where there is an objective, what the logged solutions are worth is what was improved to; so the best one is worth the least value.
use Rattle.std.proofs.Common.{◌≡◌, ℤ, ◌<ℤ◌, ◌≤ℤ◌, Bool, false, List, [], ◌∷◌, ◌++◌, map, Option, None, Some, All, IfSome, is_none, refl, sym, ap, subst, ◌∙◌, arith}
use Rattle.std.specs.Prelude.{MatchOption, ⊤}
use Rattle.std.proofs.lemmas.Bool.{false≢true}
use Rattle.std.proofs.lemmas.Int.{ints}
use Rattle.std.proofs.lemmas.List.{append-nil}
use Rattle.std.proofs.lemmas.List.Elements.{All-head}
use Rattle.linear.specs.Opb.{Opb}
use Rattle.linear.specs.declared.term.Term.{Term}
use Rattle.proof_steps.specs.declared.step.Step.{Step}
use Rattle.proof_steps.specs.declared.step.Step.TheVariants as kinds
use Rattle.proof_rules.specs.Justified.{IsBest}
use Rattle.proof_rules.specs.Legal.{Legal, LegalDel, without, worth_of}
use Rattle.proof_rules.specs.State.{State, IsStart, id_of}
use Rattle.proof_log.specs.Log.{AllImprove, ImprovesIfAsked, IsFalling, IsProof, IsWorthLeast, Logbook, improvement, last_of, value_list}
use Rattle.proof_log.proofs.Blocks.{begin_logs, end_logs, goal_logs}
use Rattle.proof_log.proofs.Improving.{values_fall}

weaker : {X : Type 0} (o : Option X) (P Q : X → Type 0) → ((x : X) → P x → Q x) → IfSome o P → IfSome o Q
weaker None P Q f h = tt
weaker (Some x) P Q f h = f x h

-- nothing was logged, and nothing improved to
pub none_logged : (p : Opb) (s : State) (values : List ℤ) → IsStart p s → values ≡ [] → AllImprove p s values
none_logged p s values start none = by p.objective
  where
    by : (o : Option (List Term)) → IfSome o (λ _. map (worth_of p) s.logged ≡ values)
    by None = tt
    by (Some objective) = ap (λ (u : State). map (worth_of p) u.logged) start.2 ∙ sym none

as_before : (p : Opb) (s t : State) (values : List ℤ) → t.logged ≡ s.logged → AllImprove p s values → AllImprove p t (values ++ [])
as_before p s t values same =
    weaker p.objective (λ _. map (worth_of p) s.logged ≡ values) (λ _. map (worth_of p) t.logged ≡ values ++ [])
    (λ objective h. ap (map (worth_of p)) same ∙ h ∙ sym (append-nil values))

logged_deleted : (s t : State) (ids : List ℤ) → LegalDel s ids t → t.logged ≡ s.logged
logged_deleted s t [] same = ap (λ (u : State). u.logged) same
logged_deleted s t (id ∷ ids) (deletable, rest) = logged_deleted (without (id_of s.next id) s) t ids rest

map_behind : {X Y : Type 0} (f : X → Y) (xs : List X) (x : X) → map f (xs ++ x ∷ []) ≡ map f xs ++ f x ∷ []
map_behind f [] x = refl
map_behind f (y ∷ ys) x = ap (λ zs. f y ∷ zs) (map_behind f ys x)

-- one step more
pub all_improve_more : (p : Opb) (s t : State) (values : List ℤ) (step : Step) → ImprovesIfAsked p step → Legal p s step t → AllImprove p s values
    → AllImprove p t (values ++ improvement step t)
all_improve_more p s t values (kinds.Pol items) asked (m, written, adds) h = as_before p s t values (ap (λ (u : State). u.logged) adds.1) h
all_improve_more p s t values (kinds.Rup c) asked (m, admitted, shown, adds) h = as_before p s t values (ap (λ (u : State). u.logged) adds.1) h
all_improve_more p s t values (kinds.Red c images) asked (outside, (m, k, admitted, redundant, adds)) h = as_before p s t values (ap (λ (u : State). u.logged) adds.1) h
all_improve_more p s t values (kinds.Sol assigned) none legal h = subst (λ o. IfSome o (λ _. map (worth_of p) t.logged ≡ values ++ [])) (sym none) tt
all_improve_more p s t values (kinds.Soli assigned) asked (outside, (objective, g, m, improves, is)) h =
    weaker p.objective (λ _. map (worth_of p) s.logged ≡ values) (λ _. map (worth_of p) t.logged ≡ values ++ value_list t.least)
    (λ terms before.
    ap (λ (u : State). map (worth_of p) u.logged) is ∙ map_behind (worth_of p) s.logged g ∙ ap (λ vs. vs ++ worth_of p g ∷ []) before
    ∙ ap (λ (u : State). values ++ value_list u.least) (sym is)) h
all_improve_more p s t values (kinds.Del ids) asked (outside, legal) h = as_before p s t values (logged_deleted s t ids legal) h
all_improve_more p s t values (kinds.RedBegin c images) asked (outside, legal) h = as_before p s t values (begin_logs s t c images legal).1 h
all_improve_more p s t values (kinds.Goal name) asked legal h = as_before p s t values (goal_logs p s t name legal).1 h
all_improve_more p s t values kinds.End asked legal h = as_before p s t values (end_logs p s t legal).1 h

-- of values that fall, one that is no more than all behind it is the last
falls_to : (worth : List Bool → ℤ) (before behind : List (List Bool)) (g : List Bool) → IsFalling (map worth (before ++ g ∷ behind))
    → All (λ h. worth g ≤ℤ worth h) behind → last_of (map worth (before ++ g ∷ behind)) ≡ Some (worth g)
falls_to worth [] [] g falling least = refl
falls_to worth [] (h ∷ hs) g falling least =
    let below : worth h <ℤ worth g = All-head (λ v. v <ℤ worth g) (worth h) (map worth hs) falling.0 in
    let above : worth g ≤ℤ worth h = All-head (λ k. worth g ≤ℤ worth k) h hs least in
    absurd (omega (arith, ints, below, above))
falls_to worth (b ∷ []) behind g falling least = falls_to worth [] behind g falling.1 least
falls_to worth (b ∷ c ∷ before) behind g falling least = falls_to worth (c ∷ before) behind g falling.1 least

-- the best logged solution is worth the least value
pub best_is_least : (l : Logbook) (best : List Bool) → IsProof l → IsBest l.problem l.state.logged (Some best) → IsWorthLeast l best
best_is_least l best proof (before, behind, is, above, least) = by l.problem.objective proof.solutions
  where
    by : (o : Option (List Term)) → IfSome o (λ _. map (worth_of l.problem) l.state.logged ≡ l.improved)
        → MatchOption o ⊤ (λ _. l.state.least ≡ Some (worth_of l.problem best))
    by None h = tt
    by (Some objective) h =
        let falls = values_fall l proof in
        let all : map (worth_of l.problem) (before ++ best ∷ behind) ≡ l.improved = ap (map (worth_of l.problem)) (sym is) ∙ h in
        sym falls.1 ∙ ap last_of (sym all) ∙ falls_to (worth_of l.problem) before behind best (subst IsFalling (sym all) falls.0) least

pub any_best_is_least : (l : Logbook) (best : Option (List Bool)) → IsProof l → IsBest l.problem l.state.logged best → IfSome best (IsWorthLeast l)
any_best_is_least l None proof is = tt
any_best_is_least l (Some best) proof is = best_is_least l best proof is

none_some : {X : Type 0} (x : X) → None ≡ Some x → ⊥
none_some x e = cc

-- where there is a best solution, and no least value, there is no objective
pub nothing_asked : (l : Logbook) (best : Option (List Bool)) (none : Bool) → none ≡ is_none best → none ≡ false → IfSome best (IsWorthLeast l) → l.state.least ≡ None → l.problem.objective ≡ None
nothing_asked l None none is some worth nothing = absurd (false≢true (sym some ∙ is))
nothing_asked l (Some best) none is some worth nothing = by l.problem.objective worth
  where
    by : (o : Option (List Term)) → MatchOption o ⊤ (λ _. l.state.least ≡ Some (worth_of l.problem best)) → o ≡ None
    by None h = refl
    by (Some objective) h = absurd (none_some (worth_of l.problem best) (sym nothing ∙ h))
