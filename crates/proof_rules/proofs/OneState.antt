-- A legal step leads to one state, and a justified conclusion comes with one best solution.
use Rattle.std.proofs.Common.{◌≡◌, ℕ, pos, ◌-ℤ◌, ◌<ℤ◌, ◌≤ℤ◌, Bool, List, [], ◌∷◌, ◌++◌, Option, Some, None, All, refl, sym, ap, subst, ◌∙◌, arith}
use Rattle.std.proofs.lemmas.Int.{ints}
use Rattle.std.proofs.lemmas.List.Elements.{All-head, All-tail}
use Rattle.linear.specs.declared.constraint.Signed.{Signed}
use Rattle.linear.specs.declared.term.Lit.{Lit}
use Rattle.linear.specs.Opb.{Opb}
use Rattle.normal_form.specs.Normal.{NormalConstraint}
use Rattle.normal_form.specs.Negation.{IsNegation}
use Rattle.normal_form.proofs.Negations.{one_negation}
use Rattle.substitution.specs.Images.{Images}
use Rattle.normal_form.specs.NormalOf.{IsNormalOf}
use Rattle.normal_form.proofs.NormalForm.{one_form}
use Rattle.proof_steps.specs.declared.conclusion.Conclusion.{Conclusion}
use Rattle.proof_steps.specs.declared.step.GoalName.{GoalName}
use Rattle.proof_steps.specs.declared.step.Step.{Step}
use Rattle.proof_steps.specs.declared.step.Step.TheVariants as steps
use Rattle.proof_rules.specs.Justified.{IsBest, IsJustified, hint_of}
use Rattle.proof_rules.specs.Block.{new_block, with_block, with_goal, Asks, EndsOpen, LegalRedBegin, LegalGoal, LegalEnd}
use Rattle.proof_rules.specs.Legal.{Adds, Legal, with_solution, worth_of, with_improvement, LegalRed, LegalSol, LegalSoli}
use Rattle.proof_rules.specs.Solution.{at_most}
use Rattle.proof_rules.specs.State.{State, Block, constraint_of, with_constraint}
use Rattle.proof_rules.proofs.ConclusionJudged.{one_hint}
use Rattle.proof_rules.proofs.Determined.{one_polish}
use Rattle.proof_rules.proofs.NotLegal.{one_admitted, one_asked, rises_asked, one_block, one_deletion, one_objective}
use Rattle.proof_rules.proofs.SolJudged.{one_log}

one_addition : (s t u : State) (n m : NormalConstraint) → n ≡ m → Adds n s t → Adds m s u → t ≡ u
one_addition s t u n m same adds also = adds.1 ∙ ap (λ k. with_constraint k s) same ∙ sym also.1

one_improvement : (p : Opb) (s t u : State) (assigned : List Lit) → LegalSoli p s assigned t → LegalSoli p s assigned u → t ≡ u
one_improvement p s t u assigned (objective, g, n, better, is) (other, h, m, also, is') =
    let objectives : objective ≡ other = one_objective p.objective objective other better.minimises also.minimises in
    let solutions : g ≡ h = one_log p s assigned g h better.logs also.logs in
    let form : IsNormalOf (at_most objective (worth_of p g -ℤ pos 1)) m =
    subst (λ b. IsNormalOf (at_most objective (worth_of p b -ℤ pos 1)) m) (sym solutions)
    (subst (λ o. IsNormalOf (at_most o (worth_of p h -ℤ pos 1)) m) (sym objectives) also.form) in
    let forms : n ≡ m = one_form (at_most objective (worth_of p g -ℤ pos 1)) n m better.form form in
    is ∙ ap (λ b. with_improvement p b n s) solutions ∙ ap (λ k. with_improvement p h k s) forms ∙ sym is'

one_begin : (s t u : State) (c : Signed) (images : Images) → LegalRedBegin s c images t → LegalRedBegin s c images u → t ≡ u
one_begin s t u c images (n, m, admitted, negated, fits, room, is) (k, j, admitted', negated', fits', room', is') =
    let same : k ≡ n = one_admitted c k n admitted' admitted in
    let other : m ≡ j = one_negation n m j admitted.form.rises negated (subst (λ x. IsNegation x j) same negated') in
    is ∙ ap (λ x. with_block (new_block n images s.next) x s) other ∙ ap (λ x. with_block (new_block x images s.next) j s) (sym same) ∙ sym is'

one_goal : (p : Opb) (s t u : State) (name : GoalName) → LegalGoal p s name t → LegalGoal p s name u → t ≡ u
one_goal p s t u name (k, r, m, some, none, asks, negated, fits, room, is) (j, q, i, some', none', asks', negated', fits', room', is') =
    let same : j ≡ k = one_block s.block j k some' some in
    let asked : q ≡ r = one_asked p s k name q r (subst (λ b. Asks p s b name q) same asks') asks in
    let other : m ≡ i = one_negation r m i (rises_asked p s k name r asks) negated (subst (λ x. IsNegation x i) asked negated') in
    is ∙ ap (λ x. with_block (with_goal s.next name k) x s) other ∙ ap (λ b. with_block (with_goal s.next name b) i s) (sym same) ∙ sym is'

one_open_end : (p : Opb) (s t u : State) (k : Block) (o : Option ℕ) → EndsOpen p s k o t → EndsOpen p s k o u → t ≡ u
one_open_end p s t u k (Some goal) (shown, is) (shown', is') = is ∙ sym is'
one_open_end p s t u k None ends also = ends.becomes ∙ sym also.becomes

one_end : (p : Opb) (s t u : State) → LegalEnd p s t → LegalEnd p s u → t ≡ u
one_end p s t u (k, some, ends) (j, some', also) =
    one_open_end p s t u k k.goal ends (subst (λ b. EndsOpen p s b b.goal u) (one_block s.block j k some' some) also)

one_solution : (p : Opb) (s t u : State) (assigned : List Lit) → LegalSol p s assigned t → LegalSol p s assigned u → t ≡ u
one_solution p s t u assigned (g, logs, is) (h, also, is') = is ∙ ap (λ b. with_solution b s) (one_log p s assigned g h logs also) ∙ sym is'

one_red : (p : Opb) (s t u : State) (c : Signed) (images : Images) → LegalRed p s c images t → LegalRed p s c images u → t ≡ u
one_red p s t u c images (n, k, admitted, r, adds) (m, j, admitted', r', also) = one_addition s t u n m (one_admitted c n m admitted admitted') adds also

pub one_state : (p : Opb) (s t u : State) (step : Step) → Legal p s step t → Legal p s step u → t ≡ u
one_state p s t u (steps.Pol written) (n, polish, adds) (m, polish', also) = one_addition s t u n m (one_polish (constraint_of s) written n m polish polish') adds also
one_state p s t u (steps.Rup c) (n, admitted, shown, adds) (m, admitted', shown', also) = one_addition s t u n m (one_admitted c n m admitted admitted') adds also
one_state p s t u (steps.Red c images) legal also = one_red p s t u c images legal.1 also.1
one_state p s t u (steps.Sol assigned) legal also = one_solution p s t u assigned legal.1 also.1
one_state p s t u (steps.Soli assigned) legal also = one_improvement p s t u assigned legal.1 also.1
one_state p s t u (steps.Del ids) legal also = one_deletion s t u ids legal.1 also.1
one_state p s t u (steps.RedBegin c images) legal also = one_begin s t u c images legal.1 also.1
one_state p s t u (steps.Goal name) legal also = one_goal p s t u name legal also
one_state p s t u steps.End legal also = one_end p s t u legal also

-- the best of logged solutions

abbrev Logged : Type 0
Logged = List (List Bool)

All-middle : (P : List Bool → Type 0) (xs : Logged) (g : List Bool) (ys : Logged) → All P (xs ++ g ∷ ys) → P g
All-middle P [] g ys all = All-head P g ys all
All-middle P (x ∷ xs) g ys all = All-middle P xs g ys (All-tail P x (xs ++ g ∷ ys) all)

-- two places of one list, each the first of the least
one_place : (p : Opb) (before other behind more : Logged) (g h : List Bool) → before ++ g ∷ behind ≡ other ++ h ∷ more
    → All (λ x. worth_of p g <ℤ worth_of p x) before → All (λ x. worth_of p g ≤ℤ worth_of p x) behind
    → All (λ x. worth_of p h <ℤ worth_of p x) other → All (λ x. worth_of p h ≤ℤ worth_of p x) more → g ≡ h
one_place p [] [] behind more g h same less least less' least' = cc
one_place p [] (y ∷ ys) behind more g h same less least less' least' =
    let first : g ≡ y = cc in
    let rest : behind ≡ ys ++ h ∷ more = cc in
    let up : worth_of p g ≤ℤ worth_of p h = All-middle (λ x. worth_of p g ≤ℤ worth_of p x) ys h more (subst (All (λ x. worth_of p g ≤ℤ worth_of p x)) rest least) in
    let down : worth_of p h <ℤ worth_of p y = All-head (λ x. worth_of p h <ℤ worth_of p x) y ys less' in
    absurd (omega (arith, ints, up, down, ap (worth_of p) first))
one_place p (x ∷ xs) [] behind more g h same less least less' least' =
    let first : x ≡ h = cc in
    let rest : xs ++ g ∷ behind ≡ more = cc in
    let up : worth_of p h ≤ℤ worth_of p g = All-middle (λ z. worth_of p h ≤ℤ worth_of p z) xs g behind (subst (All (λ z. worth_of p h ≤ℤ worth_of p z)) (sym rest) least') in
    let down : worth_of p g <ℤ worth_of p x = All-head (λ z. worth_of p g <ℤ worth_of p z) x xs less in
    absurd (omega (arith, ints, up, down, ap (worth_of p) first))
one_place p (x ∷ xs) (y ∷ ys) behind more g h same less least less' least' =
    let rest : xs ++ g ∷ behind ≡ ys ++ h ∷ more = cc in
    one_place p xs ys behind more g h rest (All-tail (λ z. worth_of p g <ℤ worth_of p z) x xs less) least (All-tail (λ z. worth_of p h <ℤ worth_of p z) y ys less') least'

nothing_there : (before behind : Logged) (g : List Bool) → before ++ g ∷ behind ≡ [] → ⊥
nothing_there [] behind g is = absurd (cc)
nothing_there (x ∷ xs) behind g is = absurd (cc)

pub one_best : (p : Opb) (logged : Logged) (best other : Option (List Bool)) → IsBest p logged best → IsBest p logged other → best ≡ other
one_best p logged None None is also = refl
one_best p logged None (Some h) none (before, behind, is, less, least) = absurd (nothing_there before behind h (sym is ∙ none))
one_best p logged (Some g) None (before, behind, is, less, least) none = absurd (nothing_there before behind g (sym is ∙ none))
one_best p logged (Some g) (Some h) (before, behind, is, less, least) (other, more, is', less', least') =
    ap (λ b. Some b) (one_place p before other behind more g h (sym is ∙ is') less least less' least')

pub one_justified : (p : Opb) (s : State) (c : Conclusion) (best other : Option (List Bool)) → IsJustified p s c best → IsJustified p s c other → best ≡ other
one_justified p s c best other (outside, (t, takes, entitles, is)) (outside', (u, also, entitled, is')) =
    one_best p t.logged best other is (subst (λ v. IsBest p v.logged other) (sym (one_hint p s (hint_of c) t u takes also)) is')
