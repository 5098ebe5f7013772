-- A fixpoint of all variables of a file satisfies it.
use Rattle.std.proofs.Common.{◌≡◌, ℕ, zero, suc, ◌+◌, ◌<◌, ◌≤◌, ℤ, pos, ◌-ℤ◌, neg_ℤ, ◌<ℤ◌, inl, inr, Bool, true, false, cond, not, ◌==◌, List, [], ◌∷◌, ◌++◌, map, length, get_or, All, Contains, Option, None, Some, IfSome, refl, sym, ap, subst, ◌∙◌, arith}
use Rattle.std.proofs.lemmas.Bool.{false≢true, cases_lt, cases_eq}
use Rattle.std.proofs.lemmas.Bool.Decides.{nat_tests}
use Rattle.std.proofs.lemmas.Int.{ints}
use Rattle.std.proofs.lemmas.List.{length-append, get_or_append_left}
use Rattle.std.proofs.lemmas.List.Elements.{All-nil, All-cons, All-head, All-tail, All-map, All-weaker, Contains-append_left, Contains-append_right}
use Rattle.std.proofs.Math.Seq.{get_or-append_seam}
use Rattle.linear.specs.Limits.{IsTermWithin, IsConstraintWithin, IsSumWithin, IsWithin}
use Rattle.linear.specs.Opb.{Opb, Satisfies, objective_value}
use Rattle.linear.specs.Sum.{sum_of, Meets}
use Rattle.linear.specs.Valuation.{Valuation, literal_true, valuation_of}
use Rattle.linear.specs.declared.constraint.Relation.{Relation}
use Rattle.linear.specs.declared.constraint.Relation.TheVariants as relations
use Rattle.linear.specs.declared.constraint.Signed.{Signed}
use Rattle.linear.specs.declared.term.Lit.{Lit}
use Rattle.linear.specs.declared.term.Term.{Term}
use Rattle.normal_form.specs.declared.term.NormalTerm.{NormalTerm}
use Rattle.normal_form.specs.Normal.{Literals, NormalConstraint, sum_over, only, coefficient, Rises, Holds}
use Rattle.normal_form.specs.NormalOf.{IsNormalOf, at_least_zero, net, slope, sign_changed}
use Rattle.normal_form.proofs.NormalForm.{form, form_is, form_meaning}
use Rattle.normal_form.proofs.SetSums.{only_itself}
use Rattle.normal_form.proofs.SignChanges.{both_meaning, sign_changed_sum}
use Rattle.propagate.specs.Chain.{IsFixpoint}
use Rattle.propagate.specs.Literals.{among, lists, IsConsistent}
use Rattle.propagate.specs.Slack.{not_false}
use Rattle.proof_rules.specs.Forms.{AreFormsAs, AreFormsOfAll}
use Rattle.proof_rules.specs.Legal.{Logs, LegalSol, LegalSoli, with_solution, with_improvement, worth_of}
use Rattle.proof_rules.specs.Solution.{literal_for, NamesAll, value_at, SaysAll, Completes, at_most}
use Rattle.proof_rules.specs.State.{State, HasRoom, constraints}
use Rattle.proof_log.specs.Kept.{FileIsLive, ImprovementIsLive}

-- the values that an assignment gives the first variables
table : ℕ → List Lit → List Bool
table zero assigned = []
table (suc n) assigned = table n assigned ++ among assigned n false ∷ []

table_length : (n : ℕ) (assigned : List Lit) → length (table n assigned) ≡ n
unfolding table
table_length zero assigned = refl
table_length (suc n) assigned = omega (arith, length-append (table n assigned) (among assigned n false ∷ []), table_length n assigned)

table_at : (n : ℕ) (assigned : List Lit) (v : ℕ) → v < n → value_at (table n assigned) v ≡ among assigned v false
unfolding table
table_at zero assigned v below = absurd (omega (arith, below))
table_at (suc n) assigned v below = elim (cases_eq v (length (table n assigned))) as (λ _. value_at (table n assigned ++ among assigned n false ∷ []) v ≡ among assigned v false) [
  | inl is ↦
      ap (λ k. get_or (table n assigned ++ among assigned n false ∷ []) k false) is ∙ get_or-append_seam (table n assigned) (among assigned n false) [] false
      ∙ ap (λ k. among assigned k false) (sym (is ∙ table_length n assigned))
  | inr fails ↦
      let before : v < length (table n assigned) = omega (arith, below, table_length n assigned, fails) in
      get_or_append_left (table n assigned) (among assigned n false ∷ []) false v before ∙ table_at n assigned v (omega (arith, before, table_length n assigned))
]

-- a named variable's literal is listed with the value of the table
says_here : (assigned : List Lit) (v : ℕ) → IsConsistent assigned → (value : Bool) → lists assigned (literal_for v value) ≡ true → lists assigned (literal_for v (among assigned v false)) ≡ true
says_here assigned v consistent true h = subst (λ b. lists assigned (literal_for v b) ≡ true) (sym h) h
says_here assigned v consistent false h = by (among assigned v false) refl
  where
    by : (b : Bool) → among assigned v false ≡ b → lists assigned (literal_for v (among assigned v false)) ≡ true
    by true e = absurd (consistent (literal_for v true, e, h))
    by false e = subst (λ b. lists assigned (literal_for v b) ≡ true) (sym e) h

table_says : (n : ℕ) (assigned : List Lit) → IsConsistent assigned → NamesAll n assigned → SaysAll assigned (table n assigned)
table_says n assigned consistent names v below =
    let inside : v < n = subst (λ k. v < k) (table_length n assigned) below in
    let value = names v inside in
    subst (λ b. lists assigned (literal_for v b) ≡ true) (sym (table_at n assigned v inside)) (says_here assigned v consistent value.0 value.1)

table_completes : (live : List NormalConstraint) (n : ℕ) (assigned : List Lit) → IsConsistent assigned → NamesAll n assigned → Completes live n assigned (table n assigned)
table_completes live n assigned consistent names =
    record { consistent = consistent; long = table_length n assigned; completed = inl (names, table_says n assigned consistent names) }

-- a literal of a named variable that is not made false is true
abbrev Decides : ℕ → List Lit → Valuation → Type 0
Decides count assigned a = (v : ℕ) (s : Bool) → v < count → not_false assigned v s ≡ true → literal_true a v s ≡ true

decided : (assigned : List Lit) (v : ℕ) (b : Bool) → lists assigned (literal_for v b) ≡ true → (s : Bool) → not_false assigned v s ≡ true → cond s (not b) b ≡ true
decided assigned v true h false free = refl
decided assigned v true h true free = absurd (false≢true (sym (ap not h) ∙ free))
decided assigned v false h false free = absurd (false≢true (sym (ap not h) ∙ free))
decided assigned v false h true free = refl

table_decides : (n : ℕ) (assigned : List Lit) → IsConsistent assigned → NamesAll n assigned → Decides n assigned (valuation_of (table n assigned))
table_decides n assigned consistent names v s below free =
    decided assigned v (value_at (table n assigned) v) (table_says n assigned consistent names v (subst (λ k. v < k) (sym (table_length n assigned)) below)) s free

-- variables that do not occur have no coefficient
abbrev Names : ℕ → List Term → Type 0
Names count ts = All (λ t. t.var.0 < count) ts

other_variable : (w v count : ℕ) (z : ℤ) → w < count → count ≤ v → cond (w == v) z (pos 0) ≡ pos 0
other_variable w v count z h k = let other : (w == v) ≡ false = grind (arith, nat_tests) in ap {B = ℤ} (λ b. cond b z (pos 0)) other

net_beyond : (count : ℕ) (ts : List Term) (v : ℕ) → Names count ts → count ≤ v → net ts v ≡ pos 0
net_beyond count [] v h k = refl
net_beyond count (t ∷ ts) v h k =
    let here = other_variable (t.var.0) v count (slope t) (All-head (λ (u : Term). u.var.0 < count) t ts h) k in
    let rest = net_beyond count ts v (All-tail (λ (u : Term). u.var.0 < count) t ts h) k in
    omega (arith, ints, here, rest)

occurring : (count : ℕ) (c : Signed) (n : NormalConstraint) (v : ℕ) (s : Bool) → Names count c.terms → IsNormalOf c n → 0 < coefficient n v s → v < count
occurring count c n v s h f some = elim (cases_lt v count) as (λ _. v < count) [
  | inl below ↦ below
  | inr beyond ↦ absurd (nowhere s some (net_beyond count c.terms v h beyond))
]
  where
    nowhere : (s : Bool) → 0 < coefficient n v s → net c.terms v ≡ pos 0 → ⊥
    nowhere true some none = omega (arith, some, f.negated v, ap (λ z. at_least_zero (neg_ℤ z)) none)
    nowhere false some none = omega (arith, some, f.plain v, ap at_least_zero none)

-- a set that has what occurs of another has no smaller sum
part_within : (b d : Bool) (c : ℕ) → (b ≡ true → d ≡ true) → cond b c 0 ≤ cond d c 0
part_within true d c h = omega (arith, ap {B = ℕ} (λ (x : Bool). cond x c 0) (h refl))
part_within false d c h = omega arith

own_part : (b : Bool) (c rest : ℕ) → b ≡ true → 0 < c → 0 < cond b c 0 + rest
own_part true c rest h some = omega (arith, some)
own_part false c rest h some = absurd (false≢true h)

sum_occurring : (p q : Literals) (low : ℕ) (ts : List NormalTerm) → Rises low ts → ((v : ℕ) (s : Bool) → 0 < sum_over (only v s) ts → p v s ≡ true → q v s ≡ true)
    → sum_over p ts ≤ sum_over q ts
sum_occurring p q low [] rises h = omega arith
sum_occurring p q low (t ∷ ts) rises h =
    let x = t.var.0 in
    let y = t.negated in
    let here = part_within (p x y) (q x y) t.coef (h x y (own_part (only x y x y) t.coef (sum_over (only x y) ts) (only_itself x y) rises.1)) in
    let rest = sum_occurring p q (x + 1) ts rises.2 (λ v s some. h v s (omega (arith, some))) in
    omega (arith, here, rest)

-- a live constraint of these variables holds
fixpoint_holds : (count : ℕ) (live : List NormalConstraint) (assigned : List Lit) (a : Valuation) (c : Signed) (n : NormalConstraint) → Names count c.terms → IsNormalOf c n
    → Contains live n → IsFixpoint live assigned → Decides count assigned a → Holds a n
fixpoint_holds count live assigned a c n names f here fixpoint decides = elim (cases_lt (sum_over (not_false assigned) n.terms) n.degree) as (λ _. Holds a n) [
  | inl falsified ↦ absurd (fixpoint.no_conflict (here.0, n, here.1, here.2, omega (arith, ints, falsified)))
  | inr enough ↦
      let more = sum_occurring (not_false assigned) (literal_true a) 0 n.terms f.rises (λ v s some. decides v s (occurring count c n v s names f some)) in
      omega (arith, enough, more)
]

changed_names : (count : ℕ) (ts : List Term) → Names count ts → Names count (map sign_changed ts)
changed_names count ts h = All-map (λ (t : Term). t.var.0 < count) sign_changed ts h

-- what is within the limits has the file's variables
within_names : (count : ℕ) (ts : List Term) → All (IsTermWithin count) ts → Names count ts
within_names count ts h = All-weaker (IsTermWithin count) (λ t. t.var.0 < count) (λ t w. w.variable) ts h

first_of : (n : NormalConstraint) (rest : List NormalConstraint) → Contains (n ∷ rest) n
first_of n rest = (0, omega arith, refl)

second_of : (n m : NormalConstraint) → Contains (n ∷ m ∷ []) m
second_of n m = (1, omega arith, refl)

one_met : (count : ℕ) (live : List NormalConstraint) (assigned : List Lit) (a : Valuation) (r : Relation) (c : Signed) (ns : List NormalConstraint) → c.relation ≡ r → AreFormsAs r c ns
    → Names count c.terms → ((n : NormalConstraint) → Contains ns n → Contains live n) → IsFixpoint live assigned → Decides count assigned a → Meets a c
one_met count live assigned a relations.AtLeast c ns same (n, is, f) names inside fixpoint decides =
    let there : Contains live n = inside n (subst (λ xs. Contains xs n) (sym is) (first_of n [])) in
    (form_meaning c n same f a).0 (fixpoint_holds count live assigned a c n names f there fixpoint decides)
one_met count live assigned a relations.Equal c ns same (n, m, is, f) names inside fixpoint decides =
    let there : Contains live n = inside n (subst (λ xs. Contains xs n) (sym is) (first_of n (m ∷ []))) in
    let also : Contains live m = inside m (subst (λ xs. Contains xs m) (sym is) (second_of n m)) in
    (both_meaning c n m same f a).0 (
      fixpoint_holds count live assigned a c n names f.at_least there fixpoint decides,
      fixpoint_holds count live assigned a (Rattle.normal_form.specs.NormalOf.signs_changed c) m (changed_names count c.terms names) f.at_most also fixpoint decides,
    )

all_met : (count : ℕ) (live : List NormalConstraint) (assigned : List Lit) (a : Valuation) (cs : List Signed) (ns : List NormalConstraint) → AreFormsOfAll cs ns
    → All (IsConstraintWithin count) cs → ((n : NormalConstraint) → Contains ns n → Contains live n) → IsFixpoint live assigned → Decides count assigned a → All (Meets a) cs
all_met count live assigned a [] ns forms within inside fixpoint decides = All-nil (Meets a)
all_met count live assigned a (c ∷ cs) ns (here, rest, is, f, forms) within inside fixpoint decides =
    let first = All-head (IsConstraintWithin count) c cs within in
    let all : (n : NormalConstraint) → Contains (here ++ rest) n → Contains live n = λ n k. inside n (subst (λ xs. Contains xs n) (sym is) k) in
    All-cons (Meets a) c cs
    (one_met count live assigned a c.relation c here refl f (within_names count c.terms first.sum.each) (λ n k. all n (Contains-append_left here rest n k)) fixpoint decides)
    (all_met count live assigned a cs rest forms (All-tail (IsConstraintWithin count) c cs within) (λ n k. all n (Contains-append_right here rest n k)) fixpoint decides)

table_satisfies : (p : Opb) (live : List NormalConstraint) (assigned : List Lit) → IsWithin p → IsConsistent assigned → NamesAll (length p.names) assigned → FileIsLive p live
    → IsFixpoint live assigned → Satisfies (valuation_of (table (length p.names) assigned)) p
table_satisfies p live assigned within consistent names (ns, forms, inside) fixpoint =
    all_met (length p.names) live assigned (valuation_of (table (length p.names) assigned)) p.constraints ns forms within.constraints inside fixpoint
    (table_decides (length p.names) assigned consistent names)

table_logs : (p : Opb) (s : State) (assigned : List Lit) → IsWithin p → IsConsistent assigned → NamesAll (length p.names) assigned → FileIsLive p (constraints s)
    → IsFixpoint (constraints s) assigned → Logs p s assigned (table (length p.names) assigned)
table_logs p s assigned within consistent names file fixpoint = record {
  completes = table_completes (constraints s) (length p.names) assigned consistent names;
  satisfies = table_satisfies p (constraints s) assigned within consistent names file fixpoint;
}

pub fixpoint_sol : (p : Opb) (s : State) (assigned : List Lit) → IsWithin p → IsConsistent assigned → NamesAll (length p.names) assigned → FileIsLive p (constraints s)
    → IsFixpoint (constraints s) assigned → (t : State) × LegalSol p s assigned t
fixpoint_sol p s assigned within consistent names file fixpoint =
    let g : List Bool = table (length p.names) assigned in
    (with_solution g s, (g, table_logs p s assigned within consistent names file fixpoint, refl))

-- it is better than what the improving constraint asks to be better than
better : (p : Opb) (s : State) (objective : List Term) (assigned : List Lit) (g : List Bool) → p.objective ≡ Some objective → Names (length p.names) objective
    → IsFixpoint (constraints s) assigned → Decides (length p.names) assigned (valuation_of g) → ImprovementIsLive objective s → IfSome s.least (λ least. worth_of p g <ℤ least)
better p s objective assigned g is names fixpoint decides live = by s.least live
  where
    below : (least : ℤ) (n : NormalConstraint) → IsNormalOf (at_most objective (least -ℤ pos 1)) n → Contains (constraints s) n → worth_of p g <ℤ least
    below least n f there =
        let a : Valuation = valuation_of g in
        let c : Signed = at_most objective (least -ℤ pos 1) in
        let meets = (form_meaning c n refl f a).0 (fixpoint_holds (length p.names) (constraints s) assigned a c n (changed_names (length p.names) objective names) f there fixpoint decides) in
        let value : worth_of p g ≡ sum_of a objective = ap (objective_value a) is in
        omega (arith, ints, meets, value, sign_changed_sum a objective)

    by : (o : Option ℤ) → IfSome o (λ least. (n : NormalConstraint) × IsNormalOf (at_most objective (least -ℤ pos 1)) n × Contains (constraints s) n)
        → IfSome o (λ least. worth_of p g <ℤ least)
    by None h = tt
    by (Some least) (n, f, there) = below least n f there

pub fixpoint_soli : (p : Opb) (s : State) (objective : List Term) (assigned : List Lit) → IsWithin p → p.objective ≡ Some objective → IsConsistent assigned
    → NamesAll (length p.names) assigned → FileIsLive p (constraints s) → ImprovementIsLive objective s → IsFixpoint (constraints s) assigned → HasRoom s
    → (t : State) × LegalSoli p s assigned t
fixpoint_soli p s objective assigned within is consistent names file live fixpoint room =
    let g : List Bool = table (length p.names) assigned in
    let c : Signed = at_most objective (worth_of p g -ℤ pos 1) in
    let terms : IsSumWithin (length p.names) objective = subst (λ o. IfSome o (IsSumWithin (length p.names))) is within.objective in (
      with_improvement p g (form c) s,
      (
        objective,
        g,
        form c,
        record {
          minimises = is;
          logs = table_logs p s assigned within consistent names file fixpoint;
          better = better p s objective assigned g is (within_names (length p.names) objective terms.each) fixpoint (table_decides (length p.names) assigned consistent names) live;
          form = form_is c;
          room = room;
        },
        refl,
      ),
    )
