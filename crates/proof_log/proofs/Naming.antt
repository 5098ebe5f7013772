-- Every live constraint is over the variables of the file: it is so where a proof begins, and steps that can be written leave it so.
use Rattle.std.proofs.Common.{◌≡◌, ℕ, zero, suc, ◌<◌, ◌≤◌, ◌+ℤ◌, ◌-ℤ◌, neg_ℤ, unsigned_abs, ◌*◌, ◌==◌, ◌&&◌, if◌then◌else◌, ℤ, pos, Bool, true, false, List, [], ◌∷◌, ◌++◌, All, Option, Some, IfSome, map, length, refl, sym, ap, subst, ◌∙◌, arith, inl, inr, ne_eqb}
use Rattle.std.proofs.lemmas.Bool.{cases_lt}
use Rattle.std.proofs.lemmas.List.Elements.{All-append, All-cons, All-head, All-map, All-nil, All-tail, All-weaker}
use Rattle.cut_rules.specs.Rules.{IsAxiom, IsMultiple, IsQuotient, IsSaturation, IsSum, IsWeakening}
use Rattle.linear.specs.Limits.{IsConstraintWithin, IsSumWithin, IsTermWithin, IsWithin}
use Rattle.linear.specs.Opb.{Opb}
use Rattle.linear.specs.declared.constraint.Relation.{Relation}
use Rattle.linear.specs.declared.constraint.Relation.TheVariants as relations
use Rattle.linear.specs.declared.constraint.Signed.{Signed}
use Rattle.linear.specs.declared.term.Lit.{Lit}
use Rattle.linear.specs.declared.term.Term.{Term}
use Rattle.normal_form.specs.Normal.{NormalConstraint, coefficient, only, same_sign, sum_over}
use Rattle.normal_form.specs.declared.term.NormalTerm.{NormalTerm}
use Rattle.normal_form.specs.NormalOf.{IsNormalOf, at_least_zero, net, sign_changed, signs_changed, slope}
use Rattle.proof_steps.specs.declared.step.Item.TheVariants as items
use Rattle.proof_steps.specs.declared.step.Step.{Step}
use Rattle.proof_steps.specs.declared.step.Step.TheVariants as kinds
use Rattle.proof_text.specs.Writable.{IsConstraintWritable, IsItemWritable, IsStepWritable, IsTermWritable}
use Rattle.proof_rules.specs.Expression.{Expression, Given, HasValue, postfix, cited, axiom_of, sum, multiple, quotient, saturated, weakened}
use Rattle.proof_rules.specs.Forms.{AreFormsAs, AreFormsOfAll}
use Rattle.proof_rules.specs.Legal.{Legal, LegalDel, LegalSoli, without, worth_of}
use Rattle.proof_rules.specs.Solution.{at_most}
use Rattle.proof_rules.specs.State.{IsStart, State, constraint_of, id_of, with_constraint}
use Rattle.proof_rules.proofs.LiveConstraints.{All-get, All-insert, All-numbered, All-remove}
use Rattle.proof_log.specs.Log.{ImprovesNothing, StandsAlone}
use Rattle.proof_log.specs.Named.{IsOver, LiveIsNamed}

-- a term of one of so many variables
abbrev IsTermOver : ℕ → Term → Type 0
IsTermOver count t = t.var.0 < count

below : (k v count : ℕ) → (count ≤ v → k ≡ 0) → 0 < k → v < count
below k v count beyond some = elim (cases_lt v count) as (λ _. v < count) [
  | inl less ↦ less
  | inr more ↦ absurd (omega (arith, some, beyond more))
]

beyond_zero : (k v count : ℕ) → (0 < k → v < count) → count ≤ v → k ≡ 0
beyond_zero zero v count within beyond = refl
beyond_zero (suc k) v count within beyond = absurd (omega (arith, within (omega arith), beyond))

-- no literal of a variable beyond them has a coefficient
zero_beyond : (count : ℕ) (n : NormalConstraint) (v : ℕ) (s : Bool) → IsOver count n → count ≤ v → coefficient n v s ≡ 0
zero_beyond count n v s over beyond = beyond_zero (coefficient n v s) v count (over v s) beyond

-- nor has one of terms of the variables
none_beyond : (count v : ℕ) (s : Bool) (ts : List NormalTerm) → All (λ t. t.var.0 < count) ts → count ≤ v → sum_over (only v s) ts ≡ 0
none_beyond count v s [] named beyond = refl
none_beyond count v s (t ∷ ts) named beyond =
    let here : t.var.0 < count = All-head (λ u. u.var.0 < count) t ts named in
    let first : (if only v s (t.var.0) t.negated then t.coef else 0) ≡ 0 =
    ap (λ b. if b && same_sign s t.negated then t.coef else 0) (ne_eqb (t.var.0) v (λ e. omega (arith, here, beyond, e))) in
    omega (arith, first, none_beyond count v s ts (All-tail (λ u. u.var.0 < count) t ts named) beyond)

pub terms_over : (count : ℕ) (ts : List NormalTerm) (degree : ℕ) → All (λ t. t.var.0 < count) ts → IsOver count (record { terms = ts; degree = degree })
terms_over count ts degree named v s = below (sum_over (only v s) ts) v count (none_beyond count v s ts named)

-- terms over the variables have no net coefficient beyond them
net_beyond : (ts : List Term) (count v : ℕ) → All (IsTermOver count) ts → count ≤ v → net ts v ≡ pos 0
net_beyond [] count v named beyond = refl
net_beyond (t ∷ ts) count v named beyond =
    let here : t.var.0 < count = All-head (IsTermOver count) t ts named in
    ap (λ b. (if b then slope t else pos 0) +ℤ net ts v) (ne_eqb (t.var.0) v (λ e. omega (arith, here, beyond, e)))
    ∙ ap (λ z. pos 0 +ℤ z) (net_beyond ts count v (All-tail (IsTermOver count) t ts named) beyond)

pub form_over : (count : ℕ) (c : Signed) (n : NormalConstraint) → All (IsTermOver count) c.terms → IsNormalOf c n → IsOver count n
form_over count c n named form v s = below (coefficient n v s) v count (by s)
  where
    by : (s : Bool) → count ≤ v → coefficient n v s ≡ 0
    by false beyond = form.plain v ∙ ap at_least_zero (net_beyond c.terms count v named beyond)
    by true beyond = form.negated v ∙ ap (λ z. at_least_zero (neg_ℤ z)) (net_beyond c.terms count v named beyond)

-- changed signs change no variable
signs_over : (count : ℕ) (ts : List Term) → All (IsTermOver count) ts → All (IsTermOver count) (map sign_changed ts)
signs_over count ts named = All-map (IsTermOver count) sign_changed ts named

forms_over : (count : ℕ) (r : Relation) (c : Signed) (ns : List NormalConstraint) → All (IsTermOver count) c.terms → AreFormsAs r c ns → All (IsOver count) ns
forms_over count relations.AtLeast c ns named (n, is, form) =
    subst (All (IsOver count)) (sym is) (All-cons (IsOver count) n [] (form_over count c n named form) (All-nil (IsOver count)))
forms_over count relations.Equal c ns named (n, m, is, forms) =
    let other = form_over count (signs_changed c) m (signs_over count c.terms named) forms.at_most in
    subst (All (IsOver count)) (sym is)
    (All-cons (IsOver count) n (m ∷ []) (form_over count c n named forms.at_least) (All-cons (IsOver count) m [] other (All-nil (IsOver count))))

terms_within : (count : ℕ) (ts : List Term) → IsSumWithin count ts → All (IsTermOver count) ts
terms_within count ts within = All-weaker (IsTermWithin count) (IsTermOver count) (λ t w. w.variable) ts within.each

file_over : (count : ℕ) (cs : List Signed) (ns : List NormalConstraint) → AreFormsOfAll cs ns → All (IsConstraintWithin count) cs → All (IsOver count) ns
file_over count [] ns empty within = subst (All (IsOver count)) (sym empty) (All-nil (IsOver count))
file_over count (c ∷ cs) ns (here, rest, is, form, forms) within =
    let first : All (IsTermOver count) c.terms = terms_within count c.terms (All-head (IsConstraintWithin count) c cs within).sum in
    subst (All (IsOver count)) (sym is)
    (All-append (IsOver count) here rest (forms_over count c.relation c here first form) (file_over count cs rest forms (All-tail (IsConstraintWithin count) c cs within)))

-- where a proof begins
pub start_named : (p : Opb) (s : State) → IsWithin p → IsStart p s → LiveIsNamed p s
start_named p s within (ns, forms, is) =
    let count = length p.names in
    subst (LiveIsNamed p) (sym is) (All-numbered (IsOver count) 1 ns (file_over count p.constraints ns forms within.constraints))

-- the rules of cutting planes bring no other variable

added_over : (count : ℕ) (d e r : NormalConstraint) → IsOver count d → IsOver count e → IsSum d e r → IsOver count r
added_over count d e r first second is v s =
    below (coefficient r v s) v count (λ beyond. omega (arith, is.coefficients v s, zero_beyond count d v s first beyond, zero_beyond count e v s second beyond))

multiple_over : (count k : ℕ) (d r : NormalConstraint) → IsOver count d → IsMultiple k d r → IsOver count r
multiple_over count k d r over is v s =
    below (coefficient r v s) v count (λ beyond.
    let none : k * 0 ≡ 0 = omega arith in is.coefficients v s ∙ ap (λ c. k * c) (zero_beyond count d v s over beyond) ∙ none)

quotient_over : (count k : ℕ) (d r : NormalConstraint) → IsOver count d → IsQuotient k d r → IsOver count r
quotient_over count k d r over is v s =
    below (coefficient r v s) v count (λ beyond.
    let least : coefficient r v s ≤ 0 = (is.coefficients v s).least 0 (omega (arith, zero_beyond count d v s over beyond)) in omega (arith, least))

saturation_over : (count : ℕ) (d r : NormalConstraint) → IsOver count d → IsSaturation d r → IsOver count r
saturation_over count d r over is v s =
    below (coefficient r v s) v count (λ beyond. omega (arith, is.coefficients v s, zero_beyond count d v s over beyond))

weakening_over : (count x : ℕ) (d r : NormalConstraint) → IsOver count d → IsWeakening x d r → IsOver count r
weakening_over count x d r over is v s =
    below (coefficient r v s) v count (λ beyond. is.coefficients v s ∙ none (v == x) (coefficient d v s) (zero_beyond count d v s over beyond))
  where
    none : (b : Bool) (k : ℕ) → k ≡ 0 → (if b then zero else k) ≡ zero
    none true k is = refl
    none false k is = is

axiom_over : (count : ℕ) (l : Lit) (r : NormalConstraint) → l.var.0 < count → IsAxiom l r → IsOver count r
axiom_over count l r named is v s =
    below (coefficient r v s) v count (λ beyond.
    is.coefficients v s ∙ ap (λ b. if b && same_sign s l.negated then 1 else 0) (ne_eqb v (l.var.0) (λ e. omega (arith, named, beyond, e))))

-- both parts of what can be written can be
left_all : {X : Type 0} (P : X → Type 0) (xs ys : List X) → All P (xs ++ ys) → All P xs
left_all P [] ys all = All-nil P
left_all P (x ∷ xs) ys all = All-cons P x xs (All-head P x (xs ++ ys) all) (left_all P xs ys (All-tail P x (xs ++ ys) all))

right_all : {X : Type 0} (P : X → Type 0) (xs ys : List X) → All P (xs ++ ys) → All P ys
right_all P [] ys all = all
right_all P (x ∷ xs) ys all = right_all P xs ys (All-tail P x (xs ++ ys) all)

value_over : (count : ℕ) (given : Given) → ((id : ℤ) (n : NormalConstraint) → given id ≡ Some n → IsOver count n)
    → (e : Expression) (n : NormalConstraint) → All (IsItemWritable count) (postfix e) → HasValue given e n → IsOver count n
value_over count given h (cited id) n written v = h id n v
value_over count given h (axiom_of l) n written v = axiom_over count l n (All-head (IsItemWritable count) (items.Axiom l) [] written) v
value_over count given h (sum e f) n written (d, g, v, w, is, fits) =
    let both = left_all (IsItemWritable count) (postfix e ++ postfix f) (items.Add ∷ []) written in
    added_over count d g n (value_over count given h e d (left_all (IsItemWritable count) (postfix e) (postfix f) both) v)
    (value_over count given h f g (right_all (IsItemWritable count) (postfix e) (postfix f) both) w) is
value_over count given h (multiple k e) n written (d, positive, v, is, fits) =
    multiple_over count (unsigned_abs k) d n (value_over count given h e d (left_all (IsItemWritable count) (postfix e) (items.Multiply k ∷ []) written) v) is
value_over count given h (quotient k e) n written (d, positive, v, is) =
    quotient_over count (unsigned_abs k) d n (value_over count given h e d (left_all (IsItemWritable count) (postfix e) (items.Divide k ∷ []) written) v) is
value_over count given h (saturated e) n written (d, v, is) =
    saturation_over count d n (value_over count given h e d (left_all (IsItemWritable count) (postfix e) (items.Saturate ∷ []) written) v) is
value_over count given h (weakened x e) n written (d, v, is) =
    weakening_over count (x.0) d n (value_over count given h e d (left_all (IsItemWritable count) (postfix e) (items.Weaken x ∷ []) written) v) is

cited_over : (p : Opb) (s : State) → LiveIsNamed p s → (id : ℤ) (n : NormalConstraint) → constraint_of s id ≡ Some n → IsOver (length p.names) n
cited_over p s named id n is = All-get (IsOver (length p.names)) s.live (id_of s.next id) n named is

more_named : (p : Opb) (s t : State) (n : NormalConstraint) → LiveIsNamed p s → IsOver (length p.names) n → t ≡ with_constraint n s → LiveIsNamed p t
more_named p s t n named over is = subst (LiveIsNamed p) (sym is) (All-insert (IsOver (length p.names)) s.live s.next n over named)

less_named : (p : Opb) (s t : State) (ids : List ℤ) → LiveIsNamed p s → LegalDel s ids t → LiveIsNamed p t
less_named p s t [] named is = subst (LiveIsNamed p) (sym is) named
less_named p s t (id ∷ ids) named (live, rest) =
    less_named p (without (id_of s.next id) s) t ids (All-remove (IsOver (length p.names)) s.live (id_of s.next id) named) rest

written_over : (count : ℕ) (c : Signed) (n : NormalConstraint) → IsConstraintWritable count c → IsNormalOf c n → IsOver count n
written_over count c n writable = form_over count c n (All-weaker (IsTermWritable count) (IsTermOver count) (λ t w. w.named) c.terms writable.terms)

objective_over : (count : ℕ) (o : Option (List Term)) (objective : List Term) (bound : ℤ) (n : NormalConstraint) → IfSome o (IsSumWithin count) → o ≡ Some objective → IsNormalOf (at_most objective bound) n → IsOver count n
objective_over count o objective bound n within is =
    let each : IsSumWithin count objective = subst (λ x. IfSome x (IsSumWithin count)) is within in
    form_over count (at_most objective bound) n (signs_over count objective (terms_within count objective each))

-- a better solution brings a constraint over the objective's variables
pub soli_named : (p : Opb) (s t : State) (assigned : List Lit) → IsWithin p → LiveIsNamed p s → LegalSoli p s assigned t → LiveIsNamed p t
soli_named p s t assigned within named (objective, g, n, improves, is) =
    let over = objective_over (length p.names) p.objective objective (worth_of p g -ℤ pos 1) n within.objective improves.minimises improves.form in
    subst (LiveIsNamed p) (sym is) (All-insert (IsOver (length p.names)) s.live s.next n over named)

-- a step that stands by itself and can be written
pub step_named : (p : Opb) (s t : State) (step : Step) → LiveIsNamed p s → StandsAlone step → ImprovesNothing step → IsStepWritable (length p.names) step → Legal p s step t → LiveIsNamed p t
step_named p s t (kinds.Pol written) named alone other writable (n, (e, is, value), adds) =
    let each : All (IsItemWritable (length p.names)) (postfix e) = subst (All (IsItemWritable (length p.names))) (sym is) writable in
    more_named p s t n named (value_over (length p.names) (constraint_of s) (cited_over p s named) e n each value) adds.1
step_named p s t (kinds.Rup c) named alone other writable (n, admitted, shown, adds) = more_named p s t n named (written_over (length p.names) c n writable admitted.form) adds.1
step_named p s t (kinds.Red c images) named alone other writable (outside, (n, m, admitted, redundant, adds)) =
    more_named p s t n named (written_over (length p.names) c n writable.0 admitted.form) adds.1
step_named p s t (kinds.Sol assigned) named alone other writable (outside, (g, logs, is)) = subst (LiveIsNamed p) (sym is) named
step_named p s t (kinds.Soli assigned) named alone other writable legal = absurd other
step_named p s t (kinds.Del ids) named alone other writable (outside, legal) = less_named p s t ids named legal
step_named p s t (kinds.RedBegin c images) named alone other writable legal = absurd alone
step_named p s t (kinds.Goal name) named alone other writable legal = absurd alone
step_named p s t kinds.End named alone other writable legal = absurd alone
