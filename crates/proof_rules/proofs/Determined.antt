-- Items run in one way: what they lead to, and what the value of an expression is.
use Rattle.std.proofs.Common.{◌≡◌, inl, inr, List, [], ◌∷◌, ◌++◌, length, unsigned_abs, refl, sym, ap, subst, ◌∙◌, arith}
use Rattle.std.proofs.lemmas.Int.{ints}
use Rattle.normal_form.specs.Normal.{NormalConstraint, Fits}
use Rattle.cut_rules.specs.Rules.{IsSum, IsMultiple, IsQuotient, IsSaturation, IsWeakening}
use Rattle.cut_rules.proofs.Sum.{one_sum}
use Rattle.cut_rules.proofs.Meaning.{one_multiple, one_quotient, one_saturation, one_weakening, one_axiom}
use Rattle.proof_rules.specs.declared.fault.StepFault.{StepFault}
use Rattle.proof_rules.specs.declared.fault.StepFault.TheVariants as faults
use Rattle.proof_steps.specs.declared.step.Item.{Item}
use Rattle.proof_steps.specs.declared.step.Item.TheVariants as items
use Rattle.proof_rules.specs.Expression.{Given, Expression, cited, axiom_of, sum, multiple, quotient, saturated, weakened, postfix, HasValue, IsPostfixOf}
use Rattle.proof_rules.specs.Running.{AppliesItem, Runs}
use Rattle.proof_rules.specs.Fault.{IsItemFault, StopsAtItem, IsWritingFault}

abbrev Stack : Type 0
Stack = List NormalConstraint

-- two tops of one stack
two_tops : (s : Stack) (d e : NormalConstraint) (rest more : Stack) → s ≡ d ∷ rest → s ≡ e ∷ more → (d ≡ e) × (rest ≡ more)
two_tops s d e rest more h k = let same : d ∷ rest ≡ e ∷ more = sym h ∙ k in (cc, cc)

-- one rule on the top
one_top : (s u v : Stack) (P : NormalConstraint → NormalConstraint → Type 0)
    → ((d n m : NormalConstraint) → P d n → P d m → n ≡ m)
    → (d n e m : NormalConstraint) (rest more : Stack) → s ≡ d ∷ rest → s ≡ e ∷ more → P d n → P e m → u ≡ n ∷ rest → v ≡ m ∷ more → u ≡ v
one_top s u v P one d n e m rest more h k p q x y =
    let tops = two_tops s d e rest more h k in
    let same : n ≡ m = one d n m p (subst (λ z. P z m) (sym tops.0) q) in
    x ∙ ap (λ z. z ∷ rest) same ∙ ap (λ z. m ∷ z) tops.1 ∙ sym y

-- an item leads to one stack
pub one_step : (given : Given) (i : Item) (s u v : Stack) → AppliesItem given i s u → AppliesItem given i s v → u ≡ v
one_step given (items.Id id) s u v (n, is, x) (m, is', y) = let same : n ≡ m = cc in x ∙ ap (λ z. z ∷ s) same ∙ sym y
one_step given (items.Axiom l) s u v (n, is, x) (m, is', y) = x ∙ ap (λ z. z ∷ s) (one_axiom l n m is is') ∙ sym y
one_step given items.Add s u v (d, g, n, rest, is, sums, fits, x) (e, h, m, more, is', sums', fits', y) =
    let outer = two_tops s g h (d ∷ rest) (e ∷ more) is is' in
    let inner = two_tops (d ∷ rest) d e rest more refl outer.1 in
    let same : n ≡ m = one_sum d g n m sums (subst (λ z. IsSum z g m) (sym inner.0) (subst (λ z. IsSum e z m) (sym outer.0) sums')) in
    x ∙ ap (λ z. z ∷ rest) same ∙ ap (λ z. m ∷ z) inner.1 ∙ sym y
one_step given (items.Multiply k) s u v (d, n, rest, is, above, rule, fits, x) (e, m, more, is', above', rule', fits', y) =
    one_top s u v (IsMultiple (unsigned_abs k)) (one_multiple (unsigned_abs k)) d n e m rest more is is' rule rule' x y
one_step given (items.Divide k) s u v (d, n, rest, is, above, rule, x) (e, m, more, is', above', rule', y) =
    one_top s u v (IsQuotient (unsigned_abs k)) (one_quotient (unsigned_abs k)) d n e m rest more is is' rule rule' x y
one_step given items.Saturate s u v (d, n, rest, is, rule, x) (e, m, more, is', rule', y) =
    one_top s u v IsSaturation one_saturation d n e m rest more is is' rule rule' x y
one_step given (items.Weaken w) s u v (d, n, rest, is, rule, x) (e, m, more, is', rule', y) =
    one_top s u v (IsWeakening (w.0)) (one_weakening (w.0)) d n e m rest more is is' rule rule' x y

pub one_run : (given : Given) (written : List Item) (s u v : Stack) → Runs given written s u → Runs given written s v → u ≡ v
one_run given [] s u v x y = x ∙ sym y
one_run given (i ∷ rest) s u v (a, first, more) (b, first', more') =
    one_run given rest a u v more (subst (λ z. Runs given rest z v) (sym (one_step given i s a b first first')) more')

-- a run of two parts
pub parts : (given : Given) (xs ys : List Item) (s u : Stack) → Runs given (xs ++ ys) s u → (between : Stack) × Runs given xs s between × Runs given ys between u
parts given [] ys s u runs = (s, refl, runs)
parts given (i ∷ xs) ys s u (a, first, more) = let p = parts given xs ys a u more in (p.0, (a, first, p.1), p.2)

joined : (given : Given) (xs ys : List Item) (s m u : Stack) → Runs given xs s m → Runs given ys m u → Runs given (xs ++ ys) s u
joined given [] ys s m u is runs = subst (λ z. Runs given ys z u) is runs
joined given (i ∷ xs) ys s m u (a, first, more) runs = (a, first, joined given xs ys a m u more runs)

alone : (given : Given) (i : Item) (s u : Stack) → AppliesItem given i s u → Runs given (i ∷ []) s u
alone given i s u step = (u, step, refl)

-- the text of an expression puts its value on top
value_runs : (given : Given) (e : Expression) (n : NormalConstraint) → HasValue given e n → (s : Stack) → Runs given (postfix e) s (n ∷ s)
value_runs given (cited id) n v s = alone given (items.Id id) s (n ∷ s) (n, v, refl)
value_runs given (axiom_of l) n v s = alone given (items.Axiom l) s (n ∷ s) (n, v, refl)
value_runs given (sum e f) n (d, g, ve, vf, rule, fits) s =
    joined given (postfix e ++ postfix f) (items.Add ∷ []) s (g ∷ d ∷ s) (n ∷ s)
    (joined given (postfix e) (postfix f) s (d ∷ s) (g ∷ d ∷ s) (value_runs given e d ve s) (value_runs given f g vf (d ∷ s)))
    (alone given items.Add (g ∷ d ∷ s) (n ∷ s) (d, g, n, s, refl, rule, fits, refl))
value_runs given (multiple k e) n (d, above, ve, rule, fits) s =
    joined given (postfix e) (items.Multiply k ∷ []) s (d ∷ s) (n ∷ s) (value_runs given e d ve s) (alone given (items.Multiply k) (d ∷ s) (n ∷ s) (d, n, s, refl, above, rule, fits, refl))
value_runs given (quotient k e) n (d, above, ve, rule) s =
    joined given (postfix e) (items.Divide k ∷ []) s (d ∷ s) (n ∷ s) (value_runs given e d ve s) (alone given (items.Divide k) (d ∷ s) (n ∷ s) (d, n, s, refl, above, rule, refl))
value_runs given (saturated e) n (d, ve, rule) s =
    joined given (postfix e) (items.Saturate ∷ []) s (d ∷ s) (n ∷ s) (value_runs given e d ve s) (alone given items.Saturate (d ∷ s) (n ∷ s) (d, n, s, refl, rule, refl))
value_runs given (weakened x e) n (d, ve, rule) s =
    joined given (postfix e) (items.Weaken x ∷ []) s (d ∷ s) (n ∷ s) (value_runs given e d ve s) (alone given (items.Weaken x) (d ∷ s) (n ∷ s) (d, n, s, refl, rule, refl))

pub polish_runs : (given : Given) (written : List Item) (n : NormalConstraint) → IsPostfixOf given written n → Runs given written [] (n ∷ [])
polish_runs given written n (e, is, value) = subst (λ w. Runs given w [] (n ∷ [])) is (value_runs given e n value [])

-- the items write one value
pub one_polish : (given : Given) (written : List Item) (n m : NormalConstraint) → IsPostfixOf given written n → IsPostfixOf given written m → n ≡ m
one_polish given written n m p q =
    let same : n ∷ [] ≡ m ∷ [] = one_run given written [] (n ∷ []) (m ∷ []) (polish_runs given written n p) (polish_runs given written m q) in cc

pub empty_top : (s : Stack) (d : NormalConstraint) (rest : Stack) → s ≡ [] → s ≡ d ∷ rest → ⊥
empty_top s d rest h k = let same : [] ≡ d ∷ rest = sym h ∙ k in absurd (cc)

-- an item that has a fault leads nowhere
pub stuck : (given : Given) (i : Item) (s u : Stack) (f : StepFault) → IsItemFault given i s f → AppliesItem given i s u → ⊥
stuck given (items.Id id) s u faults.DeadId none (n, is, x) = absurd (cc)
stuck given (items.Axiom l) s u f h step = h
stuck given items.Add s u faults.StackShape few (d, g, n, rest, is, rule, fits, x) = omega (arith, few, ap length is)
stuck given items.Add s u faults.TooLarge (d, g, rest, r, is, large) (e, h, n, more, is', rule, fits, x) =
    let outer = two_tops s g h (d ∷ rest) (e ∷ more) is is' in
    let inner = two_tops (d ∷ rest) d e rest more refl outer.1 in
    let same : r ≡ n = one_sum d g r n large.given (subst (λ z. IsSum z g n) (sym inner.0) (subst (λ z. IsSum e z n) (sym outer.0) rule)) in
    large.breaks (subst Fits (sym same) fits)
stuck given (items.Multiply k) s u faults.StackShape none (d, n, rest, is, above, rule, fits, x) = empty_top s d rest none is
stuck given (items.Multiply k) s u faults.BadFactor (some, below) (d, n, rest, is, above, rule, fits, x) = omega (arith, ints, below, above)
stuck given (items.Multiply k) s u faults.TooLarge (d, rest, r, is, above, large) (e, n, more, is', above', rule, fits, x) =
    let tops = two_tops s d e rest more is is' in
    let same : r ≡ n = one_multiple (unsigned_abs k) d r n large.given (subst (λ z. IsMultiple (unsigned_abs k) z n) (sym tops.0) rule) in
    large.breaks (subst Fits (sym same) fits)
stuck given (items.Divide k) s u faults.StackShape none (d, n, rest, is, above, rule, x) = empty_top s d rest none is
stuck given (items.Divide k) s u faults.BadFactor (some, below) (d, n, rest, is, above, rule, x) = omega (arith, ints, below, above)
stuck given items.Saturate s u faults.StackShape none (d, n, rest, is, rule, x) = empty_top s d rest none is
stuck given (items.Weaken w) s u faults.StackShape none (d, n, rest, is, rule, x) = empty_top s d rest none is
stuck given (items.Id id) s u _ h step = h
stuck given items.Add s u _ h step = h
stuck given (items.Multiply k) s u _ h step = h
stuck given (items.Divide k) s u _ h step = h
stuck given items.Saturate s u _ h step = h
stuck given (items.Weaken w) s u _ h step = h

stops_never : (given : Given) (written : List Item) (n : NormalConstraint) (f : StepFault) → StopsAtItem given written f → IsPostfixOf given written n → ⊥
stops_never given written n f (before, i, behind, stack, is, runs, fault) polish =
    let whole = subst (λ w. Runs given w [] (n ∷ [])) is (polish_runs given written n polish) in
    let p = parts given before (i ∷ behind) [] (n ∷ []) whole in
    let same : stack ≡ p.0 = one_run given before [] stack p.0 runs p.1 in
    stuck given i p.0 p.2.0 f (subst (λ z. IsItemFault given i z f) same fault) p.2.1

-- items that have a fault write no expression's value
pub writing_never : (given : Given) (written : List Item) (n : NormalConstraint) (f : StepFault) → IsWritingFault given written f → IsPostfixOf given written n → ⊥
writing_never given written n faults.StackShape (inl stops) polish = stops_never given written n faults.StackShape stops polish
writing_never given written n faults.StackShape (inr (stack, runs, other)) polish =
    let same : stack ≡ n ∷ [] = one_run given written [] stack (n ∷ []) runs (polish_runs given written n polish) in
    other (ap length same)
writing_never given written n f h polish = stops_never given written n f h polish
