-- The literals that a constraint forced are of its own variables.
use Rattle.std.proofs.Common.{◌≡◌, ℕ, suc, ◌+◌, ◌<◌, ◌≤◌, Bool, true, false, cond, Option, None, Some, List, [], ◌∷◌, length, get_or, take, refl, sym, subst, arith}
use Rattle.linear.specs.declared.term.Lit.{Lit}
use Rattle.normal_form.specs.declared.term.NormalTerm.{NormalTerm}
use Rattle.normal_form.specs.Normal.{NormalConstraint, only, sum_over}
use Rattle.normal_form.proofs.SetSums.{only_is}
use Rattle.ledger.specs.Ledgers.{AreReasons, IsReason, constraint_at, term_at}

-- a literal with a coefficient is of a term's variable
term_or_later : (v : ℕ) (s : Bool) (t d : NormalTerm) (ts : List NormalTerm) (b : Bool) → only v s (t.var.0) t.negated ≡ b → 0 < cond b t.coef 0 + sum_over (only v s) ts → (0 < sum_over (only v s) ts → (j : ℕ) × (j < length ts) × ((get_or ts j d).var.0 ≡ v))
    → (j : ℕ) × (j < length (t ∷ ts)) × ((get_or (t ∷ ts) j d).var.0 ≡ v)
term_or_later v s t d ts true e h rest = (0, omega arith, (only_is v (t.var.0) s t.negated e).0)
term_or_later v s t d ts false e h rest = let it = rest (omega (arith, h)) in (suc it.0, omega (arith, it.1), it.2)

has_term : (v : ℕ) (s : Bool) (d : NormalTerm) (ts : List NormalTerm) → 0 < sum_over (only v s) ts → (j : ℕ) × (j < length ts) × ((get_or ts j d).var.0 ≡ v)
has_term v s d [] h = absurd (omega (arith, h))
has_term v s d (t ∷ ts) h = term_or_later v s t d ts (only v s (t.var.0) t.negated) refl h (has_term v s d ts)

abbrev any : Lit
any = record { var = record { 0 = 0 }; negated = false }

abbrev any_term : NormalTerm
any_term = record { coef = 0; var = record { 0 = 0 }; negated = false }

-- where none of the terms has the variable of a literal with the reason, there is no such literal
pub no_reason : (ns : List NormalConstraint) (assigned : List Lit) (reasons : List (Option ℕ)) (place k count : ℕ) → AreReasons ns assigned reasons → k < length assigned → get_or reasons k None ≡ Some place → length (constraint_at ns place).terms ≤ count
    → ((j : ℕ) (d : Lit) → j < count → (get_or assigned k d).var.0 ≡ (term_at ns place j).var.0 → ⊥) → ⊥
no_reason ns assigned reasons place k count r low is many h =
    let l : Lit = get_or assigned k any in
    let forced = subst (λ (o : Option ℕ). IsReason ns (take k assigned) l o) is (r.forced k any low) in
    let it = has_term (l.var.0) l.negated any_term (constraint_at ns place).terms forced.1.occurs in
    h it.0 any (omega (arith, it.1, many)) (sym it.2)
