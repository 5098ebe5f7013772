-- The variables still rise, and the sum falls by the difference.
use Rattle.std.proofs.Common.{◌≡◌, ℕ, ◌+◌, ◌-◌, ◌<◌, ◌≤◌, ap, subst, sym, arith, List, length, get_or}
use Rattle.normal_form.specs.declared.term.NormalTerm.{NormalTerm}
use Rattle.normal_form.specs.Normal.{NormalConstraint, IsNormal, Rises, total, largest_sum}
use Rattle.normal_form.specs.Terms.{with_coefficient}
use Rattle.normal_form.proofs.Coefficients.{with_rises, with_total}
use Rattle.normal_form.proofs.normal.Normal.lower_coefficient.Goals as goal

at : (ts : List NormalTerm) (i c : ℕ) (t : NormalTerm) → i < length ts → t ≡ get_or ts i t → total (with_coefficient ts i c) + t.coef ≡ total ts + c
at ts i c t h e = omega (arith, with_total ts i c t h, ap (λ (u : NormalTerm). u.coef) e)

no_greater : (ts : List NormalTerm) (i c : ℕ) (t : NormalTerm) → t ≡ get_or ts i t → ((d : NormalTerm) → c ≤ (get_or ts i d).coef) → c ≤ t.coef
no_greater ts i c t e h = omega (arith, h t, ap (λ (u : NormalTerm). u.coef) e)

within : (ts : List NormalTerm) (i c sum : ℕ) (t : NormalTerm) → i < length ts → t ≡ get_or ts i t → sum ≡ total ts → t.coef - c ≤ sum
within ts i c sum t h e s = omega (arith, at ts i c t h e, s)

falls : (ts us : List NormalTerm) (i c sum : ℕ) (t : NormalTerm) → i < length ts → t ≡ get_or ts i t → c ≤ t.coef → us ≡ with_coefficient ts i c → sum ≡ total ts → sum - (t.coef - c) ≡ total us
falls ts us i c sum t h e l u s = omega (arith, at ts i c t h e, ap total u, l, s)

still_normal : (ts us : List NormalTerm) (i c degree : ℕ) (t : NormalTerm) → i < length ts → t ≡ get_or ts i t → 0 < c → c ≤ t.coef → us ≡ with_coefficient ts i c → IsNormal (record { terms = ts; degree = degree }) → IsNormal (record { terms = us; degree = degree })
still_normal ts us i c degree t h e p l u n =
    let low : total us ≤ largest_sum = omega (arith, at ts i c t h e, ap total u, l, n.fits.sum) in
    record {
      rises = subst (λ (xs : List NormalTerm). Rises 0 xs) (sym u) (with_rises 0 ts i c n.rises p);
      fits = record { sum = low; degree = n.fits.degree };
    }

inside : (c : goal.After-lower) → c.args.place < length c.self.inside.terms
inside c = omega (arith, c.requires.place, ap (λ (n : NormalConstraint). length n.terms) c.self.view_is)

less : (c : goal.After-lower) → c.args.coef ≤ c.get-before.result.coef
less c =
    let same : c.self.inside.terms ≡ c.args.self.now.terms = ap (λ (n : NormalConstraint). n.terms) c.self.view_is in
    no_greater c.self.inside.terms c.args.place c.args.coef c.get-before.result c.get-before.ensures (λ d. omega (arith, c.requires.no_greater d, ap (λ (ts : List NormalTerm). (get_or ts c.args.place d).coef) same))

pub overflow_sub-self-2 : goal.overflow_sub-self-2
overflow_sub-self-2 c = within c.self.inside.terms c.args.place c.args.coef c.self.inside.coefficient_sum c.get-before.result (inside c) c.get-before.ensures c.self.invariant.1

pub invariant_of-self : goal.invariant_of-self
invariant_of-self c = (
  still_normal c.self.inside.terms c.lower.new.self c.args.place c.args.coef c.self.inside.bound c.get-before.result (inside c.before) c.get-before.ensures c.requires.positive (less c.before) c.lower.ensures c.self.invariant.0,
  falls c.self.inside.terms c.lower.new.self c.args.place c.args.coef c.self.inside.coefficient_sum c.get-before.result (inside c.before) c.get-before.ensures (less c.before) c.lower.ensures c.self.invariant.1,
)
