-- The sum that an array stands for after the terms of a constraint were added.
use Rattle.std.proofs.Common.{◌≡◌, ℕ, ◌+◌, ◌-◌, ◌/◌, ◌≤◌, Bool, true, false, List, [], refl, ap, sym, subst, ◌∙◌, arith, inl, inr, ◌⊎◌, ◌==◌}
use Rattle.std.specs.Prelude.{ℤ, pos, ◌+ℤ◌}
use Rattle.std.proofs.lemmas.Int.{ints}
use Rattle.normal_form.specs.declared.term.NormalTerm.{NormalTerm}
use Rattle.normal_form.specs.Normal.{NormalConstraint, sum_over, only, total, Rises, IsNormal, largest_sum}
use Rattle.normal_form.specs.Balance.{rises_of}
use Rattle.normal_form.proofs.FromBalance.{split_at, one_side}
use Rattle.normal_form.proofs.OneList.{one_list, same_constraint}
use Rattle.cut_rules.specs.Rules.{cancelled, IsSum, IsTooLarge}
use Rattle.cut_rules.specs.Steps.{SumBalances}
use Rattle.cut_rules.proofs.Sum.{sum_at, sum_total, sum_from}
use Rattle.accumulate.specs.declared.cells.Change.{Change}
use Rattle.accumulate.specs.declared.cells.Change.TheVariants as changes
use Rattle.accumulate.specs.Nets.{terms_from, nets_of, sizes, turned, constraint_of, nothing, IsKept}
use Rattle.accumulate.proofs.NetTerms.{terms_give, terms_total, terms_rise}

-- the array gives what it gave and what a constraint gives
abbrev pub Added : Change → List ℤ → List NormalTerm → List ℤ → Type 0
Added change ns ts new = (set : ℕ → Bool) → nets_of set 0 new ≡ nets_of set 0 ns +ℤ turned change (rises_of set ts)

pub balances : (ns new : List ℤ) (ts : List NormalTerm) → Added changes.Add ns ts new → SumBalances (terms_from 0 ns) ts (terms_from 0 new)
balances ns new ts a set = omega (arith, ints, a set, terms_give set 0 new, terms_give set 0 ns)

halved : (before after t c : ℕ) → after + (c + c) ≡ before + t → (before + t - after) / 2 ≡ c
halved before after t c e = omega (arith, e)

pub degree_is : (ns new : List ℤ) (e : NormalConstraint) (degree before after result : ℕ) → Added changes.Add ns e.terms new → before ≡ sizes ns → after ≡ sizes new → result ≡ (degree + e.degree) - (before + total e.terms - after) / 2 → result ≡ (degree + e.degree) - cancelled (constraint_of ns degree) e
degree_is ns new e degree before after result a b f r =
    let all : total (terms_from 0 new) + (cancelled (constraint_of ns degree) e + cancelled (constraint_of ns degree) e) ≡ total (terms_from 0 ns) + total e.terms = sum_total (constraint_of ns degree) e (terms_from 0 new) (sum_at (constraint_of ns degree) e (terms_from 0 new) (terms_rise 0 new) (balances ns new e.terms a)) in
    let half : (before + total e.terms - after) / 2 ≡ cancelled (constraint_of ns degree) e = halved before after (total e.terms) (cancelled (constraint_of ns degree) e) (omega (arith, all, b, f, terms_total 0 new, terms_total 0 ns)) in
    omega (arith, r, half)

pub added_sum : (ns new : List ℤ) (e : NormalConstraint) (degree result : ℕ) → Added changes.Add ns e.terms new → result ≡ (degree + e.degree) - cancelled (constraint_of ns degree) e → IsSum (constraint_of ns degree) e (constraint_of new result)
added_sum ns new e degree result a d = sum_from (constraint_of ns degree) e (constraint_of new result) (terms_from 0 new) result (terms_rise 0 new) (balances ns new e.terms a) d refl refl

pub added_normal : (new : List ℤ) (sum result : ℕ) → sum ≡ sizes new → sum ≤ largest_sum → result ≤ largest_sum → IsNormal (constraint_of new result)
added_normal new sum result e h k = record {
  rises = terms_rise 0 new;
  fits = record { sum = omega (arith, terms_total 0 new, e, h); degree = k };
}

-- the sum and the degree that are kept are those of the constraint, which is normal
pub kept_total : (ns : List ℤ) (marks : List ℕ) (sum degree : ℕ) (d : NormalConstraint) → constraint_of ns degree ≡ d → IsKept ns marks sum degree → (sum ≡ total d.terms) × (degree ≡ d.degree) × IsNormal d
kept_total ns marks sum degree d is k = (
  k.summed ∙ sym (terms_total 0 ns) ∙ ap (λ (x : NormalConstraint). total x.terms) is,
  ap (λ (x : NormalConstraint). x.degree) is,
  subst IsNormal is (added_normal ns sum degree k.summed k.small k.low),
)

-- what balances alike is the same list
same_pair : (a b c d : ℕ) (z : ℤ) → pos a ≡ pos b +ℤ z → pos c ≡ pos d +ℤ z → (a ≡ 0) ⊎ (b ≡ 0) → (c ≡ 0) ⊎ (d ≡ 0) → (a ≡ c) × (b ≡ d)
same_pair a b c d z e f (inl h) (inl k) = (omega (arith, ints, e, f, h, k), omega (arith, ints, e, f, h, k))
same_pair a b c d z e f (inl h) (inr k) = (omega (arith, ints, e, f, h, k), omega (arith, ints, e, f, h, k))
same_pair a b c d z e f (inr h) (inl k) = (omega (arith, ints, e, f, h, k), omega (arith, ints, e, f, h, k))
same_pair a b c d z e f (inr h) (inr k) = (omega (arith, ints, e, f, h, k), omega (arith, ints, e, f, h, k))

by_sign : (P : Bool → Type 0) → P false → P true → (s : Bool) → P s
by_sign P f t true = t
by_sign P f t false = f

pub one_balance : (ts us : List NormalTerm) → Rises 0 ts → Rises 0 us → ((set : ℕ → Bool) → rises_of set ts ≡ rises_of set us) → ts ≡ us
one_balance ts us r q b = one_list 0 0 ts us r q (λ v s.
    let both : (sum_over (only v false) ts ≡ sum_over (only v false) us) × (sum_over (only v true) ts ≡ sum_over (only v true) us) = same_pair (sum_over (only v false) ts) (sum_over (only v true) ts) (sum_over (only v false) us) (sum_over (only v true) us) (rises_of (λ x. x == v) ts) (split_at v ts) (omega (arith, ints, split_at v us, b (λ x. x == v))) (one_side 0 ts r v) (one_side 0 us q v) in
    by_sign (λ s. sum_over (only v s) ts ≡ sum_over (only v s) us) both.0 both.1 s)

-- what was added and taken back is as it was
pub taken_back : (ns new old : List ℤ) (ts : List NormalTerm) → Added changes.Add ns ts new → Added changes.TakeBack new ts old → terms_from 0 old ≡ terms_from 0 ns
taken_back ns new old ts a b = one_balance (terms_from 0 old) (terms_from 0 ns) (terms_rise 0 old) (terms_rise 0 ns) (λ set. omega (arith, ints, a set, b set, terms_give set 0 old, terms_give set 0 ns))

-- arrays of the same terms are the same constraint, of the same sizes
pub same_of : (ns ms : List ℤ) (degree : ℕ) → terms_from 0 ms ≡ terms_from 0 ns → constraint_of ms degree ≡ constraint_of ns degree
same_of ns ms degree e = same_constraint (constraint_of ms degree) (constraint_of ns degree) e refl

pub sizes_same : (ns ms : List ℤ) (sum : ℕ) → terms_from 0 ms ≡ terms_from 0 ns → sum ≡ sizes ns → sum ≡ sizes ms
sizes_same ns ms sum e s = omega (arith, terms_total 0 ms, terms_total 0 ns, ap total e, s)

-- the sum that a call gives, of the constraint that was passed
pub sum_given : (d e : NormalConstraint) (ns new : List ℤ) (degree before after result : ℕ) → constraint_of ns degree ≡ d → Added changes.Add ns e.terms new → before ≡ sizes ns → after ≡ sizes new → result ≡ (degree + e.degree) - (before + total e.terms - after) / 2 → IsSum d e (constraint_of new result)
sum_given d e ns new degree before after result is a b f r = subst (λ (x : NormalConstraint). IsSum x e (constraint_of new result)) is (added_sum ns new e degree result a (degree_is ns new e degree before after result a b f r))

pub too_large_given : (d e : NormalConstraint) (ns new : List ℤ) (degree before after result : ℕ) → constraint_of ns degree ≡ d → Added changes.Add ns e.terms new → before ≡ sizes ns → after ≡ sizes new → result ≡ (degree + e.degree) - (before + total e.terms - after) / 2 → ((after ≤ largest_sum) × (result ≤ largest_sum) → ⊥) → (r : NormalConstraint) × IsTooLarge (IsSum d e) r
too_large_given d e ns new degree before after result is a b f r over = (
  constraint_of new result,
  record {
    given = sum_given d e ns new degree before after result is a b f r;
    breaks = λ fits. over (omega (arith, fits.sum, terms_total 0 new, f), fits.degree);
  },
)

-- what is added to nothing is what the array stands for
pub loaded : (ns new : List ℤ) (e : NormalConstraint) (degree : ℕ) → terms_from 0 ns ≡ [] → Added changes.Add ns e.terms new → Rises 0 e.terms → degree ≡ e.degree → constraint_of new degree ≡ e
loaded ns new e degree none a up d = same_constraint (constraint_of new degree) e (one_balance (terms_from 0 new) e.terms (terms_rise 0 new) up (λ set. omega (arith, ints, a set, terms_give set 0 new, terms_give set 0 ns, ap (rises_of set) none))) d

-- an array that stands for nothing gives no terms, and its sizes add up to nothing
pub none_in : (d : NormalConstraint) (ns ms : List ℤ) (degree : ℕ) → constraint_of ns degree ≡ d → d ≡ nothing → terms_from 0 ms ≡ terms_from 0 ns → (terms_from 0 ms ≡ []) × (0 ≡ sizes ms)
none_in d ns ms degree is e same =
    let none : terms_from 0 ms ≡ [] = same ∙ ap (λ (x : NormalConstraint). x.terms) (is ∙ e) in
    (none, omega (arith, terms_total 0 ms, ap total none))
