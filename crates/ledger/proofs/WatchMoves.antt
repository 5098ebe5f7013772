-- Another open literal in place of one that falls.
use Rattle.std.proofs.Common.{◌≡◌, ◌<◌, ◌⊎◌, inl, inr, false, true, Option, None, Some, List, refl, ap, sym, subst, ◌∙◌}
use Rattle.std.proofs.lemmas.Bool.{false≢true}
use Rattle.linear.specs.declared.term.Lit.{Lit}
use Rattle.normal_form.specs.Normal.{NormalConstraint}
use Rattle.linear.specs.Literal.{opposite}
use Rattle.propagate.specs.Literals.{coefficient_of, lists}
use Rattle.ledger.specs.declared.pair.Pair.{Pair}
use Rattle.ledger.specs.Falls.{IsBeside, IsMoved, IsOneOf}
use Rattle.ledger.specs.Watched.{AreOthersFalse, IsOpen, IsOpenBeside, IsPairOf, Tell}

-- the literal beside one that falls is of the clause, another one, and open where a third one is
pub record IsPartner (assigned : List Lit) (n : NormalConstraint) (p : Pair) (fallen other : Lit) : Type 0 where
  pub occurs : 0 < coefficient_of n other
  pub one : IsOneOf p other
  pub differs : other ≡ fallen → ⊥

partner : (assigned : List Lit) (n : NormalConstraint) (p : Pair) (fallen other : Lit) → IsPairOf n p → IsBeside (Some p) fallen other → IsPartner assigned n p fallen other
partner assigned n p fallen other of_it (inl (f, s)) = record {
  occurs = subst (λ (l : Lit). 0 < coefficient_of n l) s of_it.second;
  one = inr s;
  differs = λ e. of_it.differ (f ∙ sym e ∙ sym s);
}
partner assigned n p fallen other of_it (inr (f, s)) = record {
  occurs = subst (λ (l : Lit). 0 < coefficient_of n l) s of_it.first;
  one = inl s;
  differs = λ e. of_it.differ (s ∙ e ∙ sym f);
}

open_other : (assigned : List Lit) (p : Pair) (fallen other : Lit) → IsBeside (Some p) fallen other → IsOpen assigned p.first → IsOpen assigned p.second → IsOpen assigned other
open_other assigned p fallen other (inl (f, s)) a b = subst (IsOpen assigned) s b
open_other assigned p fallen other (inr (f, s)) a b = subst (IsOpen assigned) s a

none_true : (assigned : List Lit) (p : Pair) (fallen other : Lit) → IsBeside (Some p) fallen other → lists assigned fallen ≡ false → lists assigned other ≡ false → (lists assigned p.first ≡ true) ⊎ (lists assigned p.second ≡ true) → ⊥
none_true assigned p fallen other (inl (f, s)) a b (inl t) = false≢true (sym (ap (lists assigned) f ∙ a) ∙ t)
none_true assigned p fallen other (inl (f, s)) a b (inr t) = false≢true (sym (ap (lists assigned) s ∙ b) ∙ t)
none_true assigned p fallen other (inr (f, s)) a b (inl t) = false≢true (sym (ap (lists assigned) s ∙ b) ∙ t)
none_true assigned p fallen other (inr (f, s)) a b (inr t) = false≢true (sym (ap (lists assigned) f ∙ a) ∙ t)

third : (p : Pair) (fallen other l : Lit) → IsBeside (Some p) fallen other → (l ≡ fallen → ⊥) → (l ≡ other → ⊥) → (l ≡ p.first → ⊥) × (l ≡ p.second → ⊥)
third p fallen other l (inl (f, s)) a b = (λ e. a (e ∙ f), λ e. b (e ∙ s))
third p fallen other l (inr (f, s)) a b = (λ e. b (e ∙ s), λ e. a (e ∙ f))

still_open : (assigned : List Lit) (n : NormalConstraint) (p : Pair) (fallen other l : Lit) → Tell assigned n p → IsBeside (Some p) fallen other → lists assigned fallen ≡ false → lists assigned other ≡ false
    → IsOpenBeside assigned n (record { first = fallen; second = other }) l → IsOpen assigned other
still_open assigned n p fallen other l (inl (a, b)) beside x y o = open_other assigned p fallen other beside a b
still_open assigned n p fallen other l (inr (inl t)) beside x y o = absurd (none_true assigned p fallen other beside x y t)
still_open assigned n p fallen other l (inr (inr out)) beside x y o =
    let apart = third p fallen other l beside o.not_first o.not_second in
    absurd (false≢true (sym o.unset ∙ out l o.occurs apart.0 apart.1))

pub moved : (assigned : List Lit) (n : NormalConstraint) (p : Pair) (fallen other l : Lit) → IsPairOf n p → Tell assigned n p → IsBeside (Some p) fallen other → lists assigned fallen ≡ false → lists assigned other ≡ false
    → IsOpenBeside assigned n (record { first = fallen; second = other }) l → IsMoved assigned n p fallen (record { first = l; second = other })
moved assigned n p fallen other l of_it tell beside x y o =
    let it = partner assigned n p fallen other of_it beside in
    record {
      of_it = record { clause = of_it.clause; asks = of_it.asks; first = o.occurs; second = it.occurs; differ = o.not_second };
      stays = it.one;
      not_first = o.not_first;
      not_second = it.differs;
      first = o.unset;
      second = still_open assigned n p fallen other l tell beside x y o;
    }

pub beside_some : (o : Option Pair) (fallen other : Lit) → IsBeside o fallen other → (p : Pair) × (o ≡ Some p) × IsBeside (Some p) fallen other
beside_some None fallen other b = absurd b
beside_some (Some p) fallen other b = (p, refl, b)

pub same_beside : (n : NormalConstraint) (p : Pair) (fallen other l : Lit) → IsPairOf n p → IsBeside (Some p) fallen other → IsBeside (Some p) fallen l → other ≡ l
same_beside n p fallen other l of_it (inl (f, s)) (inl (g, t)) = sym s ∙ t
same_beside n p fallen other l of_it (inl (f, s)) (inr (g, t)) = absurd (of_it.differ (f ∙ sym g))
same_beside n p fallen other l of_it (inr (f, s)) (inl (g, t)) = absurd (of_it.differ (g ∙ sym f))
same_beside n p fallen other l of_it (inr (f, s)) (inr (g, t)) = sym s ∙ t

pub others_fallen : (assigned : List Lit) (n : NormalConstraint) (p : Pair) (fallen other : Lit) → Tell assigned n p → IsBeside (Some p) fallen other → lists assigned fallen ≡ false → lists assigned other ≡ false → lists assigned (opposite other) ≡ true
    → AreOthersFalse assigned n p
others_fallen assigned n p fallen other (inl (a, b)) beside x y t = absurd (false≢true (sym (open_other assigned p fallen other beside a b) ∙ t))
others_fallen assigned n p fallen other (inr (inl one)) beside x y t = absurd (none_true assigned p fallen other beside x y one)
others_fallen assigned n p fallen other (inr (inr out)) beside x y t = out

-- where the literal beside one that falls is made false, all others are
pub falsified_beside : (assigned : List Lit) (n : NormalConstraint) (p : Pair) (fallen other : Lit) → IsPairOf n p → Tell assigned n p → IsBeside (Some p) fallen other → lists assigned fallen ≡ false → lists assigned other ≡ false → lists assigned (opposite other) ≡ true
    → AreOthersFalse assigned n p × ((l : Lit) → IsBeside (Some p) fallen l → lists assigned (opposite l) ≡ true)
falsified_beside assigned n p fallen other of_it tell beside x y t = (
  others_fallen assigned n p fallen other tell beside x y t,
  λ l b. ap (λ (m : Lit). lists assigned (opposite m)) (sym (same_beside n p fallen other l of_it beside b)) ∙ t,
)
