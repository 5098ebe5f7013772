-- Marks of the variables that have a net coefficient.
use Rattle.std.proofs.Common.{◌≡◌, ℕ, zero, suc, take, ◌+◌, ◌<◌, List, [], ◌∷◌, ◌++◌, length, get_or, refl, ap, sym, subst, arith, inl, inr}
use Rattle.std.specs.Prelude.{ℤ, pos, unsigned_abs, Contains}
use Rattle.std.proofs.Math.ListN.{set}
use Rattle.std.proofs.lemmas.List.{get_or-set_other, length-set, length-append}
use Rattle.std.proofs.lemmas.List.Elements.{All-get_or, All-weaker, All-push, Contains-append_left}
use Rattle.std.proofs.lemmas.Bool.{cases_eq}
use Rattle.std.proofs.lemmas.List.{take_more}
use Rattle.normal_form.specs.declared.term.NormalTerm.{NormalTerm}
use Rattle.accumulate.specs.Nets.{IsMarked, IsMarkedAbove, NamesAll}

-- a cell of a marked variable may be set
pub marked_set : (level : ℕ) (marks : List ℕ) (ns : List ℤ) (i : ℕ) (new : ℤ) → Contains marks i → IsMarkedAbove level marks ns → IsMarkedAbove level marks (set ns i new)
marked_set level marks ns i new h m = record {
  covers = λ v p. elim (cases_eq v i) [
    | inl e ↦ subst (λ (x : ℕ). Contains marks x) (sym e) h
    | inr e ↦ m.covers v (omega (arith, p, ap unsigned_abs (get_or-set_other ns i v new (pos 0) e)))
  ];
  room = All-weaker (λ v. v < length ns) (λ v. v < length (set ns i new)) (λ v p. omega (arith, p, length-set ns i new)) marks m.room;
}

-- a cell of 0 more
beyond : (ns : List ℤ) (v : ℕ) → get_or (ns ++ pos 0 ∷ []) v (pos 0) ≡ get_or ns v (pos 0)
beyond [] zero = refl
beyond [] (suc v) = refl
beyond (n ∷ ns) zero = refl
beyond (n ∷ ns) (suc v) = beyond ns v

pub marked_longer : (level : ℕ) (marks : List ℕ) (ns : List ℤ) → IsMarkedAbove level marks ns → IsMarkedAbove level marks (ns ++ pos 0 ∷ [])
marked_longer level marks ns m = record {
  covers = λ v p. m.covers v (omega (arith, p, ap unsigned_abs (beyond ns v)));
  room = All-weaker (λ v. v < length ns) (λ v. v < length (ns ++ pos 0 ∷ [])) (λ v p. omega (arith, p, length-append ns (pos 0 ∷ []))) marks m.room;
}

-- one mark more
pub more_contains : (marks : List ℕ) (v x : ℕ) → Contains marks x → Contains (marks ++ v ∷ []) x
more_contains marks v x h = Contains-append_left marks (v ∷ []) x h

pub marked_more : (marks : List ℕ) (ns : List ℤ) (v : ℕ) → v < length ns → IsMarked marks ns → IsMarked (marks ++ v ∷ []) ns
marked_more marks ns v h m = record {
  covers = λ x p. more_contains marks v x (m.covers x p);
  room = All-push (λ v. v < length ns) marks v m.room h;
}

-- one term more is named
pub names_more : (marks next : List ℕ) (ts : List NormalTerm) (i : ℕ) (t : NormalTerm) → i < length ts → t ≡ get_or ts i t → ((v : ℕ) → Contains marks v → Contains next v) → Contains next (t.var.0) → NamesAll marks (take i ts) → NamesAll next (take (i + 1) ts)
names_more marks next ts i t h e kept named all =
    let old : NamesAll next (take i ts) = All-weaker (λ (u : NormalTerm). Contains marks (u.var.0)) (λ (u : NormalTerm). Contains next (u.var.0)) (λ u p. kept (u.var.0) p) (take i ts) all in
    let same : Contains next ((get_or ts i t).var.0) = subst (λ (u : NormalTerm). Contains next (u.var.0)) e named in
    rw (take_more ts i t h) (All-push (λ (u : NormalTerm). Contains next (u.var.0)) (take i ts) (get_or ts i t) old same)

pub name_at : (marks : List ℕ) (ts : List NormalTerm) (i : ℕ) (t : NormalTerm) → i < length ts → t ≡ get_or ts i t → NamesAll marks ts → Contains marks (t.var.0)
name_at marks ts i t h e all = subst (λ (u : NormalTerm). Contains marks (u.var.0)) (sym e) (All-get_or (λ (u : NormalTerm). Contains marks (u.var.0)) ts i t h all)
