-- The terms that are read off the array in order of the marks, and the array after its cells are set to 0.
use Rattle.std.proofs.Common.{◌≡◌, ℕ, zero, suc, ◌+◌, ◌-◌, ◌<◌, ◌≤◌, List, [], ◌∷◌, ◌++◌, length, take, get_or, refl, ap, sym, ◌∙◌, arith, append-nil, append_assoc}
use Rattle.std.specs.Prelude.{ℤ, pos, negsuc, unsigned_abs}
use Rattle.std.specs.List.Sorted.{IsPermutation}
use Rattle.std.proofs.lemmas.List.{take_more, length-take}
use Rattle.std.proofs.lemmas.List.Sorted.{All-permutation, Contains-permutation}
use Rattle.normal_form.specs.declared.term.NormalTerm.{NormalTerm}
use Rattle.normal_form.specs.Normal.{NormalConstraint, Fits, variable_bound, total}
use Rattle.normal_form.specs.Balance.{net_term}
use Rattle.normal_form.proofs.OneList.{same_constraint}
use Rattle.accumulate.specs.Nets.{terms_from, sizes, IsMarked, IsKept, constraint_of}
use Rattle.accumulate.proofs.NetTerms.{terms_total}

-- cells of 0 alone give nothing
pub nothing : (v : ℕ) (ns : List ℤ) → ((i : ℕ) → 0 < unsigned_abs (get_or ns i (pos 0)) → ⊥) → (sizes ns ≡ 0) × (terms_from v ns ≡ [])
nothing v [] h = (refl, refl)
nothing v (pos zero ∷ ns) h =
    let rest : (sizes ns ≡ 0) × (terms_from (v + 1) ns ≡ []) = nothing (v + 1) ns (λ i p. h (suc i) p) in
    (omega (arith, rest.0), rest.1)
nothing v (pos (suc n) ∷ ns) h = absurd (h 0 (omega arith))
nothing v (negsuc n ∷ ns) h = absurd (h 0 (omega arith))

-- one cell more
pub terms_push : (v : ℕ) (ns : List ℤ) (n : ℤ) → terms_from v (ns ++ n ∷ []) ≡ terms_from v ns ++ net_term (v + length ns) n
terms_push v [] n =
    let z : v + 0 ≡ v = omega arith in
    append-nil (net_term v n) ∙ ap (λ (x : ℕ). net_term x n) (sym z)
terms_push v (m ∷ ns) n =
    let z : (v + 1) + length ns ≡ v + suc (length ns) = omega arith in
    ap (λ (ts : List NormalTerm). net_term v m ++ ts) (terms_push (v + 1) ns n ∙ ap (λ (x : ℕ). terms_from (v + 1) ns ++ net_term x n) z) ∙ sym (append_assoc (net_term v m) (terms_from (v + 1) ns) (net_term (v + suc (length ns)) n))

empty_net : (v : ℕ) (n : ℤ) → unsigned_abs n ≡ 0 → net_term v n ≡ []
empty_net v (pos zero) e = refl
empty_net v (pos (suc n)) e = absurd (omega (arith, e))
empty_net v (negsuc n) e = absurd (omega (arith, e))

-- cells of 0 between
pub across : (ns : List ℤ) (k a : ℕ) → a + k ≤ length ns → ((v : ℕ) → a ≤ v → v < a + k → unsigned_abs (get_or ns v (pos 0)) ≡ 0) → terms_from 0 (take (a + k) ns) ≡ terms_from 0 (take a ns)
across ns zero a h z =
    let e : a + zero ≡ a = omega arith in
    ap (λ (i : ℕ). terms_from 0 (take i ns)) e
across ns (suc k) a h z =
    let e : a + suc k ≡ (a + k) + 1 = omega arith in
    ap (λ (i : ℕ). terms_from 0 (take i ns)) e ∙ ap (terms_from 0) (take_more ns (a + k) (pos 0) (omega (arith, h))) ∙ terms_push 0 (take (a + k) ns) (get_or ns (a + k) (pos 0)) ∙ ap (λ (ts : List NormalTerm). terms_from 0 (take (a + k) ns) ++ ts) (empty_net (0 + length (take (a + k) ns)) (get_or ns (a + k) (pos 0)) (z (a + k) (omega arith) (omega arith))) ∙ append-nil (terms_from 0 (take (a + k) ns)) ∙ across ns k a (omega (arith, h)) (λ v p q. z v p (omega (arith, q)))

pub gap : (ns : List ℤ) (a b : ℕ) → a ≤ b → b ≤ length ns → ((v : ℕ) → a ≤ v → v < b → unsigned_abs (get_or ns v (pos 0)) ≡ 0) → terms_from 0 (take b ns) ≡ terms_from 0 (take a ns)
gap ns a b h l z =
    let e : b ≡ a + (b - a) = omega (arith, h) in
    ap (λ (i : ℕ). terms_from 0 (take i ns)) e ∙ across ns (b - a) a (omega (arith, e, l)) (λ v p q. z v p (omega (arith, q, e)))

-- the next cell that is marked
pub next_cell : (ns : List ℤ) (a b : ℕ) (net : ℤ) → a ≤ b → b < length ns → ((v : ℕ) → a ≤ v → v < b → unsigned_abs (get_or ns v (pos 0)) ≡ 0) → net ≡ get_or ns b net → terms_from 0 (take a ns) ++ net_term b net ≡ terms_from 0 (take (b + 1) ns)
next_cell ns a b net h l z e =
    let size : 0 + length (take b ns) ≡ b = omega (arith, length-take b ns, l) in
    sym (ap (terms_from 0) (take_more ns b net l) ∙ terms_push 0 (take b ns) (get_or ns b net) ∙ ap (λ (i : ℕ). terms_from 0 (take b ns) ++ net_term i (get_or ns b net)) size ∙ ap (λ (n : ℤ). terms_from 0 (take b ns) ++ net_term b n) (sym e) ∙ ap (λ (ts : List NormalTerm). ts ++ net_term b net) (gap ns a b h (omega (arith, l)) z))

-- the variables of the cells below a place are below it
pub bound_from : (v : ℕ) (ns : List ℤ) → variable_bound (terms_from v ns) ≤ v + length ns
bound_from v [] = omega arith
bound_from v (pos zero ∷ ns) = omega (arith, bound_from (v + 1) ns)
bound_from v (pos (suc n) ∷ ns) = omega (arith, bound_from (v + 1) ns)
bound_from v (negsuc n ∷ ns) = omega (arith, bound_from (v + 1) ns)

pub bound_take : (ns : List ℤ) (n : ℕ) (ts : List NormalTerm) → ts ≡ terms_from 0 (take n ns) → variable_bound ts ≤ n
bound_take ns n ts e = omega (arith, ap variable_bound e, bound_from 0 (take n ns), length-take n ns)

-- marks in another order
pub marked_permuted : (xs ys : List ℕ) (ns : List ℤ) → IsPermutation xs ys → IsMarked xs ns → IsMarked ys ns
marked_permuted xs ys ns p m = record {
  covers = λ v h. Contains-permutation xs ys v p (m.covers v h);
  room = All-permutation (λ v. v < length ns) xs ys p m.room;
}

pub kept_fits : (ns : List ℤ) (marks : List ℕ) (sum degree : ℕ) (ts : List NormalTerm) → ts ≡ terms_from 0 ns → IsKept ns marks sum degree → Fits (record { terms = ts; degree = degree })
kept_fits ns marks sum degree ts e k = record { sum = omega (arith, ap total e, terms_total 0 ns, k.summed, k.small); degree = k.low }

pub same_taken : (n d : NormalConstraint) (ns : List ℤ) (degree : ℕ) (ts : List NormalTerm) → constraint_of ns degree ≡ d → ts ≡ terms_from 0 ns → n.terms ≡ ts → n.degree ≡ degree → n ≡ d
same_taken n d ns degree ts is e t f = same_constraint n (constraint_of ns degree) (t ∙ e) f ∙ is
