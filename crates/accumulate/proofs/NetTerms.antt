-- The terms that an array of net coefficients stands for, and what a change of one cell does.
use Rattle.std.proofs.Common.{◌≡◌, ℕ, zero, suc, ◌+◌, ◌<◌, ◌≤◌, Bool, true, false, cond, List, [], ◌∷◌, ◌++◌, length, get_or, refl, ap, sym, ◌∙◌, arith}
use Rattle.std.specs.Prelude.{ℤ, pos, negsuc, ◌+ℤ◌, unsigned_abs, take}
use Rattle.std.proofs.Math.ListN.{set}
use Rattle.std.proofs.lemmas.Int.{ints}
use Rattle.std.proofs.lemmas.List.{take_more}
use Rattle.normal_form.proofs.Runs.{rises_of_push}
use Rattle.normal_form.proofs.Sums.{sum_over_more, bound_at}
use Rattle.normal_form.specs.declared.term.NormalTerm.{NormalTerm}
use Rattle.normal_form.specs.Normal.{total, Rises, variable_bound}
use Rattle.normal_form.specs.Balance.{rise_of, rises_of, net_term}
use Rattle.accumulate.specs.declared.cells.Change.{Change}
use Rattle.accumulate.specs.declared.cells.Change.TheVariants as changes
use Rattle.accumulate.specs.Nets.{terms_from, nets_of, sizes, turned}

zero_either : (b : Bool) → cond b (pos 0) (pos 0) ≡ pos 0
zero_either true = refl
zero_either false = refl

-- the terms give each set what the array does
pub terms_give : (s : ℕ → Bool) (v : ℕ) (ns : List ℤ) → rises_of s (terms_from v ns) ≡ nets_of s v ns
terms_give s v [] = refl
terms_give s v (pos zero ∷ ns) = omega (arith, ints, terms_give s (v + 1) ns, zero_either (s v))
terms_give s v (pos (suc n) ∷ ns) = ap (λ (z : ℤ). cond (s v) (pos (suc n)) (pos 0) +ℤ z) (terms_give s (v + 1) ns)
terms_give s v (negsuc n ∷ ns) = ap (λ (z : ℤ). cond (s v) (negsuc n) (pos 0) +ℤ z) (terms_give s (v + 1) ns)

-- their coefficients add up to the sizes
pub terms_total : (v : ℕ) (ns : List ℤ) → total (terms_from v ns) ≡ sizes ns
terms_total v [] = refl
terms_total v (pos zero ∷ ns) = omega (arith, terms_total (v + 1) ns)
terms_total v (pos (suc n) ∷ ns) = omega (arith, terms_total (v + 1) ns)
terms_total v (negsuc n ∷ ns) = omega (arith, terms_total (v + 1) ns)

-- they rise
weaker : (low high : ℕ) (ts : List NormalTerm) → low ≤ high → Rises high ts → Rises low ts
weaker low high [] h r = tt
weaker low high (t ∷ ts) h r = (omega (arith, h, r.0), r.1, r.2)

pub terms_rise : (v : ℕ) (ns : List ℤ) → Rises v (terms_from v ns)
terms_rise v [] = tt
terms_rise v (pos zero ∷ ns) = weaker v (v + 1) (terms_from (v + 1) ns) (omega arith) (terms_rise (v + 1) ns)
terms_rise v (pos (suc n) ∷ ns) = (omega arith, omega arith, terms_rise (v + 1) ns)
terms_rise v (negsuc n ∷ ns) = (omega arith, omega arith, terms_rise (v + 1) ns)

-- one cell more at the end, of 0
pub terms_longer : (v : ℕ) (ns : List ℤ) → terms_from v (ns ++ pos 0 ∷ []) ≡ terms_from v ns
terms_longer v [] = refl
terms_longer v (n ∷ ns) = ap (λ (ts : List NormalTerm). net_term v n ++ ts) (terms_longer (v + 1) ns)

-- a cell set to another net coefficient
swapped : (b : Bool) (old new rest : ℤ) → (cond b new (pos 0) +ℤ rest) +ℤ cond b old (pos 0) ≡ (cond b old (pos 0) +ℤ rest) +ℤ cond b new (pos 0)
swapped true old new rest = omega (arith, ints)
swapped false old new rest = omega (arith, ints)

pub set_gives : (s : ℕ → Bool) (v : ℕ) (ns : List ℤ) (i : ℕ) (new d : ℤ) → i < length ns → nets_of s v (set ns i new) +ℤ cond (s (v + i)) (get_or ns i d) (pos 0) ≡ nets_of s v ns +ℤ cond (s (v + i)) new (pos 0)
set_gives s v [] i new d h = absurd (omega (arith, h))
set_gives s v (n ∷ ns) zero new d h =
    let e : v + zero ≡ v = omega arith in
    rw e (swapped (s v) n new (nets_of s (v + 1) ns))
set_gives s v (n ∷ ns) (suc i) new d h =
    let e : v + suc i ≡ (v + 1) + i = omega arith in
    rw e (omega (arith, ints, set_gives s (v + 1) ns i new d (omega (arith, h))))

moved : (b : Bool) (x y was old net new : ℤ) → x +ℤ cond b was (pos 0) ≡ y +ℤ cond b new (pos 0) → old ≡ was → new ≡ old +ℤ net → x ≡ y +ℤ cond b net (pos 0)
moved true x y was old net new k e f = omega (arith, ints, k, e, f)
moved false x y was old net new k e f = omega (arith, ints, k)

pub set_sizes : (ns : List ℤ) (i : ℕ) (new d : ℤ) → i < length ns → sizes (set ns i new) + unsigned_abs (get_or ns i d) ≡ sizes ns + unsigned_abs new
set_sizes [] i new d h = absurd (omega (arith, h))
set_sizes (n ∷ ns) zero new d h = omega arith
set_sizes (n ∷ ns) (suc i) new d h = omega (arith, set_sizes ns i new d (omega (arith, h)))

-- no cell is larger than all sizes together
pub size_below : (ns : List ℤ) (i : ℕ) (d : ℤ) → i < length ns → unsigned_abs (get_or ns i d) ≤ sizes ns
size_below [] i d h = absurd (omega (arith, h))
size_below (n ∷ ns) zero d h = omega arith
size_below (n ∷ ns) (suc i) d h = omega (arith, size_below ns i d (omega (arith, h)))

-- a cell of which more becomes the net coefficient
pub cell_gives : (s : ℕ → Bool) (ns : List ℤ) (i : ℕ) (old net new : ℤ) → i < length ns → old ≡ get_or ns i old → new ≡ old +ℤ net → nets_of s 0 (set ns i new) ≡ nets_of s 0 ns +ℤ cond (s i) net (pos 0)
cell_gives s ns i old net new h e f =
    let z : 0 + i ≡ i = omega arith in
    let g : nets_of s 0 (set ns i new) +ℤ cond (s (0 + i)) (get_or ns i old) (pos 0) ≡ nets_of s 0 ns +ℤ cond (s (0 + i)) new (pos 0) = set_gives s 0 ns i new old h in
    let k : nets_of s 0 (set ns i new) +ℤ cond (s i) (get_or ns i old) (pos 0) ≡ nets_of s 0 ns +ℤ cond (s i) new (pos 0) = rw z at g in
    moved (s i) (nets_of s 0 (set ns i new)) (nets_of s 0 ns) (get_or ns i old) old net new k e f

-- one term more of a constraint
turned_more : (change : Change) (b : Bool) (old cur new r more rise net : ℤ) → cur ≡ old +ℤ turned change r → new ≡ cur +ℤ cond b net (pos 0) → more ≡ r +ℤ cond b rise (pos 0) → net ≡ turned change rise → new ≡ old +ℤ turned change more
turned_more changes.TakeBack true old cur new r more rise net e f g h = omega (arith, ints, e, f, g, h)
turned_more changes.TakeBack false old cur new r more rise net e f g h = omega (arith, ints, e, f, g, h)
turned_more changes.Add true old cur new r more rise net e f g h = omega (arith, ints, e, f, g, h)
turned_more changes.Add false old cur new r more rise net e f g h = omega (arith, ints, e, f, g, h)

pub gives_more : (change : Change) (s : ℕ → Bool) (old cur new net : ℤ) (ts : List NormalTerm) (i : ℕ) (t : NormalTerm) → i < length ts → t ≡ get_or ts i t → cur ≡ old +ℤ turned change (rises_of s (take i ts)) → new ≡ cur +ℤ cond (s (t.var.0)) net (pos 0) → net ≡ turned change (rise_of t) → new ≡ old +ℤ turned change (rises_of s (take (i + 1) ts))
gives_more change s old cur new net ts i t h e f g k =
    let more : rises_of s (take (i + 1) ts) ≡ rises_of s (take i ts) +ℤ cond (s (t.var.0)) (rise_of t) (pos 0) = ap (rises_of s) (take_more ts i t h) ∙ rises_of_push s (take i ts) (get_or ts i t) ∙ ap (λ (u : NormalTerm). rises_of s (take i ts) +ℤ cond (s (u.var.0)) (rise_of u) (pos 0)) (sym e) in
    turned_more change (s (t.var.0)) old cur new (rises_of s (take i ts)) (rises_of s (take (i + 1) ts)) (rise_of t) net f g more k

pub total_more : (all next size : ℕ) (first : ℕ) (ts : List NormalTerm) (i : ℕ) (t : NormalTerm) → i < length ts → t ≡ get_or ts i t → all ≤ first + total (take i ts) → next ≤ all + size → size ≡ t.coef → next ≤ first + total (take (i + 1) ts)
total_more all next size first ts i t h e f g k = omega (arith, sum_over_more (λ _ _. true) ts i t h, ap (λ (x : NormalTerm). x.coef) e, f, g, k)

pub room_at : (ts : List NormalTerm) (i n : ℕ) (t : NormalTerm) → i < length ts → t ≡ get_or ts i t → variable_bound ts ≤ n → t.var.0 < n
room_at ts i n t h e b = omega (arith, bound_at ts i t h, ap (λ (x : NormalTerm). x.var.0) e, b)
