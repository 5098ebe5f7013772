-- Lists of entries whose ids rise, as a map of the library keeps them, and the finite map that they make.
use Rattle.std.proofs.Common.{◌≡◌, ℕ, zero, suc, ◌<◌, ◌≤◌, Bool, true, false, cond, ◌&&◌, T, Option, Some, None, List, [], ◌∷◌, map, All, length, get_or, refl, sym, ap, subst, ◌∙◌, inl, inr, ◌⊎◌, arith}
use Rattle.std.specs.Ordering.{nat_cmp, eq_by_cmp, is_eq, is_lt}
use Rattle.std.specs.declared.cmp.Ordering.{Ordering}
use Rattle.std.specs.declared.cmp.Ordering.TheVariants.{Less, Equal, Greater}
use Rattle.std.specs.BTreeMap.{is_at}
use Rattle.std.specs.BTreeMap.Range.{entries_between}
use Rattle.std.specs.declared.ops.Bound.TheVariants.{Excluded, Unbounded}
use Rattle.std.specs.Map.{lookup}
use Rattle.std.specs.FinMap as fin
use Rattle.std.specs.FinMap.Entries.{below_all}
use Rattle.std.specs.List.Sorted.{IsStrictlySortedBy}
use Rattle.std.specs.Cmp.{tied_itself, eq_by_cmp_equiv}
use Rattle.std.proofs.lemmas.Bool.{cases_eq, cases_lt}
use Rattle.std.proofs.lemmas.Bool.Decides.{nat_tests}
use Rattle.std.proofs.lemmas.Cmp.{nat_cmp_total}
use Rattle.std.proofs.lemmas.List.{length-map}
use Rattle.std.proofs.lemmas.List.Elements.{All-head, All-tail}
use Rattle.std.proofs.lemmas.Map.Keys.{sorted_tail}
use Rattle.std.proofs.lemmas.Map.Views.{All-after_first}
use Rattle.normal_form.specs.Normal.{NormalConstraint}
use Rattle.propagate.specs.Content.{Content, IsLeastAbove}

abbrev pub Entries : Type 0
Entries = List (ℕ × NormalConstraint)

abbrev pub ids_of : Entries → List ℕ
ids_of = map (λ e. e.0)

abbrev pub values_of : Entries → List NormalConstraint
values_of = map (λ e. e.1)

abbrev pub content_of : Entries → Content
content_of es = fin.from_entries es

find_is : (es : Entries) (q : ℕ) → fin.find nat_cmp q es ≡ lookup (is_at (nat_cmp q)) es
find_is [] q = refl
find_is (e ∷ es) q = ap (λ (o : Option NormalConstraint). cond (is_at (nat_cmp q) e.0) (Some e.1) o) (find_is es q)

-- what the map that entries make has at an id
pub get_is : (es : Entries) (q : ℕ) → fin.get (content_of es) q ≡ lookup (is_at (nat_cmp q)) es
get_is es q = fin.get-from_entries nat_cmp_total es q ∙ find_is es q

-- entries that differ at one id make maps that differ there
pub one_given : (es fs : Entries) (k : ℕ) (n : NormalConstraint) → ((q : ℕ) → lookup (is_at (nat_cmp q)) fs ≡ cond (is_at (nat_cmp k) q) (Some n) (lookup (is_at (nat_cmp q)) es)) → content_of fs ≡ fin.insert (content_of es) k n
one_given es fs k n h = fin.same_map nat_cmp_total fin.nat_cmp-IsAntisymmetric _ _ (λ q.
    get_is fs q ∙ h q ∙ ap (λ b. cond b (Some n) (lookup (is_at (nat_cmp q)) es)) ((eq_by_cmp_equiv nat_cmp_total).symm k q)
    ∙ sym (fin.get-insert nat_cmp_total (content_of es) k n q ∙ ap (cond (is_at (nat_cmp q) k) (Some n)) (get_is es q)))

pub one_removed : (es fs : Entries) (k : ℕ) → ((q : ℕ) → lookup (is_at (nat_cmp q)) fs ≡ cond (is_at (nat_cmp k) q) None (lookup (is_at (nat_cmp q)) es)) → content_of fs ≡ fin.remove (content_of es) k
one_removed es fs k h = fin.same_map nat_cmp_total fin.nat_cmp-IsAntisymmetric _ _ (λ q.
    get_is fs q ∙ h q ∙ ap (λ b. cond b None (lookup (is_at (nat_cmp q)) es)) ((eq_by_cmp_equiv nat_cmp_total).symm k q)
    ∙ sym (fin.get-remove nat_cmp_total (content_of es) k q ∙ ap (cond (is_at (nat_cmp q) k) None) (get_is es q)))

both : (a b : Bool) → T a → T b → T (a && b)
both true b h k = k
both false b h k = absurd h

parts : (a b : Bool) → T (a && b) → T a × T b
parts true b h = (tt, h)
parts false b h = absurd h

below : (k : ℕ) (es : Entries) → All (λ q. nat_cmp k q ≡ Less) (ids_of es) → T (below_all nat_cmp k es)
below k [] h = tt
below k (e ∷ es) h =
    both (is_lt (nat_cmp k e.0)) (below_all nat_cmp k es) (subst (λ (o : Ordering). T (is_lt o)) (sym (All-head (λ q. nat_cmp k q ≡ Less) e.0 (ids_of es) h)) tt)
    (below k es (All-tail (λ q. nat_cmp k q ≡ Less) e.0 (ids_of es) h))

pub rise : (es : Entries) → IsStrictlySortedBy nat_cmp (ids_of es) → T (fin.is_sorted nat_cmp es)
rise [] h = tt
rise (e ∷ es) h =
    both (below_all nat_cmp e.0 es) (fin.is_sorted nat_cmp es) (below e.0 es (All-after_first nat_cmp e.0 (ids_of es) h)) (rise es (sorted_tail nat_cmp e.0 (ids_of es) h))

-- the constraints by rising id are those of the entries
pub values_are : (es : Entries) → T (fin.is_sorted nat_cmp es) → fin.values (content_of es) ≡ values_of es
values_are es h =
    let same : content_of es ≡ fin.from_sorted es = fin.same_map nat_cmp_total fin.nat_cmp-IsAntisymmetric (content_of es) (fin.from_sorted es) (λ q.
    fin.get-from_entries nat_cmp_total es q ∙ sym (fin.get-from_sorted nat_cmp es q h)) in
    ap fin.values same ∙ ap values_of (fin.entries-from_sorted nat_cmp es h)

less_is : (b d : Bool) → T (is_lt (cond b Less (cond d Equal Greater))) → b ≡ true
less_is true d h = refl
less_is false true h = absurd h
less_is false false h = absurd h

key_below : (x y : ℕ) → T (is_lt (nat_cmp x y)) → x < y
key_below x y h = let less = less_is (Rattle.std.proofs.Common.nat_lt x y) (Rattle.std.proofs.Common.nat_eq x y) h in grind (arith, nat_tests)

pub other_key : (x y : ℕ) → (x ≡ y → ⊥) → eq_by_cmp nat_cmp x y ≡ false
other_key x y h = grind (arith, nat_tests)

pub passed_over : (q : ℕ) (e : ℕ × NormalConstraint) (es : Entries) → (q ≡ e.0 → ⊥) → fin.find nat_cmp q (e ∷ es) ≡ fin.find nat_cmp q es
passed_over q e es h = ap (λ (b : Bool). cond b (Some e.1) (fin.find nat_cmp q es)) (other_key q e.0 h)

pub found_first : (e : ℕ × NormalConstraint) (es : Entries) → fin.find nat_cmp e.0 (e ∷ es) ≡ Some e.1
found_first e es = ap (λ (o : Ordering). cond (is_eq o) (Some e.1) (fin.find nat_cmp e.0 es)) (tied_itself nat_cmp_total e.0)

-- no id up to one that is below all is there
pub none_below : (k q : ℕ) (es : Entries) → T (below_all nat_cmp k es) → q ≤ k → fin.find nat_cmp q es ≡ None
none_below k q [] h l = refl
none_below k q (e ∷ es) h l =
    let p = parts (is_lt (nat_cmp k e.0)) (below_all nat_cmp k es) h in
    passed_over q e es (λ same. omega (arith, same, l, key_below k e.0 p.0)) ∙ none_below k q es p.1 l

-- the entries behind the first one rise too, and its id is not there
pub rest_rises : (e : ℕ × NormalConstraint) (es : Entries) → T (fin.is_sorted nat_cmp (e ∷ es)) → T (fin.is_sorted nat_cmp es)
rest_rises e es h = (parts (below_all nat_cmp e.0 es) (fin.is_sorted nat_cmp es) h).1

pub none_in_rest : (e : ℕ × NormalConstraint) (es : Entries) (q : ℕ) → T (fin.is_sorted nat_cmp (e ∷ es)) → q ≡ e.0 → fin.find nat_cmp q es ≡ None
none_in_rest e es q h same = none_below e.0 q es (parts (below_all nat_cmp e.0 es) (fin.is_sorted nat_cmp es) h).0 (omega (arith, same))

-- at each place stands the constraint of the id that stands there
pub found_at : (es : Entries) (k d : ℕ) (n : NormalConstraint) → T (fin.is_sorted nat_cmp es) → k < length (values_of es) → get_or (values_of es) k n ≡ n → fin.find nat_cmp (get_or (ids_of es) k d) es ≡ Some n
found_at [] k d n s h e = absurd (omega (arith, h))
found_at (x ∷ es) zero d n s h e = found_first x es ∙ ap (λ (m : NormalConstraint). Some m) e
found_at (x ∷ es) (suc k) d n s h e =
    let p = parts (below_all nat_cmp x.0 es) (fin.is_sorted nat_cmp es) s in
    let later = found_at es k d n p.1 (omega (arith, h)) e in
    later_entry x es (get_or (ids_of es) k d) n p.0 later
  where
    later_entry : (x : ℕ × NormalConstraint) (es : Entries) (q : ℕ) (n : NormalConstraint) → T (below_all nat_cmp x.0 es) → fin.find nat_cmp q es ≡ Some n → fin.find nat_cmp q (x ∷ es) ≡ Some n
    later_entry x es q n b is = elim (cases_eq q x.0) [
      | inl same ↦ let none = none_below x.0 q es b (omega (arith, same)) in absurd (cc)
      | inr other ↦ passed_over q x es other ∙ is
    ]

-- the entries above an id
abbrev above : ℕ → Entries → Entries
above id es = entries_between nat_cmp (Excluded id) Unbounded es

chosen : (id : ℕ) (e : ℕ × NormalConstraint) (es : Entries) → (id < e.0) ⊎ (e.0 ≤ id)
chosen id e es = cases_lt id e.0

kept : (id : ℕ) (e : ℕ × NormalConstraint) (es : Entries) → id < e.0 → above id (e ∷ es) ≡ e ∷ above id es
kept id e es h =
    let less : is_lt (nat_cmp id e.0) ≡ true = grind (arith, nat_tests) in
    ap (λ (b : Bool). cond (b && true) (e ∷ above id es) (above id es)) less

dropped : (id : ℕ) (e : ℕ × NormalConstraint) (es : Entries) → e.0 ≤ id → above id (e ∷ es) ≡ above id es
dropped id e es h =
    let not_less : is_lt (nat_cmp id e.0) ≡ false = grind (arith, nat_tests) in
    ap (λ (b : Bool). cond (b && true) (e ∷ above id es) (above id es)) not_less

-- where no entry is above an id, no id above it is there
none_above_id : (es : Entries) (id : ℕ) → above id es ≡ [] → (k : ℕ) → id < k → fin.find nat_cmp k es ≡ None
none_above_id [] id e k h = refl
none_above_id (x ∷ es) id e k h = elim (chosen id x es) [
  | inl more ↦ absurd (cc (sym (kept id x es more) ∙ e))
  | inr less ↦ passed_over k x es (λ same. omega (arith, same, less, h)) ∙ none_above_id es id (sym (dropped id x es less) ∙ e) k h
]

abbrev Least : Entries → ℕ → ℕ × NormalConstraint → Type 0
Least es id e = (id < e.0) × (fin.find nat_cmp e.0 es ≡ Some e.1) × ((k : ℕ) → id < k → k < e.0 → fin.find nat_cmp k es ≡ None)

same_head : (x e : ℕ × NormalConstraint) (xs rest : Entries) → x ∷ xs ≡ e ∷ rest → x ≡ e
same_head x e xs rest h = cc

first_above : (es : Entries) (id : ℕ) (e : ℕ × NormalConstraint) (rest : Entries) → T (fin.is_sorted nat_cmp es) → above id es ≡ e ∷ rest → Least es id e
first_above [] id e rest s h = absurd (cc)
first_above (x ∷ es) id e rest s h =
    let p = parts (below_all nat_cmp x.0 es) (fin.is_sorted nat_cmp es) s in
    elim (chosen id x es) [
      | inl more ↦
          subst (Least (x ∷ es) id) (same_head x e (above id es) rest (sym (kept id x es more) ∙ h)) (
            more,
            found_first x es,
            λ k low high. passed_over k x es (λ same. omega (arith, same, high)) ∙ none_below x.0 k es p.0 (omega (arith, high)),
          )
      | inr less ↦
          let r = first_above es id e rest p.1 (sym (dropped id x es less) ∙ h) in (
            r.0,
            passed_over e.0 x es (λ same. omega (arith, same, less, r.0)) ∙ r.1,
            λ k low high. passed_over k x es (λ same. omega (arith, same, less, low)) ∙ r.2 k low high,
          )
    ]

pub none_above : (es : Entries) (id : ℕ) → T (fin.is_sorted nat_cmp es) → above id es ≡ [] → IsLeastAbove (content_of es) id None
none_above es id s h k low = fin.get-from_entries nat_cmp_total es k ∙ none_above_id es id h k low

pub least_above : (es : Entries) (id : ℕ) (e : ℕ × NormalConstraint) (rest : Entries) → T (fin.is_sorted nat_cmp es) → above id es ≡ e ∷ rest → IsLeastAbove (content_of es) id (Some e.0)
least_above es id e rest s h =
    let r = first_above es id e rest s h in (
      r.0,
      (e.1, fin.get-from_entries nat_cmp_total es e.0 ∙ r.1),
      λ k low high. fin.get-from_entries nat_cmp_total es k ∙ r.2 k low high,
    )

-- as many ids as constraints
pub lengths : {X : Type 0} (f : X → NormalConstraint) (xs : List X) (ids : List ℕ) (es : Entries) → T (fin.is_sorted nat_cmp es) → map f xs ≡ fin.values (content_of es) → ids ≡ ids_of es → length ids ≡ length xs
lengths f xs ids es rises e k =
    let left : length ids ≡ length es = ap length k ∙ length-map es (λ e. e.0) in
    let right : length (map f xs) ≡ length es = ap length (e ∙ values_are es rises) ∙ length-map es (λ e. e.1) in
    omega (arith, left, right, length-map xs f)
