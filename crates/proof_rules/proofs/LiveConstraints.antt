-- What holds of each live constraint, through changes of the map.
use Rattle.std.proofs.Common.{◌≡◌, ℕ, ◌+◌, ◌<◌, ◌≤◌, length, Bool, true, false, cond, ◌&&◌, T, Ordering, Option, Some, None, ◌⊎◌, inl, inr, ◌==◌, nat_lt, List, [], ◌∷◌, map, All, Any, refl, sym, ap, subst, ◌∙◌, arith}
use Rattle.std.specs.declared.cmp.Ordering.TheVariants.{Less, Equal, Greater}
use Rattle.std.specs.Ordering.{nat_cmp, eq_by_cmp, is_lt, is_eq}
use Rattle.std.specs.FinMap as fin
use Rattle.std.specs.FinMap.Entries.{below_all}
use Rattle.std.proofs.lemmas.Bool.{false≢true, ltb-true}
use Rattle.std.proofs.lemmas.Bool.Decides.{nat_tests}
use Rattle.std.proofs.lemmas.Cmp.{nat_cmp_total}
use Rattle.std.specs.Cmp.{tied_itself}
use Rattle.std.proofs.lemmas.List.Elements.{All-nil, All-cons, All-head, All-tail}
use Rattle.propagate.proofs.AnyOf.{any_here, any_there, any_split, any_none}
use Rattle.normal_form.specs.Normal.{NormalConstraint}
use Rattle.proof_rules.specs.State.{Live, numbered, state_of, up_to}
use Rattle.proof_rules.proofs.Deciding.{Decided}

abbrev Entries : Type 0
Entries = List (ℕ × NormalConstraint)

abbrev values : Entries → List NormalConstraint
values = map (λ e. e.1)

pub found_here : (P : NormalConstraint → Type 0) (b : Bool) (x n : NormalConstraint) (rest : Option NormalConstraint)
    → P x → (rest ≡ Some n → P n) → cond b (Some x) rest ≡ Some n → P n
found_here P true x n rest here there is = let same : x ≡ n = cc in subst P same here
found_here P false x n rest here there is = there is

-- what is found in a list of entries is one of its values
found : (P : NormalConstraint → Type 0) (es : Entries) (k : ℕ) (n : NormalConstraint) → All P (values es) → fin.find nat_cmp k es ≡ Some n → P n
found P [] k n all is = absurd (cc)
found P (e ∷ es) k n all is =
    found_here P (eq_by_cmp nat_cmp k e.0) e.1 n (fin.find nat_cmp k es) (All-head P e.1 (values es) all)
    (found P es k n (All-tail P e.1 (values es) all)) is

-- what holds of all live constraints holds of that of an id
pub All-get : (P : NormalConstraint → Type 0) (live : Live) (k : ℕ) (n : NormalConstraint) → All P (fin.values live) → fin.get live k ≡ Some n → P n
All-get P live k n all is = found P (fin.entries live) k n all (sym (fin.get-entries live k) ∙ is)

both : (a b : Bool) → T (a && b) → T a × T b
both true b h = (tt, h)
both false b h = absurd h

less_not_equal : (o : Ordering) → T (is_lt o) → is_eq o ≡ false
less_not_equal Less h = refl
less_not_equal Equal h = absurd h
less_not_equal Greater h = absurd h

not_below : (q : ℕ) (es : Entries) → T (below_all nat_cmp q es) → fin.find nat_cmp q es ≡ None
not_below q [] h = refl
not_below q (e ∷ es) h =
    let h2 = both (is_lt (nat_cmp q e.0)) (below_all nat_cmp q es) h in
    ap (λ b. cond b (Some e.1) (fin.find nat_cmp q es)) (less_not_equal (nat_cmp q e.0) h2.0) ∙ not_below q es h2.1

same_key : (o : Ordering) (k q : ℕ) → (o ≡ Equal → k ≡ q) → is_eq o ≡ true → k ≡ q
same_key Less k q same h = absurd (false≢true h)
same_key Equal k q same h = same refl
same_key Greater k q same h = absurd (false≢true h)

-- keys that the order takes for one are one
pub key_of : (k q : ℕ) → eq_by_cmp nat_cmp k q ≡ true → k ≡ q
key_of k q h = same_key (nat_cmp k q) k q (fin.nat_cmp-IsAntisymmetric k q) h

-- what is found behind an entry is found with it before, since keys rise
found_later : (e : ℕ × NormalConstraint) (es : Entries) (k : ℕ) (n : NormalConstraint) → T (below_all nat_cmp e.0 es)
    → fin.find nat_cmp k es ≡ Some n → fin.find nat_cmp k (e ∷ es) ≡ Some n
found_later e es k n below is = by (eq_by_cmp nat_cmp k e.0) refl
  where
    by : (b : Bool) → eq_by_cmp nat_cmp k e.0 ≡ b → cond b (Some e.1) (fin.find nat_cmp k es) ≡ Some n
    by true h =
        let same : k ≡ e.0 = same_key (nat_cmp k e.0) k e.0 (fin.nat_cmp-IsAntisymmetric k e.0) h in
        let none : fin.find nat_cmp k es ≡ None = ap (λ q. fin.find nat_cmp q es) same ∙ not_below e.0 es below in
        absurd (cc)
    by false h = is

found_first : (e : ℕ × NormalConstraint) (es : Entries) → fin.find nat_cmp e.0 (e ∷ es) ≡ Some e.1
found_first e es = ap (λ o. cond (is_eq o) (Some e.1) (fin.find nat_cmp e.0 es)) (tied_itself nat_cmp_total e.0)

-- what holds of every constraint that is found holds of all
each_found : (P : NormalConstraint → Type 0) (es : Entries) → T (fin.is_sorted nat_cmp es)
    → ((k : ℕ) (n : NormalConstraint) → fin.find nat_cmp k es ≡ Some n → P n) → All P (values es)
each_found P [] sorted h = All-nil P
each_found P (e ∷ es) sorted h =
    let s = both (below_all nat_cmp e.0 es) (fin.is_sorted nat_cmp es) sorted in
    All-cons P e.1 (values es) (h e.0 e.1 (found_first e es)) (each_found P es s.1 (λ k n is. h k n (found_later e es k n s.0 is)))

-- what holds of the constraint of every id holds of all live constraints
pub All-from_get : (P : NormalConstraint → Type 0) (live : Live) → ((k : ℕ) (n : NormalConstraint) → fin.get live k ≡ Some n → P n) → All P (fin.values live)
All-from_get P live h = each_found P (fin.entries live) (fin.entries_sorted live) (λ k n is. h k n (fin.get-entries live k ∙ is))

-- what holds of the new constraint and of all live ones holds of all with it
pub All-insert : (P : NormalConstraint → Type 0) (live : Live) (k : ℕ) (n : NormalConstraint) → P n → All P (fin.values live) → All P (fin.values (fin.insert live k n))
All-insert P live k n here all =
    All-from_get P (fin.insert live k n) (λ q m is.
    found_here P (eq_by_cmp nat_cmp q k) n m (fin.get live q) here (All-get P live q m all) (sym (fin.get-insert nat_cmp_total live k n q) ∙ is))

none_or : (P : NormalConstraint → Type 0) (b : Bool) (m : NormalConstraint) (rest : Option NormalConstraint) → (rest ≡ Some m → P m) → cond b None rest ≡ Some m → P m
none_or P true m rest there is = absurd (cc)
none_or P false m rest there is = there is

pub found_left : (live : Live) (gone id : ℕ) (n : NormalConstraint) → fin.get (fin.remove live gone) id ≡ Some n → fin.get live id ≡ Some n
found_left live gone id n is = by (eq_by_cmp nat_cmp id gone) (fin.get live id) (sym (fin.get-remove nat_cmp_total live gone id) ∙ is)
  where
    by : (b : Bool) (o : Option NormalConstraint) → cond b None o ≡ Some n → o ≡ Some n
    by true o h = absurd (cc)
    by false o h = h

-- fewer live constraints
pub All-remove : (P : NormalConstraint → Type 0) (live : Live) (k : ℕ) → All P (fin.values live) → All P (fin.values (fin.remove live k))
All-remove P live k all =
    All-from_get P (fin.remove live k) (λ q m is.
    none_or P (eq_by_cmp nat_cmp q k) m (fin.get live q) (All-get P live q m all) (sym (fin.get-remove nat_cmp_total live k q) ∙ is))

-- the constraints under ids below a number
tested : (b : Bool) (o : Option NormalConstraint) (n : NormalConstraint) → cond b o None ≡ Some n → (b ≡ true) × (o ≡ Some n)
tested true o n is = (refl, is)
tested false o n is = absurd (cc)

pub get_up_to : (live : Live) (end id : ℕ) → fin.get (up_to end live) id ≡ cond (nat_lt id end) (fin.get live id) None
get_up_to live end id = fin.get-retain_keys live (λ k. nat_lt k end) id (λ k tied. ap (λ q. nat_lt q end) (sym (fin.nat_cmp-IsAntisymmetric id k tied)))

pub within_up_to : (live : Live) (end id : ℕ) (n : NormalConstraint) → fin.get (up_to end live) id ≡ Some n → (id < end) × (fin.get live id ≡ Some n)
within_up_to live end id n is =
    let h = tested (nat_lt id end) (fin.get live id) n (sym (get_up_to live end id) ∙ is) in
    (ltb-true id end h.0, h.1)

pub found_up_to : (live : Live) (end id : ℕ) (n : NormalConstraint) → id < end → fin.get live id ≡ Some n → fin.get (up_to end live) id ≡ Some n
found_up_to live end id n less is = get_up_to live end id ∙ by (nat_lt id end) refl
  where
    by : (b : Bool) → nat_lt id end ≡ b → cond b (fin.get live id) None ≡ Some n
    by true h = is
    by false h = absurd (grind (arith, nat_tests, h, less))

pub All-up_to : (P : NormalConstraint → Type 0) (live : Live) (end : ℕ) → All P (fin.values live) → All P (fin.values (up_to end live))
All-up_to P live end all = All-from_get P (up_to end live) (λ q m is. All-get P live q m all (within_up_to live end q m is).1)

-- what is found among numbered constraints stands within their numbers
found_by : (id q : ℕ) (n m : NormalConstraint) (ns : List NormalConstraint) (b : Bool) → eq_by_cmp nat_cmp q id ≡ b
    → (fin.find nat_cmp q (numbered (id + 1) ns) ≡ Some m → (id + 1 ≤ q) × (q < (id + 1) + length ns))
    → cond b (Some n) (fin.find nat_cmp q (numbered (id + 1) ns)) ≡ Some m → (id ≤ q) × (q < id + length (n ∷ ns))
found_by id q n m ns true key later is = let same : q ≡ id = key_of q id key in (omega (arith, same), omega (arith, same))
found_by id q n m ns false key later is = let h = later is in (omega (arith, h.0), omega (arith, h.1))

found_within : (id q : ℕ) (m : NormalConstraint) (ns : List NormalConstraint) → fin.find nat_cmp q (numbered id ns) ≡ Some m → (id ≤ q) × (q < id + length ns)
found_within id q m [] is = absurd (cc)
found_within id q m (n ∷ ns) is = found_by id q n m ns (eq_by_cmp nat_cmp q id) refl (found_within (id + 1) q m ns) is

-- and those of the state of a list within 1 and their count
pub listed_within : (ns : List NormalConstraint) (id : ℕ) (n : NormalConstraint) → fin.get (state_of ns).live id ≡ Some n → (1 ≤ id) × (id < 1 + length ns)
listed_within ns id n is = found_within 1 id n ns (sym (fin.get-from_entries nat_cmp_total (numbered 1 ns) id) ∙ is)

values_numbered : (id : ℕ) (ns : List NormalConstraint) → values (numbered id ns) ≡ ns
values_numbered id [] = refl
values_numbered id (n ∷ ns) = ap (λ rest. n ∷ rest) (values_numbered (id + 1) ns)

-- the constraints of a list, under their ids
pub All-numbered : (P : NormalConstraint → Type 0) (id : ℕ) (ns : List NormalConstraint) → All P ns → All P (fin.values (fin.from_entries {R = nat_cmp} (numbered id ns)))
All-numbered P id ns all =
    All-from_get P (fin.from_entries (numbered id ns)) (λ q m is.
    found P (numbered id ns) q m (subst (All P) (sym (values_numbered id ns)) all) (sym (fin.get-from_entries nat_cmp_total (numbered id ns) q) ∙ is))

-- what is found at or behind an entry has its key or a greater one

less_keys : (b : Bool) (rest : Ordering) → T (is_lt (cond b Less rest)) → (is_lt rest ≡ false) → b ≡ true
less_keys true rest h never = refl
less_keys false rest h never = absurd (subst T never h)

not_less : (b : Bool) → is_lt (cond b Equal Greater) ≡ false
not_less true = refl
not_less false = refl

key_less : (x y : ℕ) → T (is_lt (nat_cmp x y)) → x < y
key_less x y h = ltb-true x y (less_keys (nat_lt x y) (cond (x == y) Equal Greater) h (not_less (x == y)))

key_found : (e : ℕ × NormalConstraint) (es : Entries) (k : ℕ) (d : NormalConstraint) → (b : Bool) → eq_by_cmp nat_cmp k e.0 ≡ b
    → cond b (Some e.1) (fin.find nat_cmp k es) ≡ Some d → ((k ≡ e.0) × (d ≡ e.1)) ⊎ (fin.find nat_cmp k es ≡ Some d)
key_found e es k d true same is = inl (same_key (nat_cmp k e.0) k e.0 (fin.nat_cmp-IsAntisymmetric k e.0) same, cc)
key_found e es k d false same is = inr is

found_above : (q : ℕ) (es : Entries) (k : ℕ) (d : NormalConstraint) → T (below_all nat_cmp q es) → fin.find nat_cmp k es ≡ Some d → q < k
found_above q [] k d below is = absurd (cc)
found_above q (e ∷ es) k d below is =
    let parts = both (is_lt (nat_cmp q e.0)) (below_all nat_cmp q es) below in
    elim (key_found e es k d (eq_by_cmp nat_cmp k e.0) refl is) as (λ _. q < k) [
      | inl same ↦ omega (arith, key_less q e.0 parts.0, same.0)
      | inr later ↦ found_above q es k d parts.1 later
    ]

-- what is asked of a constraint and its id holds of all, or fails of one and holds of those of all ids before
abbrev HoldsOfEach : (ℕ → NormalConstraint → Type 0) → (ℕ → Option NormalConstraint) → Type 0
HoldsOfEach Q found = (id : ℕ) (e : NormalConstraint) → found id ≡ Some e → Q id e

abbrev FirstFailing : (ℕ → NormalConstraint → Type 0) → (ℕ → Option NormalConstraint) → Type 0
FirstFailing Q found =
    (id : ℕ) × (e : NormalConstraint) × (found id ≡ Some e) × (Q id e → ⊥) × ((k : ℕ) (d : NormalConstraint) → k < id → found k ≡ Some d → Q k d)

fails_here : (Q : ℕ → NormalConstraint → Type 0) (e : ℕ × NormalConstraint) (es : Entries) → T (below_all nat_cmp e.0 es) → (Q e.0 e.1 → ⊥) → FirstFailing Q (λ k. fin.find nat_cmp k (e ∷ es))
fails_here Q e es below not = (e.0, e.1, found_first e es, not, before)
  where
    before : (k : ℕ) (d : NormalConstraint) → k < e.0 → fin.find nat_cmp k (e ∷ es) ≡ Some d → Q k d
    before k d less is = elim (key_found e es k d (eq_by_cmp nat_cmp k e.0) refl is) as (λ _. Q k d) [
      | inl same ↦ absurd (omega (arith, less, same.0))
      | inr later ↦ absurd (omega (arith, less, found_above e.0 es k d below later))
    ]

holds_by_key : (Q : ℕ → NormalConstraint → Type 0) (e : ℕ × NormalConstraint) (k : ℕ) (d : NormalConstraint) → Q e.0 e.1 → (k ≡ e.0) × (d ≡ e.1) → Q k d
holds_by_key Q e k d here same = subst (λ z. Q z d) (sym same.0) (subst (Q e.0) (sym same.1) here)

fails_later : (Q : ℕ → NormalConstraint → Type 0) (e : ℕ × NormalConstraint) (es : Entries) → T (below_all nat_cmp e.0 es) → Q e.0 e.1 → FirstFailing Q (λ k. fin.find nat_cmp k es)
    → FirstFailing Q (λ k. fin.find nat_cmp k (e ∷ es))
fails_later Q e es below here (id, x, is, not, before) = (id, x, found_later e es id x below is, not, earlier)
  where
    earlier : (k : ℕ) (d : NormalConstraint) → k < id → fin.find nat_cmp k (e ∷ es) ≡ Some d → Q k d
    earlier k d less found = elim (key_found e es k d (eq_by_cmp nat_cmp k e.0) refl found) as (λ _. Q k d) [
      | inl same ↦ holds_by_key Q e k d here same
      | inr later ↦ before k d less later
    ]

holds_with : (Q : ℕ → NormalConstraint → Type 0) (e : ℕ × NormalConstraint) (es : Entries) → Q e.0 e.1 → HoldsOfEach Q (λ k. fin.find nat_cmp k es) → HoldsOfEach Q (λ k. fin.find nat_cmp k (e ∷ es))
holds_with Q e es here all k d is = elim (key_found e es k d (eq_by_cmp nat_cmp k e.0) refl is) as (λ _. Q k d) [
  | inl same ↦ holds_by_key Q e k d here same
  | inr later ↦ all k d later
]

each_or_failing : (Q : ℕ → NormalConstraint → Type 0) → ((id : ℕ) (n : NormalConstraint) → Decided (Q id n)) → (es : Entries) → T (fin.is_sorted nat_cmp es)
    → HoldsOfEach Q (λ k. fin.find nat_cmp k es) ⊎ FirstFailing Q (λ k. fin.find nat_cmp k es)
each_or_failing Q d [] sorted = inl (λ k n is. absurd (cc))
each_or_failing Q d (e ∷ es) sorted =
    let s = both (below_all nat_cmp e.0 es) (fin.is_sorted nat_cmp es) sorted in
    elim (d e.0 e.1) as (λ _. HoldsOfEach Q (λ k. fin.find nat_cmp k (e ∷ es)) ⊎ FirstFailing Q (λ k. fin.find nat_cmp k (e ∷ es))) [
      | inr not ↦ inr (fails_here Q e es s.0 not)
      | inl here ↦ elim (each_or_failing Q d es s.1) as (λ _. HoldsOfEach Q (λ k. fin.find nat_cmp k (e ∷ es)) ⊎ FirstFailing Q (λ k. fin.find nat_cmp k (e ∷ es))) [
        | inl all ↦ inl (holds_with Q e es here all)
        | inr first ↦ inr (fails_later Q e es s.0 here first)
      ]
    ]

-- what is decided of each constraint and its id holds of all live ones, or there is a first id where it does not
pub each_or_first : (Q : ℕ → NormalConstraint → Type 0) → ((id : ℕ) (n : NormalConstraint) → Decided (Q id n)) → (live : Live) → HoldsOfEach Q (fin.get live) ⊎ FirstFailing Q (fin.get live)
each_or_first Q d live = elim (each_or_failing Q d (fin.entries live) (fin.entries_sorted live)) as (λ _. HoldsOfEach Q (fin.get live) ⊎ FirstFailing Q (fin.get live)) [
  | inl all ↦ inl (λ k n found. all k n (sym (fin.get-entries live k) ∙ found))
  | inr (id, e, is, not, before) ↦ inr (id, e, fin.get-entries live id ∙ is, not, λ k n less found. before k n less (sym (fin.get-entries live k) ∙ found))
]

pub All-or_open : (P : NormalConstraint → Type 0) → ((n : NormalConstraint) → Decided (P n)) → (live : Live) → All P (fin.values live) ⊎ FirstFailing (λ _ n. P n) (fin.get live)
All-or_open P d live = elim (each_or_first (λ _ n. P n) (λ _ n. d n) live) as (λ _. All P (fin.values live) ⊎ FirstFailing (λ _ n. P n) (fin.get live)) [
  | inl all ↦ inl (All-from_get P live all)
  | inr first ↦ inr first
]

-- of those constraints that are asked for by their ids
asked_decided : (A P : Type 0) → Decided A → Decided P → Decided (A → P)
asked_decided A P (inr not) d = inl (λ a. absurd (not a))
asked_decided A P (inl a) (inl p) = inl (λ _. p)
asked_decided A P (inl a) (inr not) = inr (λ h. not (h a))

fails_asked : (A P : Type 0) → Decided A → ((A → P) → ⊥) → A × (P → ⊥)
fails_asked A P (inl a) not = (a, λ p. not (λ _. p))
fails_asked A P (inr none) not = absurd (not (λ a. absurd (none a)))

pub First_open_or_all : (A : ℕ → Type 0) (P : NormalConstraint → Type 0) → ((id : ℕ) → Decided (A id)) → ((n : NormalConstraint) → Decided (P n)) → (live : Live)
    → ((id : ℕ) (e : NormalConstraint) → A id → fin.get live id ≡ Some e → P e)
    ⊎ ((id : ℕ) × (e : NormalConstraint) × A id × (fin.get live id ≡ Some e) × (P e → ⊥) × ((j : ℕ) (d : NormalConstraint) → j < id → A j → fin.get live j ≡ Some d → P d))
First_open_or_all A P a d live = by (each_or_first (λ id n. A id → P n) (λ id n. asked_decided (A id) (P n) (a id) (d n)) live)
  where
    by : HoldsOfEach (λ id n. A id → P n) (fin.get live) ⊎ FirstFailing (λ id n. A id → P n) (fin.get live)
        → ((id : ℕ) (e : NormalConstraint) → A id → fin.get live id ≡ Some e → P e)
        ⊎ ((id : ℕ) × (e : NormalConstraint) × A id × (fin.get live id ≡ Some e) × (P e → ⊥) × ((j : ℕ) (d : NormalConstraint) → j < id → A j → fin.get live j ≡ Some d → P d))
    by (inl all) = inl (λ id e asked is. all id e is asked)
    by (inr (id, e, is, not, before)) =
        let h = fails_asked (A id) (P e) (a id) not in
        inr (id, e, h.0, is, h.1, λ j x less asked found. before j x less found asked)

-- what holds of the constraint of some id holds of some live one
any_by : (P : NormalConstraint → Type 0) (b : Bool) (e n : NormalConstraint) (es : Entries) (rest : Option NormalConstraint) → P n → (rest ≡ Some n → Any P (values es))
    → cond b (Some e) rest ≡ Some n → Any P (e ∷ values es)
any_by P true e n es rest p later h = let same : n ≡ e = cc in any_here P e (values es) (subst P same p)
any_by P false e n es rest p later h = any_there P e (values es) (later h)

found_any : (P : NormalConstraint → Type 0) (es : Entries) (k : ℕ) (n : NormalConstraint) → fin.find nat_cmp k es ≡ Some n → P n → Any P (values es)
found_any P [] k n is p = absurd (cc)
found_any P (e ∷ es) k n is p = any_by P (eq_by_cmp nat_cmp k e.0) e.1 n es (fin.find nat_cmp k es) p (λ h. found_any P es k n h p) is

pub Any-from_get : (P : NormalConstraint → Type 0) (live : Live) (k : ℕ) (n : NormalConstraint) → fin.get live k ≡ Some n → P n → Any P (fin.values live)
Any-from_get P live k n is p = found_any P (fin.entries live) k n (sym (fin.get-entries live k) ∙ is) p

none_of : {X : Type 0} (P : X → Type 0) (xs : List X) → All (λ x. P x → ⊥) xs → Any P xs → ⊥
none_of P [] all a = any_none P a
none_of P (x ∷ xs) all a = elim (any_split P x xs a) as (λ _. ⊥) [
  | inl p ↦ All-head (λ y. P y → ⊥) x xs all p
  | inr b ↦ none_of P xs (All-tail (λ y. P y → ⊥) x xs all) b
]

-- what fails of the constraint of every id holds of no live one
pub Any-never : (P : NormalConstraint → Type 0) (live : Live) → ((k : ℕ) (n : NormalConstraint) → fin.get live k ≡ Some n → P n → ⊥) → Any P (fin.values live) → ⊥
Any-never P live h = none_of P (fin.values live) (All-from_get (λ n. P n → ⊥) live h)
