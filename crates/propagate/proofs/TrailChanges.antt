-- Trails, one literal longer and one shorter.
use Rattle.std.proofs.Common.{◌≡◌, ℕ, ◌+◌, ◌<◌, ◌≤◌, inl, inr, Bool, true, false, not, cond, if◌then◌else◌, ◌||◌, List, [], ◌∷◌, ◌++◌, length, get_or, set, take, refl, ap, sym, ◌∙◌, arith, length-append}
use Rattle.std.specs.List.{count_by}
use Rattle.std.proofs.lemmas.Bool.{false≢true, cases_eq}
use Rattle.std.proofs.lemmas.Bool.Decides.{nat_tests}
use Rattle.std.proofs.lemmas.List.{length-set, get_or-set_same, get_or-set_other, take-append-le, get_or_append_left, get_or_push}
use Rattle.std.proofs.lemmas.List.Sums.{sum_by-set, sum_by_push, count_by-le-length}
use Rattle.linear.specs.declared.term.Lit.{Lit}
use Rattle.normal_form.specs.Normal.{only}
use Rattle.normal_form.proofs.SetSums.{only_is}
use Rattle.propagate.specs.Literals.{among}
use Rattle.propagate.proofs.Assignments.{among_append, among_cases, among_left, among_right, among_head, or_cases}
use Rattle.propagate.specs.declared.value.Value.{Value}
use Rattle.propagate.specs.declared.value.Value.TheVariants.{True, False, Free}
use Rattle.propagate.specs.Trails.{IsFree, IsTrail}
use Rattle.propagate.specs.Values.{AreValuesUnder, is_given, makes_true, value_given}

abbrev mark : Value → ℕ
mark o = cond (is_given o) 1 0

marked_set : (values : List Value) (k : ℕ) (b c : Value) → k < length values → get_or values k Free ≡ c → count_by is_given (set values k b) + mark c ≡ count_by is_given values + mark b
marked_set values k b c h e = omega (arith, sum_by-set mark values k b Free h, ap mark e)

at_most_one : (o : Value) → mark o ≤ 1
at_most_one True = omega arith
at_most_one False = omega arith
at_most_one Free = omega arith

one_given : (b : Bool) → mark (if b then False else True) ≡ 1
one_given true = refl
one_given false = refl

no_value : (o : Value) → makes_true o true ≡ false → makes_true o false ≡ false → o ≡ Free
no_value True h k = absurd (false≢true (sym k))
no_value False h k = absurd (false≢true (sym h))
no_value Free h k = refl

two_signs : (assigned : List Lit) (values : List Value) (v : ℕ) (s : Bool) → AreValuesUnder assigned values → v < length values → among assigned v s ≡ false → among assigned v (not s) ≡ false → get_or values v Free ≡ Free
two_signs assigned values v true a h p q = no_value (get_or values v Free) (sym (a v true h) ∙ p) (sym (a v false h) ∙ q)
two_signs assigned values v false a h p q = no_value (get_or values v Free) (sym (a v true h) ∙ q) (sym (a v false h) ∙ p)

no_value_free : (assigned : List Lit) (values : List Value) (l : Lit) → AreValuesUnder assigned values → l.var.0 < length values → IsFree assigned l → get_or values (l.var.0) Free ≡ Free
no_value_free assigned values l a h f = two_signs assigned values (l.var.0) l.negated a h f.0 f.1

pub room : (assigned : List Lit) (values : List Value) (l : Lit) → IsTrail assigned values → l.var.0 < length values → IsFree assigned l → length assigned < length values
room assigned values l t h f =
    let v = l.var.0 in
    omega (arith, t.few, marked_set values v True Free h (no_value_free assigned values l t.given h f), count_by-le-length is_given (set values v True), length-set values v True)

take_whole : (xs : List Lit) → take (length xs) xs ≡ xs
take_whole [] = refl
take_whole (x ∷ xs) = ap (λ (ys : List Lit). x ∷ ys) (take_whole xs)

last_at : (xs : List Lit) (l d : Lit) → get_or (xs ++ l ∷ []) (length xs) d ≡ l
last_at [] l d = refl
last_at (x ∷ xs) l d = last_at xs l d

fresh_push : (xs : List Lit) (l : Lit) → ((k : ℕ) (d : Lit) → k < length xs → IsFree (take k xs) (get_or xs k d)) → IsFree xs l → (k : ℕ) (d : Lit) → k < length (xs ++ l ∷ []) → IsFree (take k (xs ++ l ∷ [])) (get_or (xs ++ l ∷ []) k d)
fresh_push xs l all f k d h = elim (cases_eq k (length xs)) [
  | inl e ↦
      let t : take k (xs ++ l ∷ []) ≡ xs = ap (λ (i : ℕ). take i (xs ++ l ∷ [])) e ∙ take-append-le (length xs) xs (l ∷ []) (omega arith) ∙ take_whole xs in
      let g : get_or (xs ++ l ∷ []) k d ≡ l = ap (λ (i : ℕ). get_or (xs ++ l ∷ []) i d) e ∙ last_at xs l d in
      rw (t, g) f
  | inr n ↦
      let low : k < length xs = omega (arith, h, n, length-append xs (l ∷ [])) in
      let t : take k (xs ++ l ∷ []) ≡ take k xs = take-append-le k xs (l ∷ []) (omega arith) in
      let g : get_or (xs ++ l ∷ []) k d ≡ get_or xs k d = get_or_append_left xs (l ∷ []) d k low in
      rw (t, g) (all k d low)
]

either_sign : (assigned : List Lit) (v : ℕ) (s t : Bool) → among assigned v s ≡ false → among assigned v (not s) ≡ false → among assigned v t ≡ false
either_sign assigned v true true h k = h
either_sign assigned v true false h k = k
either_sign assigned v false true h k = k
either_sign assigned v false false h k = h

given_sign : (v : ℕ) (s t : Bool) → (only v s v t || false) ≡ makes_true (if s then False else True) t
given_sign v true true = grind (arith, nat_tests)
given_sign v true false = grind (arith, nat_tests)
given_sign v false true = grind (arith, nat_tests)
given_sign v false false = grind (arith, nat_tests)

other_variable : (v w : ℕ) (s t : Bool) → (w ≡ v → ⊥) → (only v s w t || false) ≡ false
other_variable v w s t h = grind (arith, nat_tests)

or_false : (b d : Bool) → b ≡ false → (b || d) ≡ d
or_false true d h = absurd (false≢true (sym h))
or_false false d h = refl

or_nothing : (b d : Bool) → d ≡ false → b ≡ (b || d)
or_nothing true d h = refl
or_nothing false d h = sym h

given_more : (assigned : List Lit) (values : List Value) (l : Lit) → AreValuesUnder assigned values → l.var.0 < length values → IsFree assigned l → AreValuesUnder (assigned ++ l ∷ []) (set values (l.var.0) (value_given l))
given_more assigned values l a h f w t k =
    let v = l.var.0 in
    elim (cases_eq w v) [
      | inl e ↦
          let here : among assigned w t ≡ false = ap (λ (x : ℕ). among assigned x t) e ∙ either_sign assigned v l.negated t f.0 f.1 in
          among_append assigned (l ∷ []) w t ∙ or_false (among assigned w t) (among (l ∷ []) w t) here
          ∙ ap (λ (x : ℕ). only v l.negated x t || false) e ∙ given_sign v l.negated t
          ∙ sym (ap (λ (o : Value). makes_true o t) (ap (λ (x : ℕ). get_or (set values v (value_given l)) x Free) e ∙ get_or-set_same values v (value_given l) Free h))
      | inr d ↦
          among_append assigned (l ∷ []) w t ∙ sym (or_nothing (among assigned w t) (among (l ∷ []) w t) (other_variable v w l.negated t d))
          ∙ a w t (omega (arith, k, length-set values v (value_given l)))
          ∙ sym (ap (λ (o : Value). makes_true o t) (get_or-set_other values v w (value_given l) Free d))
    ]

inside_more : (assigned : List Lit) (values : List Value) (l : Lit) → ((v : ℕ) (s : Bool) → among assigned v s ≡ true → v < length values) → l.var.0 < length values → (w : ℕ) (t : Bool) → among (assigned ++ l ∷ []) w t ≡ true → w < length (set values (l.var.0) (value_given l))
inside_more assigned values l a h w t e = elim (among_cases assigned (l ∷ []) w t e) [
  | inl m ↦ omega (arith, a w t m, length-set values (l.var.0) (value_given l))
  | inr m ↦ elim (or_cases (only (l.var.0) l.negated w t) false m) [
    | inl o ↦ omega (arith, (only_is (l.var.0) w l.negated t o).0, h, length-set values (l.var.0) (value_given l))
    | inr o ↦ absurd (false≢true o)
  ]
]

pub pushed : (assigned : List Lit) (values : List Value) (l : Lit) → IsTrail assigned values → l.var.0 < length values → IsFree assigned l → IsTrail (assigned ++ l ∷ []) (set values (l.var.0) (value_given l))
pushed assigned values l t h f = record {
  fresh = fresh_push assigned l t.fresh f;
  given = given_more assigned values l t.given h f;
  inside = inside_more assigned values l t.inside h;
  few = omega (arith, t.few, marked_set values (l.var.0) (value_given l) Free h (no_value_free assigned values l t.given h f), one_given l.negated, length-append assigned (l ∷ []));
}

fresh_pop : (xs : List Lit) (l : Lit) → ((k : ℕ) (d : Lit) → k < length (xs ++ l ∷ []) → IsFree (take k (xs ++ l ∷ [])) (get_or (xs ++ l ∷ []) k d)) → (k : ℕ) (d : Lit) → k < length xs → IsFree (take k xs) (get_or xs k d)
fresh_pop xs l all k d low =
    let t : take k (xs ++ l ∷ []) ≡ take k xs = take-append-le k xs (l ∷ []) (omega arith) in
    let g : get_or (xs ++ l ∷ []) k d ≡ get_or xs k d = get_or_append_left xs (l ∷ []) d k low in
    let it = all k d (omega (arith, low, length-append xs (l ∷ []))) in
    (rw (← t, ← g) it)

pub last_free : (xs : List Lit) (l : Lit) (values : List Value) → IsTrail (xs ++ l ∷ []) values → IsFree xs l
last_free xs l values t =
    let it = t.fresh (length xs) l (omega (arith, length-append xs (l ∷ []))) in
    let whole : take (length xs) (xs ++ l ∷ []) ≡ xs = take-append-le (length xs) xs (l ∷ []) (omega arith) ∙ take_whole xs in
    rw (whole, last_at xs l l) at it

pub last_below : (xs : List Lit) (l : Lit) (values : List Value) → IsTrail (xs ++ l ∷ []) values → l.var.0 < length values
last_below xs l values t = t.inside (l.var.0) l.negated (among_right xs (l ∷ []) (l.var.0) l.negated (among_head l []))

pub popped : (xs : List Lit) (l : Lit) (values : List Value) → IsTrail (xs ++ l ∷ []) values → IsTrail xs (set values (l.var.0) Free)
popped xs l values t =
    let free = last_free xs l values t in
    let h = last_below xs l values t in
    let v = l.var.0 in
    record {
      fresh = fresh_pop xs l t.fresh;
      given = λ w s k. elim (cases_eq w v) [
        | inl e ↦
            ap (λ (x : ℕ). among xs x s) e ∙ either_sign xs v l.negated s free.0 free.1
            ∙ sym (ap (λ (o : Value). makes_true o s) (ap (λ (x : ℕ). get_or (set values v Free) x Free) e ∙ get_or-set_same values v Free Free h))
        | inr n ↦
            or_nothing (among xs w s) (among (l ∷ []) w s) (other_variable v w l.negated s n) ∙ sym (among_append xs (l ∷ []) w s)
            ∙ t.given w s (omega (arith, k, length-set values v Free))
            ∙ sym (ap (λ (o : Value). makes_true o s) (get_or-set_other values v w Free Free n))
      ];
      inside = λ w s e. omega (arith, t.inside w s (among_left xs (l ∷ []) w s e), length-set values v Free);
      few = omega (arith, t.few, marked_set values v Free (get_or values v Free) h refl, at_most_one (get_or values v Free), length-append xs (l ∷ []));
    }

-- one variable more, which has no value
not_inside : (assigned : List Lit) (values : List Value) (v : ℕ) (s b : Bool) → ((w : ℕ) (t : Bool) → among assigned w t ≡ true → w < length values) → among assigned v s ≡ b → length values ≤ v → b ≡ false
not_inside assigned values v s false a e h = refl
not_inside assigned values v s true a e h = absurd (omega (arith, a v s e, h))

pub wider : (assigned : List Lit) (values : List Value) → IsTrail assigned values → IsTrail assigned (values ++ Free ∷ [])
wider assigned values t = record {
  fresh = t.fresh;
  given = λ v s h. elim (cases_eq v (length values)) [
    | inl e ↦
        let here : get_or (values ++ Free ∷ []) v Free ≡ Free = get_or_push values Free Free v (sym e) in
        not_inside assigned values v s (among assigned v s) t.inside refl (omega (arith, e)) ∙ sym (ap (λ (o : Value). makes_true o s) here)
    | inr n ↦
        let low : v < length values = omega (arith, h, n, length-append values (Free ∷ [])) in
        t.given v s low ∙ sym (ap (λ (o : Value). makes_true o s) (get_or_append_left values (Free ∷ []) Free v low))
  ];
  inside = λ v s e. omega (arith, t.inside v s e, length-append values (Free ∷ []));
  few = omega (arith, t.few, sum_by_push mark values Free);
}
