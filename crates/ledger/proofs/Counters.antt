-- One entry of a list of occurrences: its place's counter is lowered by its coefficient.
use Rattle.std.proofs.Common.{◌≡◌, ℕ, ◌+◌, ◌-◌, ◌<◌, ◌≤◌, ◌⊎◌, inl, inr, All, Contains, List, length, get_or, set, drop, take, refl, ap, sym, subst, ◌∙◌, arith}
use Rattle.std.proofs.lemmas.Bool.{cases_eq}
use Rattle.std.proofs.lemmas.Bool.Decides.{nat_tests}
use Rattle.std.proofs.lemmas.List.{get_or_default, length-set, get_or-set_same, get_or-set_other}
use Rattle.std.proofs.lemmas.List.Elements.{All-get_or}
use Rattle.std.proofs.lemmas.List.Sums.{sum_by_more, sum_by-drop_more, sum_by-take-le}
use Rattle.occurrences.specs.declared.occurrence.Occurrence.{Occurrence}
use Rattle.occurrences.specs.Occurrences.{share, share_of}

share_own : (k : ℕ) (o : Occurrence) → k ≡ o.place → share k o ≡ o.coef
share_own k o h = grind (arith, nat_tests)

share_other : (k : ℕ) (o : Occurrence) → (k ≡ o.place → ⊥) → share k o ≡ 0
share_other k o h = grind (arith, nat_tests)

-- what is so after the first entries of a list
pub record IsLowered (before after limits queue_before queue_after : List ℕ) (os : List Occurrence) (i : ℕ) : Type 0 where
  pub same_length : length after ≡ length before
  pub lowered : (k : ℕ) → k < length before → get_or after k 0 + share_of k (take i os) ≡ get_or before k 0
  pub left : (k : ℕ) → k < length before → share_of k (drop i os) ≤ get_or after k 0
  pub queued : (k : ℕ) → k < length before → 0 < share_of k (take i os) → (get_or limits k 0 ≤ get_or after k 0) ⊎ Contains queue_after k
  pub kept : (k : ℕ) → Contains queue_before k → Contains queue_after k

-- the counter of the next entry's place is not below its coefficient
pub enough_at : (before cs limits q0 q : List ℕ) (os : List Occurrence) (i : ℕ) (d : Occurrence) (r : ℕ) → i < length os → (get_or os i d).place < length before
    → IsLowered before cs limits q0 q os i → r ≡ get_or cs ((get_or os i d).place) r → (get_or os i d).coef ≤ r
enough_at before cs limits q0 q os i d r short inside h is =
    let o : Occurrence = get_or os i d in
    let here : o.place < length cs = omega (arith, h.same_length, inside) in
    let same : r ≡ get_or cs (o.place) 0 = is ∙ get_or_default cs (o.place) r 0 here in
    omega (arith, same, h.left (o.place) inside, sum_by-drop_more (share (o.place)) os i d short, share_own (o.place) o refl)

pub lowered_more : (before cs limits q0 q q' : List ℕ) (os : List Occurrence) (i : ℕ) (d : Occurrence) (r limit : ℕ) → i < length os → (get_or os i d).place < length before
    → IsLowered before cs limits q0 q os i
    → r ≡ get_or cs ((get_or os i d).place) r
    → limit ≡ get_or limits ((get_or os i d).place) 0
    → ((k : ℕ) → Contains q k → Contains q' k)
    → ((limit ≤ r - (get_or os i d).coef) ⊎ Contains q' ((get_or os i d).place))
    → IsLowered before (set cs ((get_or os i d).place) (r - (get_or os i d).coef)) limits q0 q' os (i + 1)
lowered_more before cs limits q0 q q' os i d r limit short inside h is its kept new =
    let o : Occurrence = get_or os i d in
    let p = o.place in
    let rest : ℕ = r - o.coef in
    let here : p < length cs = omega (arith, h.same_length, inside) in
    let same : r ≡ get_or cs p 0 = is ∙ get_or_default cs p r 0 here in
    let enough : o.coef ≤ r = enough_at before cs limits q0 q os i d r short inside h is in
    record {
      same_length = length-set cs p rest ∙ h.same_length;
      lowered = λ k low. elim (cases_eq k p) [
        | inl e ↦
            let now : get_or (set cs p rest) k 0 ≡ rest = ap (λ (x : ℕ). get_or (set cs p rest) x 0) e ∙ get_or-set_same cs p rest 0 here in
            let was : get_or cs k 0 ≡ get_or cs p 0 = ap (λ (x : ℕ). get_or cs x 0) e in
            omega (arith, now, was, same, enough, h.lowered k low, sum_by_more (share k) os i d short, share_own k o e)
        | inr n ↦
            let now : get_or (set cs p rest) k 0 ≡ get_or cs k 0 = get_or-set_other cs p k rest 0 n in
            omega (arith, now, h.lowered k low, sum_by_more (share k) os i d short, share_other k o n)
      ];
      left = λ k low. elim (cases_eq k p) [
        | inl e ↦
            let now : get_or (set cs p rest) k 0 ≡ rest = ap (λ (x : ℕ). get_or (set cs p rest) x 0) e ∙ get_or-set_same cs p rest 0 here in
            let was : get_or cs k 0 ≡ get_or cs p 0 = ap (λ (x : ℕ). get_or cs x 0) e in
            omega (arith, now, was, same, enough, h.left k low, sum_by-drop_more (share k) os i d short, share_own k o e)
        | inr n ↦
            let now : get_or (set cs p rest) k 0 ≡ get_or cs k 0 = get_or-set_other cs p k rest 0 n in
            omega (arith, now, h.left k low, sum_by-drop_more (share k) os i d short, share_other k o n)
      ];
      queued = λ k low. elim (cases_eq k p) [
        | inl e ↦
            let now : get_or (set cs p rest) k 0 ≡ rest = ap (λ (x : ℕ). get_or (set cs p rest) x 0) e ∙ get_or-set_same cs p rest 0 here in
            let bound : get_or limits k 0 ≡ get_or limits p 0 = ap (λ (x : ℕ). get_or limits x 0) e in
            λ _. elim new [
              | inl x ↦ inl (omega (arith, x, now, its, bound))
              | inr x ↦ inr (subst (λ (y : ℕ). Contains q' y) (sym e) x)
            ]
        | inr n ↦
            let now : get_or (set cs p rest) k 0 ≡ get_or cs k 0 = get_or-set_other cs p k rest 0 n in
            λ some. elim (h.queued k low (omega (arith, some, sum_by_more (share k) os i d short, share_other k o n))) [
              | inl x ↦ inl (omega (arith, x, now))
              | inr x ↦ inr (kept k x)
            ]
      ];
      kept = λ k x. kept k (h.kept k x);
    }

-- the same, the other way
pub record IsRaised (before after : List ℕ) (os : List Occurrence) (i : ℕ) : Type 0 where
  pub same_length : length after ≡ length before
  pub raised : (k : ℕ) → k < length before → get_or after k 0 ≡ get_or before k 0 + share_of k (take i os)

pub raised_more : (before cs : List ℕ) (os : List Occurrence) (i : ℕ) (d : Occurrence) (r : ℕ) → i < length os → (get_or os i d).place < length before
    → IsRaised before cs os i → r ≡ get_or cs ((get_or os i d).place) r
    → IsRaised before (set cs ((get_or os i d).place) (r + (get_or os i d).coef)) os (i + 1)
raised_more before cs os i d r short inside h is =
    let o : Occurrence = get_or os i d in
    let p = o.place in
    let rest : ℕ = r + o.coef in
    let here : p < length cs = omega (arith, h.same_length, inside) in
    let same : r ≡ get_or cs p 0 = is ∙ get_or_default cs p r 0 here in
    record {
      same_length = length-set cs p rest ∙ h.same_length;
      raised = λ k low. elim (cases_eq k p) [
        | inl e ↦
            let now : get_or (set cs p rest) k 0 ≡ rest = ap (λ (x : ℕ). get_or (set cs p rest) x 0) e ∙ get_or-set_same cs p rest 0 here in
            let was : get_or cs k 0 ≡ get_or cs p 0 = ap (λ (x : ℕ). get_or cs x 0) e in
            omega (arith, now, was, same, h.raised k low, sum_by_more (share k) os i d short, share_own k o e)
        | inr n ↦
            let now : get_or (set cs p rest) k 0 ≡ get_or cs k 0 = get_or-set_other cs p k rest 0 n in
            omega (arith, now, h.raised k low, sum_by_more (share k) os i d short, share_other k o n)
      ];
    }

-- the next coefficient goes on a counter without overflow
pub room_at : (before cs : List ℕ) (os : List Occurrence) (i : ℕ) (d : Occurrence) (r most : ℕ) → i < length os → (get_or os i d).place < length before
    → IsRaised before cs os i → r ≡ get_or cs ((get_or os i d).place) r → ((k : ℕ) → k < length before → get_or before k 0 + share_of k os ≤ most) → r + (get_or os i d).coef ≤ most
room_at before cs os i d r most short inside h is fits =
    let o : Occurrence = get_or os i d in
    let p = o.place in
    let same : r ≡ get_or cs p 0 = is ∙ get_or_default cs p r 0 (omega (arith, h.same_length, inside)) in
    omega (arith, same, h.raised p inside, fits p inside, sum_by_more (share p) os i d short, share_own p o refl, sum_by-take-le (share p) os (i + 1))

-- the places of the entries so far wait, where they have to
pub record IsQueuedSoFar (counters limits queue_before queue_after : List ℕ) (os : List Occurrence) (i : ℕ) : Type 0 where
  pub queued : (k : ℕ) → 0 < share_of k (take i os) → (get_or limits k 0 ≤ get_or counters k 0) ⊎ Contains queue_after k
  pub kept : (k : ℕ) → Contains queue_before k → Contains queue_after k

pub queued_more : (counters limits q0 q q' : List ℕ) (os : List Occurrence) (i : ℕ) (d : Occurrence) (counter limit : ℕ) → i < length os
    → IsQueuedSoFar counters limits q0 q os i
    → counter ≡ get_or counters ((get_or os i d).place) 0
    → limit ≡ get_or limits ((get_or os i d).place) 0
    → ((k : ℕ) → Contains q k → Contains q' k)
    → ((limit ≤ counter) ⊎ Contains q' ((get_or os i d).place))
    → IsQueuedSoFar counters limits q0 q' os (i + 1)
queued_more counters limits q0 q q' os i d counter limit short h is its kept new =
    let o : Occurrence = get_or os i d in
    let p = o.place in
    record {
      queued = λ k some. elim (cases_eq k p) [
        | inl e ↦ elim new [
          | inl x ↦ inl (omega (arith, x, is, its, ap (λ (j : ℕ). get_or counters j 0) e, ap (λ (j : ℕ). get_or limits j 0) e))
          | inr x ↦ inr (subst (λ (y : ℕ). Contains q' y) (sym e) x)
        ]
        | inr n ↦ elim (h.queued k (omega (arith, some, sum_by_more (share k) os i d short, share_other k o n))) [
          | inl x ↦ inl x
          | inr x ↦ inr (kept k x)
        ]
      ];
      kept = λ k x. kept k (h.kept k x);
    }

-- the same of the next entry by another name
pub enough_of : (before cs limits q0 q : List ℕ) (os : List Occurrence) (i : ℕ) (d o : Occurrence) (r : ℕ) → o ≡ get_or os i d → i < length os → o.place < length before
    → IsLowered before cs limits q0 q os i → r ≡ get_or cs o.place r → o.coef ≤ r
enough_of before cs limits q0 q os i d o r same short inside h is =
    subst (λ (e : Occurrence). e.place < length before → r ≡ get_or cs e.place r → e.coef ≤ r) (sym same) (λ low there. enough_at before cs limits q0 q os i d r short low h there) inside is

pub lowered_of : (before cs limits q0 q q' : List ℕ) (os : List Occurrence) (i : ℕ) (d o : Occurrence) (r limit : ℕ) → o ≡ get_or os i d → i < length os → o.place < length before
    → IsLowered before cs limits q0 q os i
    → r ≡ get_or cs o.place r
    → limit ≡ get_or limits o.place 0
    → ((k : ℕ) → Contains q k → Contains q' k)
    → ((limit ≤ r - o.coef) ⊎ Contains q' o.place)
    → IsLowered before (set cs o.place (r - o.coef)) limits q0 q' os (i + 1)
lowered_of before cs limits q0 q q' os i d o r limit same short inside h is its kept new =
    subst (λ (e : Occurrence). e.place < length before → r ≡ get_or cs e.place r → limit ≡ get_or limits e.place 0 → ((limit ≤ r - e.coef) ⊎ Contains q' e.place) → IsLowered before (set cs e.place (r - e.coef)) limits q0 q' os (i + 1)) (sym same)
    (λ low there bound more. lowered_more before cs limits q0 q q' os i d r limit short low h there bound kept more) inside is its new

pub room_of : (before cs : List ℕ) (os : List Occurrence) (i : ℕ) (d o : Occurrence) (r most : ℕ) → o ≡ get_or os i d → i < length os → o.place < length before
    → IsRaised before cs os i → r ≡ get_or cs o.place r → ((k : ℕ) → k < length before → get_or before k 0 + share_of k os ≤ most) → r + o.coef ≤ most
room_of before cs os i d o r most same short inside h is fits =
    subst (λ (e : Occurrence). e.place < length before → r ≡ get_or cs e.place r → r + e.coef ≤ most) (sym same) (λ low there. room_at before cs os i d r most short low h there fits) inside is

pub raised_of : (before cs : List ℕ) (os : List Occurrence) (i : ℕ) (d o : Occurrence) (r : ℕ) → o ≡ get_or os i d → i < length os → o.place < length before
    → IsRaised before cs os i → r ≡ get_or cs o.place r → IsRaised before (set cs o.place (r + o.coef)) os (i + 1)
raised_of before cs os i d o r same short inside h is =
    subst (λ (e : Occurrence). e.place < length before → r ≡ get_or cs e.place r → IsRaised before (set cs e.place (r + e.coef)) os (i + 1)) (sym same) (λ low there. raised_more before cs os i d r short low h there) inside is

pub queued_of : (counters limits q0 q q' : List ℕ) (os : List Occurrence) (i : ℕ) (d o : Occurrence) (counter limit : ℕ) → o ≡ get_or os i d → i < length os
    → IsQueuedSoFar counters limits q0 q os i
    → counter ≡ get_or counters o.place 0
    → limit ≡ get_or limits o.place 0
    → ((k : ℕ) → Contains q k → Contains q' k)
    → ((limit ≤ counter) ⊎ Contains q' o.place)
    → IsQueuedSoFar counters limits q0 q' os (i + 1)
queued_of counters limits q0 q q' os i d o counter limit same short h is its kept new =
    subst (λ (e : Occurrence). counter ≡ get_or counters e.place 0 → limit ≡ get_or limits e.place 0 → ((limit ≤ counter) ⊎ Contains q' e.place) → IsQueuedSoFar counters limits q0 q' os (i + 1)) (sym same)
    (λ there bound more. queued_more counters limits q0 q q' os i d counter limit short h there bound kept more) is its new

pub entry_below : (os : List Occurrence) (i bound : ℕ) (d o : Occurrence) → All (λ (e : Occurrence). e.place < bound) os → o ≡ get_or os i d → i < length os → o.place < bound
entry_below os i bound d o all same short = subst (λ (e : Occurrence). e.place < bound) (sym same) (All-get_or (λ (e : Occurrence). e.place < bound) os i d short all)
