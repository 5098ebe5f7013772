-- One entry more on a trail, and one less.
use Rattle.std.proofs.Common.{◌≡◌, ◌<◌, ◌≤◌, ◌+◌, ◌-◌, ℕ, zero, suc, Bool, true, false, not, nat_lt, if◌then◌else◌, ◌||◌, ◌&&◌, List, [], ◌∷◌, ◌++◌, get_or, length, map, take, refl, sym, ap, subst, ◌∙◌, append-nil, append_assoc, arith}
use Rattle.std.proofs.lemmas.Bool.{false≢true}
use Rattle.std.proofs.lemmas.Bool.Decides.{nat_tests}
use Rattle.std.proofs.lemmas.List.{take_all, take_more}
use Rattle.std.proofs.lemmas.List.Recursion.{max_push}
use Rattle.linear.specs.declared.term.Lit.{Lit}
use Rattle.normal_form.specs.Normal.{only, same_sign}
use Rattle.propagate.specs.Literals.{among, lists}
use Rattle.propagate.proofs.Positions.{stands_at}
use Rattle.analysis.specs.declared.entry.Entry.{Entry}
use Rattle.analysis.specs.declared.note.Note.{Note}
use Rattle.analysis.specs.Biting.{greatest_level, literals_up_to}
use Rattle.analysis.specs.Trails.{GoesOnAsTrail, IsTrail, StandsBehind, entries_of, literals_of}
use Rattle.analysis.proofs.Spots.{listed_as}

goes_on_more : (before es : List Entry) (x : Entry) → GoesOnAsTrail before es → StandsBehind (before ++ es) x → GoesOnAsTrail before (es ++ x ∷ [])
goes_on_more before [] x t h = (subst (λ (xs : List Entry). StandsBehind xs x) (append-nil before) h, tt)
goes_on_more before (e ∷ es) x t h =
    (t.0, goes_on_more (before ++ e ∷ []) es x t.1 (subst (λ (xs : List Entry). StandsBehind xs x) (sym (append_assoc before (e ∷ []) es)) h))

goes_on_less : (before es : List Entry) (x : Entry) → GoesOnAsTrail before (es ++ x ∷ []) → GoesOnAsTrail before es
goes_on_less before [] x t = tt
goes_on_less before (e ∷ es) x t = (t.0, goes_on_less (before ++ e ∷ []) es x t.1)

last_behind : (before es : List Entry) (x : Entry) → GoesOnAsTrail before (es ++ x ∷ []) → StandsBehind (before ++ es) x
last_behind before [] x t = subst (λ (xs : List Entry). StandsBehind xs x) (sym (append-nil before)) t.0
last_behind before (e ∷ es) x t = subst (λ (xs : List Entry). StandsBehind xs x) (append_assoc before (e ∷ []) es) (last_behind (before ++ e ∷ []) es x t.1)

pub trail_more : (es : List Entry) (x : Entry) → IsTrail es → StandsBehind es x → IsTrail (es ++ x ∷ [])
trail_more es x t h = goes_on_more [] es x t h

pub trail_less : (es : List Entry) (x : Entry) → IsTrail (es ++ x ∷ []) → IsTrail es
trail_less es x t = goes_on_less [] es x t

pub behind_all : (es : List Entry) (x : Entry) → IsTrail (es ++ x ∷ []) → StandsBehind es x
behind_all es x t = last_behind [] es x t

-- the greatest level is that of the last entry
pub level_of_last : (es : List Entry) (x : Entry) → IsTrail (es ++ x ∷ []) → greatest_level (es ++ x ∷ []) ≡ x.level
level_of_last es x t = omega (arith, max_push greatest_level (λ e. e.level) refl (λ _ _. refl) es x, (behind_all es x t).1)

pub level_at_end : (es : List Entry) (n : ℕ) (d : Entry) → IsTrail es → n ≡ length es → (n ≡ 0 → ⊥) → (get_or es (n - 1) d).level ≡ greatest_level es
level_at_end es n d t is some =
    let x : Entry = get_or es (n - 1) d in
    let before : List Entry = take (n - 1) es in
    let split : es ≡ before ++ x ∷ [] =
    sym (take_all (n - 1 + 1) es (omega (arith, is, some))) ∙ take_more es (n - 1) d (omega (arith, is, some)) in
    sym (ap greatest_level split ∙ level_of_last before x (subst IsTrail split t))

listed_unless : (b : Bool) (l : Lit) (xs ys : List Lit) → b ≡ false → xs ≡ ys → (if b then xs else l ∷ xs) ≡ l ∷ ys
listed_unless true l xs ys off is = absurd (false≢true (sym off))
listed_unless false l xs ys off is = ap (λ (ls : List Lit). l ∷ ls) is

not_above : (m n : ℕ) → n ≤ m → nat_lt m n ≡ false
not_above m n h = grind (arith, nat_tests)

-- at a level that none is above all literals are listed
pub all_up_to : (level : ℕ) (es : List Entry) → greatest_level es ≤ level → literals_up_to level es ≡ map (λ e. e.literal) es
all_up_to level [] h = refl
all_up_to level (e ∷ es) h =
    listed_unless (nat_lt level e.level) e.literal (literals_up_to level es) (map (λ (x : Entry). x.literal) es) (not_above level e.level (omega (arith, h))) (all_up_to level es (omega (arith, h)))

neither : (b c : Bool) → (b || c) ≡ false → (b ≡ false) × (c ≡ false)
neither true c h = absurd (false≢true (sym h))
neither false c h = (refl, h)

listed_or_not : (b : Bool) (l : Lit) (xs : List Lit) (v : ℕ) (s : Bool) → only (l.var.0) l.negated v s ≡ false → among xs v s ≡ false → among (if b then xs else l ∷ xs) v s ≡ false
listed_or_not true l xs v s other absent = absent
listed_or_not false l xs v s other absent = ap (λ c. c || among xs v s) other ∙ absent

-- what is not listed of all is not listed at a level
pub fewer_listed : (level : ℕ) (es : List Entry) (v : ℕ) (s : Bool) → among (map (λ e. e.literal) es) v s ≡ false → among (literals_up_to level es) v s ≡ false
fewer_listed level [] v s h = refl
fewer_listed level (e ∷ es) v s h =
    let both = neither (only (e.literal.var.0) e.literal.negated v s) (among (map (λ (x : Entry). x.literal) es) v s) h in
    listed_or_not (nat_lt level e.level) e.literal (literals_up_to level es) v s both.0 (fewer_listed level es v s both.1)

-- literals with what is noted of each
pub as_many : (ls : List Lit) (ns : List Note) → length ns ≡ length ls → length (entries_of ls ns) ≡ length ls
as_many [] ns h = refl
as_many (l ∷ ls) [] h = absurd (omega (arith, h))
as_many (l ∷ ls) (n ∷ ns) h = ap (λ k. suc k) (as_many ls ns (omega (arith, h)))

pub literals_back : (ls : List Lit) (ns : List Note) → length ns ≡ length ls → literals_of (entries_of ls ns) ≡ ls
literals_back [] ns h = refl
literals_back (l ∷ ls) [] h = absurd (omega (arith, h))
literals_back (l ∷ ls) (n ∷ ns) h = ap (λ (xs : List Lit). l ∷ xs) (literals_back ls ns (omega (arith, h)))

abbrev pub entry_of : Lit → Note → Entry
entry_of l n = record { literal = l; reason = n.reason; level = n.level }

pub entries_push : (ls : List Lit) (ns : List Note) (l : Lit) (n : Note) → length ns ≡ length ls → entries_of (ls ++ l ∷ []) (ns ++ n ∷ []) ≡ entries_of ls ns ++ entry_of l n ∷ []
entries_push [] [] l n h = refl
entries_push [] (m ∷ ns) l n h = absurd (omega (arith, h))
entries_push (x ∷ ls) [] l n h = absurd (omega (arith, h))
entries_push (x ∷ ls) (m ∷ ns) l n h = ap (λ (es : List Entry). entry_of x m ∷ es) (entries_push ls ns l n (omega (arith, h)))

pub entries_at : (ls : List Lit) (ns : List Note) (k : ℕ) (d : Entry) (l : Lit) (n : Note) → length ns ≡ length ls → k < length ls → get_or (entries_of ls ns) k d ≡ entry_of (get_or ls k l) (get_or ns k n)
entries_at [] ns k d l n h low = absurd (omega (arith, low))
entries_at (x ∷ ls) [] k d l n h low = absurd (omega (arith, h))
entries_at (x ∷ ls) (m ∷ ns) zero d l n h low = refl
entries_at (x ∷ ls) (m ∷ ns) (suc k) d l n h low = entries_at ls ns k d l n (omega (arith, h)) (omega (arith, low))

-- the literals of the entries are those that were put together
pub standing : (ls : List Lit) (ns : List Note) (es : List Entry) → length ns ≡ length ls → entries_of ls ns ≡ es → literals_of es ≡ ls
standing ls ns es h e = ap (λ (xs : List Entry). literals_of xs) (sym e) ∙ literals_back ls ns h

is_none : (b : Bool) → (b ≡ true → ⊥) → b ≡ false
is_none true h = absurd (h refl)
is_none false h = refl

-- no variable beyond all of those that are listed is listed
pub unlisted_beyond : (ls : List Lit) (count v : ℕ) (s : Bool) → ((l : Lit) → lists ls l ≡ true → l.var.0 < count) → count ≤ v → among ls v s ≡ false
unlisted_beyond ls count v s within h = is_none (among ls v s) (λ e. omega (arith, within (record { var = record { 0 = v }; negated = s }) e, h))

-- a variable that is not listed with one sign, nor with the other, is not listed
pub by_sign : (ls : List Lit) (v : ℕ) (s : Bool) → among ls v false ≡ false → among ls v true ≡ false → among ls v s ≡ false
by_sign ls v true f t = t
by_sign ls v false f t = f

pub not_false : (b : Bool) → not b ≡ false → b ≡ true
not_false true h = refl
not_false false h = sym h

-- what is put together of one more is one entry more
pub split : (ls xs : List Lit) (ns ms : List Note) (l : Lit) (n : Note) → ls ≡ xs ++ l ∷ [] → ns ≡ ms ++ n ∷ [] → length ms ≡ length xs → entries_of ls ns ≡ entries_of xs ms ++ entry_of l n ∷ []
split ls xs ns ms l n e f h = ap (λ (ys : List Lit). entries_of ys ns) e ∙ ap (entries_of (xs ++ l ∷ [])) f ∙ entries_push xs ms l n h

-- a variable that is listed stands at its place
pub record StandsAt (ls : List Lit) (v at : ℕ) : Type 0 where
  pub low : at < length ls
  pub there : (d : Lit) → (get_or ls at d).var.0 ≡ v

listed_there : (ls : List Lit) (v at : ℕ) (s : Bool) → among ls v s ≡ true → ((k : ℕ) (d : Lit) → k < length ls → (get_or ls k d).var.0 ≡ v → k ≡ at) → StandsAt ls v at
listed_there ls v at s e places =
    let l : Lit = record { var = record { 0 = v }; negated = s } in
    let st = stands_at ls l e in
    let here : st.index ≡ at = places st.index l st.low (ap (λ (m : Lit). m.var.0) (st.is l)) in
    record {
      low = omega (arith, st.low, here);
      there = λ d. ap (λ (k : ℕ). (get_or ls k d).var.0) (sym here) ∙ ap (λ (m : Lit). m.var.0) (st.is d);
    }

stands_there : (ls : List Lit) (v at : ℕ) (b c : Bool) → among ls v false ≡ b → among ls v true ≡ c → (((s : Bool) → among ls v s ≡ false) → ⊥) → ((k : ℕ) (d : Lit) → k < length ls → (get_or ls k d).var.0 ≡ v → k ≡ at) → StandsAt ls v at
stands_there ls v at true c e f some places = listed_there ls v at false e places
stands_there ls v at false true e f some places = listed_there ls v at true f places
stands_there ls v at false false e f some places = absurd (some (λ s. by_sign ls v s e f))

-- so does one that was found to be told
pub spotted : (ls : List Lit) (es : List Entry) (v at : ℕ) (told : Bool) → literals_of es ≡ ls → told ≡ true → (((s : Bool) → among (literals_of es) v s ≡ false) → told ≡ false)
    → ((k : ℕ) (d : Lit) → k < length ls → (get_or ls k d).var.0 ≡ v → k ≡ at) → StandsAt ls v at
spotted ls es v at told same is none places =
    stands_there ls v at (among ls v false) (among ls v true) refl refl
    (λ free. false≢true (sym (none (λ s. ap (λ (xs : List Lit). among xs v s) same ∙ free s)) ∙ is)) places

-- and what is listed of it at a level is told by the entry there
pub told_there : (ls : List Lit) (ns : List Note) (es : List Entry) (v at level : ℕ) (s : Bool) (e : Entry) → length ns ≡ length ls → entries_of ls ns ≡ es → StandsAt ls v at
    → ((k : ℕ) (d : Lit) → k < length ls → (get_or ls k d).var.0 ≡ v → k ≡ at) → e ≡ get_or es at e → among (literals_up_to level es) v s ≡ (same_sign e.literal.negated s && not (nat_lt level e.level))
told_there ls ns es v at level s e h is here places there =
    let all : List Entry = entries_of ls ns in
    let none : Lit = record { var = record { 0 = 0 }; negated = false } in
    let n : Note = record { reason = e.reason; level = e.level } in
    let many = as_many ls ns h in
    let stands : (get_or all at e).literal.var.0 ≡ v = ap (λ (x : Entry). x.literal.var.0) (entries_at ls ns at e none n h here.low) ∙ here.there none in
    let one : (k : ℕ) (x : Entry) → k < length all → (get_or all k x).literal.var.0 ≡ v → k ≡ at = λ k x inside same.
    let low : k < length ls = omega (arith, inside, many) in
    places k none low (ap (λ (y : Entry). y.literal.var.0) (sym (entries_at ls ns k x none n h low)) ∙ same) in
    ap (λ (xs : List Entry). among (literals_up_to level xs) v s) (sym is) ∙ listed_as level all at e v s (omega (arith, here.low, many)) stands one
    ∙ ap (λ (x : Entry). same_sign x.literal.negated s && not (nat_lt level x.level)) (ap (λ (xs : List Entry). get_or xs at e) is ∙ sym there)
