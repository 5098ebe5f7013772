-- How a walk goes on: from one constraint to the next, and from one pass to the next.
use Rattle.std.proofs.Common.{◌≡◌, ℕ, zero, suc, ◌+◌, ◌<◌, ◌≤◌, true, false, List, [], ◌∷◌, ◌++◌, map, length, get_or, Option, Some, None, is_some, MatchOption, refl, sym, ap, subst, ◌∙◌, append_assoc, append-nil, arith}
use Rattle.std.specs.List.{AllWithin}
use Rattle.std.proofs.lemmas.Bool.{false≢true}
use Rattle.std.proofs.lemmas.List.{length-append, length-map}
use Rattle.linear.specs.declared.term.Lit.{Lit}
use Rattle.normal_form.specs.Normal.{NormalConstraint}
use Rattle.propagate.specs.declared.forced.Forced.{Forced}
use Rattle.propagate.specs.Walk.{StandsAt, IsReasonedChain, literals_of, IsQuiet, GoesOn, AreForcedBy, GoesOnBy}
use Rattle.propagate.proofs.ReasonedChains.{fewer_left}
use Rattle.propagate.proofs.SearchEnds.{unset_below, bound_of}
use Rattle.propagate.proofs.SeenLists.{more_seen}

-- what one constraint forces is a chain with its reasons
reasoned_by : (ns : List NormalConstraint) (place : ℕ) (n : NormalConstraint) → StandsAt ns place n → (assigned : List Lit) (ss : List Forced) → AreForcedBy n place assigned ss → IsReasonedChain ns assigned ss
reasoned_by ns place n at assigned [] c = tt
reasoned_by ns place n at assigned (s ∷ ss) c =
    ((n, subst (λ (p : ℕ). StandsAt ns p n) (sym c.0) at, c.1), reasoned_by ns place n at (assigned ++ s.literal ∷ []) ss c.2)

pub goes_by : (ns : List NormalConstraint) (place : ℕ) (n : NormalConstraint) (assigned later : List Lit) (steps more : List Forced) → StandsAt ns place n → GoesOnBy n place assigned steps later more → GoesOn ns assigned steps later more
goes_by ns place n assigned later steps more at g = (g.0, reasoned_by ns place n at assigned g.0 g.1, g.2, g.3)

pub stays : (ns : List NormalConstraint) (assigned : List Lit) (steps : List Forced) → GoesOn ns assigned steps assigned steps
stays ns assigned steps = ([], tt, sym (append-nil assigned), sym (append-nil steps))

literals_append : (xs ys : List Forced) → literals_of (xs ++ ys) ≡ literals_of xs ++ literals_of ys
literals_append [] ys = refl
literals_append (x ∷ xs) ys = ap (λ (ls : List Lit). x.literal ∷ ls) (literals_append xs ys)

reasoned_append : (ns : List NormalConstraint) (given : List Lit) (xs ys : List Forced) → IsReasonedChain ns given xs → IsReasonedChain ns (given ++ literals_of xs) ys → IsReasonedChain ns given (xs ++ ys)
reasoned_append ns given [] ys c d = subst (λ (ls : List Lit). IsReasonedChain ns ls ys) (append-nil given) d
reasoned_append ns given (x ∷ xs) ys c d =
    (c.0, reasoned_append ns (given ++ x.literal ∷ []) xs ys c.1 (subst (λ (ls : List Lit). IsReasonedChain ns ls ys) (sym (append_assoc given (x.literal ∷ []) (literals_of xs))) d))

joined_assigned : (a b c : List Lit) (xs ys : List Forced) → b ≡ a ++ literals_of xs → c ≡ b ++ literals_of ys → c ≡ a ++ literals_of (xs ++ ys)
joined_assigned a b c xs ys e f =
    f ∙ ap (λ (ls : List Lit). ls ++ literals_of ys) e ∙ append_assoc a (literals_of xs) (literals_of ys) ∙ ap (λ (ls : List Lit). a ++ ls) (sym (literals_append xs ys))

-- two pieces of a walk are one
pub goes_both : (ns : List NormalConstraint) (a b c : List Lit) (s t u : List Forced) → GoesOn ns a s b t → GoesOn ns b t c u → GoesOn ns a s c u
goes_both ns a b c s t u g h = (
  g.0 ++ h.0,
  reasoned_append ns a g.0 h.0 g.1 (subst (λ (ls : List Lit). IsReasonedChain ns ls h.0) g.2 h.1),
  joined_assigned a b c g.0 h.0 g.2 h.2,
  h.3 ∙ ap (λ (ss : List Forced). ss ++ h.0) g.3 ∙ append_assoc s g.0 h.0,
)

longer : (ns : List NormalConstraint) (a b : List Lit) (s t : List Forced) (g : GoesOn ns a s b t) → length b ≡ length a + length g.0
longer ns a b s t g = ap length g.2 ∙ length-append a (literals_of g.0) ∙ ap (λ (n : ℕ). length a + n) (length-map g.0 (λ x. x.literal))

nothing : (xs : List Forced) → length xs ≡ 0 → xs ≡ []
nothing [] h = refl
nothing (x ∷ xs) h = absurd (omega (arith, h))

-- an assignment that is as long as before is the same
pub goes_same : (ns : List NormalConstraint) (a b : List Lit) (s t : List Forced) → GoesOn ns a s b t → length b ≡ length a → b ≡ a
goes_same ns a b s t g h =
    let none = nothing g.0 (omega (arith, longer ns a b s t g, h)) in
    g.2 ∙ ap (λ (ss : List Forced). a ++ literals_of ss) none ∙ append-nil a

-- one constraint more is quiet, as long as nothing is listed
pub quiet_more : {X : Type 0} (f : X → NormalConstraint) (xs : List X) (a b c : List Lit) (s t u : List Forced) (i : ℕ) (x : X) → GoesOn (map f xs) a s b t → GoesOn (map f xs) b t c u
    → (length b ≡ length a → AllWithin (IsQuiet b) (map f xs) 0 i) → i < length xs → x ≡ get_or xs i x → IsQuiet c (f x) → length c ≡ length a → AllWithin (IsQuiet c) (map f xs) 0 (i + 1)
quiet_more f xs a b c s t u i x g h all low is quiet same =
    let one = longer (map f xs) a b s t g in
    let two = longer (map f xs) b c t u h in
    let stayed = goes_same (map f xs) b c t u h (omega (arith, one, two, same)) in
    more_seen f (IsQuiet c) xs 0 i x (subst (λ (ls : List Lit). AllWithin (IsQuiet ls) (map f xs) 0 i) (sym stayed) (all (omega (arith, one, two, same)))) low is quiet

chain_fewer : (ns : List NormalConstraint) (given : List Lit) (ss : List Forced) → IsReasonedChain ns given ss → unset_below (bound_of ns) (given ++ literals_of ss) + length ss ≤ unset_below (bound_of ns) given
chain_fewer ns given [] c = let same = ap (unset_below (bound_of ns)) (append-nil given) in omega (arith, same)
chain_fewer ns given (s ∷ ss) c =
    let less = fewer_left ns given (given ++ s.literal ∷ []) s c.0 refl in
    let same = ap (unset_below (bound_of ns)) (append_assoc given (s.literal ∷ []) (literals_of ss)) in
    omega (arith, less, same, chain_fewer ns (given ++ s.literal ∷ []) ss c.1)

-- where more is listed, fewer variables are left
pub goes_fewer : (ns : List NormalConstraint) (a b : List Lit) (s t : List Forced) → GoesOn ns a s b t → (length b ≡ length a → ⊥) → unset_below (bound_of ns) b < unset_below (bound_of ns) a
goes_fewer ns a b s t g h =
    let same = ap (unset_below (bound_of ns)) g.2 in
    let one = longer ns a b s t g in
    by_length (length g.0) refl same one
  where
    by_length : (count : ℕ) → length g.0 ≡ count → unset_below (bound_of ns) b ≡ unset_below (bound_of ns) (a ++ literals_of g.0) → length b ≡ length a + length g.0 → unset_below (bound_of ns) b < unset_below (bound_of ns) a
    by_length zero e same one = absurd (h (omega (arith, e, one)))
    by_length (suc count) e same one = omega (arith, e, same, chain_fewer ns a g.0 g.1)

-- the end of a pass
pub ends_falsified_off : (falsified : Option ℕ) (L S : Type 0) (B : ℕ → Type 0) → is_some falsified ≡ true → MatchOption falsified (L → S) B → MatchOption falsified S B
ends_falsified_off None L S B h e = absurd (false≢true h)
ends_falsified_off (Some place) L S B h e = e

pub ends_fixpoint : (falsified : Option ℕ) (L S : Type 0) (B : ℕ → Type 0) → is_some falsified ≡ false → MatchOption falsified (L → S) B → L → S
ends_fixpoint None L S B h e l = e l
ends_fixpoint (Some place) L S B h e l = absurd (false≢true (sym h))

-- a walk from the start, one pass longer
pub walk_on : (ns : List NormalConstraint) (start b c : List Lit) (t u : List Forced) → IsReasonedChain ns start t → b ≡ start ++ literals_of t → GoesOn ns b t c u → IsReasonedChain ns start u × (c ≡ start ++ literals_of u)
walk_on ns start b c t u chain e g = (
  subst (λ (ss : List Forced). IsReasonedChain ns start ss) (sym g.3) (reasoned_append ns start t g.0 chain (subst (λ (ls : List Lit). IsReasonedChain ns ls g.0) e g.1)),
  joined_assigned start b c t g.0 e g.2 ∙ ap (λ (ss : List Forced). start ++ literals_of ss) (sym g.3),
)
