-- The variables that a substitution names, also after they are put in order, each once.
use Rattle.std.proofs.Common.{◌≡◌, ℕ, ◌+◌, ◌<◌, Bool, true, false, eqb, ◌==◌, ◌||◌, List, [], ◌∷◌, ◌++◌, get_or, take, length, refl, ap, sym, ◌∙◌, append_assoc, append-nil, arith}
use Rattle.std.proofs.lemmas.Bool.{false≢true, eqb-true}
use Rattle.std.proofs.lemmas.Bool.Decides.{nat_tests}
use Rattle.std.proofs.lemmas.List.{take_more}
use Rattle.std.proofs.lemmas.List.Elements.{All-cons, All-nil}
use Rattle.std.proofs.lemmas.List.Folds.{list_any-append}
use Rattle.std.proofs.lemmas.List.Kept.{Contains-dedup_nat}
use Rattle.std.proofs.lemmas.List.Sorted.{Contains-permutation}
use Rattle.std.proofs.lemmas.Map.Views.{Contains-from_any, list_any-from_Contains}
use Rattle.std.specs.Cmp.{nat_eq_equiv}
use Rattle.std.specs.List.{dedup}
use Rattle.std.specs.List.Sorted.{IsPermutation}
use Rattle.linear.specs.declared.term.Var.{Var}
use Rattle.substitution.specs.declared.image.Image.{Image}
use Rattle.substitution.specs.declared.image.Image.TheVariants.{Lit, Zero, One}
use Rattle.substitution.specs.Images.{Images}
use Rattle.substitution.specs.Part.{AreAmong, IsImageAmong, image_names, is_among, names, pair_names}

names_push : (images : Images) (p : Var × Image) → names (images ++ p ∷ []) ≡ names images ++ pair_names p
names_push [] p = append-nil (pair_names p)
names_push (x ∷ xs) p = ap (λ (ns : List ℕ). pair_names x ++ ns) (names_push xs p) ∙ sym (append_assoc (pair_names x) (names xs) (pair_names p))

-- one image more
names_more : (images : Images) (i : ℕ) (d : Var × Image) → i < length images → names (take (i + 1) images) ≡ names (take i images) ++ pair_names (get_or images i d)
names_more images i d h = ap names (take_more images i d h) ∙ names_push (take i images) (get_or images i d)

-- one step of the loop
pub names_step : (images read : Images) (i : ℕ) (old new : List ℕ) → read ≡ images → i < length images → old ≡ names (take i images) → new ≡ old ++ pair_names (get_or read i (record { 0 = 0 }, Lit (record { var = record { 0 = 0 }; negated = false })))
    → new ≡ names (take (i + 1) images)
names_step images read i old new same inside so_far pushed =
    let d : Var × Image = (record { 0 = 0 }, Lit (record { var = record { 0 = 0 }; negated = false })) in
    pushed ∙ ap (λ (ns : List ℕ). ns ++ pair_names (get_or read i d)) so_far ∙ ap (λ (ps : Images). names (take i images) ++ pair_names (get_or ps i d)) same ∙ sym (names_more images i d inside)

left : (b d : Bool) → b ≡ true → (b || d) ≡ true
left true d h = refl
left false d h = absurd (false≢true h)

right : (b d : Bool) → d ≡ true → (b || d) ≡ true
right true d h = refl
right false d h = h

itself_equal : (v : ℕ) → (v == v) ≡ true
itself_equal v = grind (arith, nat_tests)

among_after : (xs ys : List ℕ) (v : ℕ) → is_among ys v ≡ true → is_among (xs ++ ys) v ≡ true
among_after xs ys v h = list_any-append (λ x. v == x) xs ys ∙ right (is_among xs v) (is_among ys v) h

more_image : (vs ws : List ℕ) → ((v : ℕ) → is_among vs v ≡ true → is_among ws v ≡ true) → (i : Image) → IsImageAmong vs i → IsImageAmong ws i
more_image vs ws more (Lit l) h = more (l.var.0) h
more_image vs ws more Zero h = tt
more_image vs ws more One h = tt

-- what is named is among more variables too
pub more_among : (vs ws : List ℕ) (images : Images) → ((v : ℕ) → is_among vs v ≡ true → is_among ws v ≡ true) → AreAmong vs images → AreAmong ws images
more_among vs ws images more h k d inside =
    let here = h k d inside in
    (more ((get_or images k d).0.0) here.0, more_image vs ws more (get_or images k d).1 here.1)

image_first : (v : ℕ) (i : Image) (rest : List ℕ) → IsImageAmong (v ∷ (image_names i ++ rest)) i
image_first v (Lit l) rest = right (l.var.0 == v) (is_among (l.var.0 ∷ rest) (l.var.0)) (left (l.var.0 == l.var.0) (is_among rest (l.var.0)) (itself_equal (l.var.0)))
image_first v Zero rest = tt
image_first v One rest = tt

pub named_among : (images : Images) → AreAmong (names images) images
named_among [] = All-nil (λ p. (is_among [] (p.0.0) ≡ true) × IsImageAmong [] p.1)
named_among (p ∷ ps) =
    let all : List ℕ = pair_names p ++ names ps in
    All-cons (λ q. (is_among all (q.0.0) ≡ true) × IsImageAmong all q.1) p ps
    (left (p.0.0 == p.0.0) (is_among (image_names p.1 ++ names ps) (p.0.0)) (itself_equal (p.0.0)), image_first (p.0.0) p.1 (names ps))
    (more_among (names ps) all ps (λ v h. among_after (pair_names p) (names ps) v h) (named_among ps))

-- a list that is put in order and has each number once has the same numbers
pub ordered_among : (xs ys zs : List ℕ) → IsPermutation xs ys → zs ≡ dedup eqb ys → (v : ℕ) → is_among xs v ≡ true → is_among zs v ≡ true
ordered_among xs ys zs moved once v h =
    let there = Contains-dedup_nat ys v (Contains-permutation xs ys v moved (Contains-from_any eqb-true v xs h)) in
    ap (λ (ns : List ℕ). is_among ns v) once ∙ list_any-from_Contains nat_eq_equiv v (dedup eqb ys) there
