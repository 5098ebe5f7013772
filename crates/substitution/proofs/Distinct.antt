-- A map that is collected from a list is as large as the list exactly where no variable stands twice, and then it
-- looks up the images.
use Rattle.std.proofs.Common.{◌≡◌, ◌≢◌, ℕ, ◌<◌, ◌≤◌, Bool, true, false, eqb, cond, List, [], ◌∷◌, Option, Some, map, length, unwrap_or, refl, ap, sym, subst, ◌∙◌, arith}
use Rattle.std.specs.List.{AllPairs, IsDistinct}
use Rattle.std.specs.HashMap.{HashMap, IsFromIterResult, hash_map_len, get}
use Rattle.std.specs.Map.{keys_of, lookup}
use Rattle.std.specs.Set.{distinct_count}
use Rattle.std.proofs.lemmas.Map.Made.{hash_map_len-from_list, distinct_count-le, IsDistinct-from_count, distinct_count-from_IsDistinct, AllPairs-from_IsDistinct, IsDistinct-from_AllPairs, update_all_none}
use Rattle.std.specs.Cmp.{unsigned_Decides, nat_eq_equiv}
use Rattle.std.proofs.lemmas.List.{get_or-map, length-map}
use Rattle.linear.specs.declared.term.Var.{Var}
use Rattle.substitution.specs.declared.image.Image.{Image}
use Rattle.substitution.specs.declared.image.Image.TheVariants.{Zero}
use Rattle.substitution.specs.Images.{Images, NamesOnce, image_of, itself}

-- the images under the numbers of the variables
abbrev pub numbered : Images → List (ℕ × Image)
numbered images = map (λ p. (p.0.0, p.1)) images

-- the numbers of the variables
abbrev variables : Images → List ℕ
variables images = map (λ p. p.0.0) images

keys_are : (images : Images) → keys_of (numbered images) ≡ variables images
keys_are [] = refl
keys_are (p ∷ ps) = ap (λ (ks : List ℕ). p.0.0 ∷ ks) (keys_are ps)

apart_from_once : (images : Images) → NamesOnce images → AllPairs (λ x y. x ≢ y) (variables images)
apart_from_once images once i j e below within same =
    let d : Var × Image = (record { 0 = 0 }, Zero) in
    let short : j < length images = omega (arith, within, length-map images (λ p. p.0.0)) in
    let first = get_or-map (λ (p : Var × Image). p.0.0) images i d e (omega (arith, below, short)) in
    let second = get_or-map (λ (p : Var × Image). p.0.0) images j d e short in
    once i j d below short (sym first ∙ same ∙ second)

once_from_apart : (images : Images) → AllPairs (λ x y. x ≢ y) (variables images) → NamesOnce images
once_from_apart images apart i j d below short same =
    let first = get_or-map (λ (p : Var × Image). p.0.0) images i d 0 (omega (arith, below, short)) in
    let second = get_or-map (λ (p : Var × Image). p.0.0) images j d 0 short in
    apart i j 0 below (omega (arith, short, length-map images (λ p. p.0.0))) (first ∙ same ∙ sym second)

count_is : {S : Type 0} (images : Images) (found : HashMap ℕ Image S) → IsFromIterResult eqb (numbered images) found → hash_map_len found ≡ distinct_count eqb (variables images)
count_is images found made = hash_map_len-from_list nat_eq_equiv (numbered images) found made ∙ ap (distinct_count eqb) (keys_are images)

distinct_from_length : {S : Type 0} (images : Images) (found : HashMap ℕ Image S) → IsFromIterResult eqb (numbered images) found → length images ≤ hash_map_len found → IsDistinct eqb (variables images)
distinct_from_length images found made full =
    IsDistinct-from_count nat_eq_equiv (variables images)
    (omega (arith, distinct_count-le eqb (variables images), full, count_is images found made, length-map images (λ p. p.0.0)))

pub once_from_length : {S : Type 0} (images : Images) (found : HashMap ℕ Image S) → IsFromIterResult eqb (numbered images) found → length images ≤ hash_map_len found → NamesOnce images
once_from_length images found made full =
    once_from_apart images (AllPairs-from_IsDistinct unsigned_Decides (variables images) (distinct_from_length images found made full))

pub twice_from_length : {S : Type 0} (images : Images) (found : HashMap ℕ Image S) → IsFromIterResult eqb (numbered images) found → hash_map_len found < length images → NamesOnce images → ⊥
twice_from_length images found made less once =
    let distinct = IsDistinct-from_AllPairs unsigned_Decides (variables images) (apart_from_once images once) in
    omega (arith, less, count_is images found made, distinct_count-from_IsDistinct nat_eq_equiv (variables images) distinct, length-map images (λ p. p.0.0))

chosen : (b : Bool) (i j k : Image) (rest : Option Image) → unwrap_or rest k ≡ j → unwrap_or (cond b (Some i) rest) k ≡ cond b i j
chosen true i j k rest h = refl
chosen false i j k rest h = h

found_image : (images : Images) (v : ℕ) → unwrap_or (lookup (eqb v) (numbered images)) (itself v) ≡ image_of images v
found_image [] v = refl
found_image (p ∷ ps) v = chosen (eqb v (p.0.0)) p.1 (image_of ps v) (itself v) (lookup (eqb v) (numbered ps)) (found_image ps v)

pub images_from_length : {S : Type 0} (images : Images) (found : HashMap ℕ Image S) → IsFromIterResult eqb (numbered images) found → length images ≤ hash_map_len found → (v : ℕ) → unwrap_or (get eqb found v) (itself v) ≡ image_of images v
images_from_length images found made full v =
    let distinct : IsDistinct eqb (keys_of (numbered images)) = subst (λ (ks : List ℕ). IsDistinct eqb ks) (sym (keys_are images)) (distinct_from_length images found made full) in
    let looked_up = made.0 v ∙ update_all_none nat_eq_equiv eqb (λ _ _. refl) (numbered images) v distinct in
    ap (λ (o : Option Image). unwrap_or o (itself v)) looked_up ∙ found_image images v

pub collected_from : {S : Type 0} (given images : Images) (found : HashMap ℕ Image S) → given ≡ images → IsFromIterResult eqb (numbered given) found → IsFromIterResult eqb (numbered images) found
collected_from {S} given images found same made = subst (λ (ps : Images). IsFromIterResult eqb (numbered ps) found) same made
