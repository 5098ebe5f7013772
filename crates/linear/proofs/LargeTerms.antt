-- What is put among the large terms changes no term that is kept already.
use Rattle.std.proofs.Common.{◌≡◌, ℕ, ◌<◌, ◌==◌, Bool, true, false, List, [], ◌∷◌, ◌++◌, All, length, get_or, map, if◌then◌else◌, refl, sym, ap, subst, ◌∙◌, arith}
use Rattle.std.proofs.lemmas.Bool.Decides.{nat_tests}
use Rattle.std.proofs.lemmas.List.{get_or_append_left, map_push}
use Rattle.std.proofs.lemmas.List.Elements.{All-head, All-tail}
use Rattle.std.proofs.Math.Seq.{get_or-append_seam}
use Rattle.linear.specs.declared.term.Term.{Term}
use Rattle.linear.specs.declared.packed_terms.PackedTerm.{PackedTerm}
use Rattle.linear.specs.Packed.{large_mark, small_term, term_of, StandsAmong}

term_stays : (large more : List Term) (t : PackedTerm) → StandsAmong large t → term_of (large ++ more) t ≡ term_of large t
term_stays large more t h = by (t.packed == large_mark) refl
  where
    by : (b : Bool) → (t.packed == large_mark) ≡ b → (if b then get_or (large ++ more) t.number (small_term t) else small_term t) ≡ (if b then get_or large t.number (small_term t) else small_term t)
    by true e =
        let same : t.packed ≡ large_mark = grind (arith, nat_tests) in
        get_or_append_left large more (small_term t) t.number (h same)
    by false e = refl

pub terms_stay : (large more : List Term) (ps : List PackedTerm) → All (StandsAmong large) ps → map (term_of (large ++ more)) ps ≡ map (term_of large) ps
terms_stay large more [] h = refl
terms_stay large more (p ∷ ps) h =
    ap (λ ts. term_of (large ++ more) p ∷ ts) (terms_stay large more ps (All-tail (StandsAmong large) p ps h))
    ∙ ap (λ t. t ∷ map (term_of large) ps) (term_stays large more p (All-head (StandsAmong large) p ps h))

-- a large term more
pub large_put : (large bigger : List Term) (ps after : List PackedTerm) (t : Term) (p : PackedTerm) → All (StandsAmong large) ps → bigger ≡ large ++ t ∷ [] → after ≡ ps ++ p ∷ [] → p.packed ≡ large_mark → p.number ≡ length large
    → map (term_of bigger) after ≡ map (term_of large) ps ++ t ∷ []
large_put large bigger ps after t p h is put mark place =
    ap (map (term_of bigger)) put
    ∙ map_push (term_of bigger) ps p
    ∙ ap (λ ts. ts ++ term_of bigger p ∷ []) (ap (λ ls. map (term_of ls) ps) is ∙ terms_stay large (t ∷ []) ps h)
    ∙ ap (λ u. map (term_of large) ps ++ u ∷ []) here
  where
    here : term_of bigger p ≡ t
    here =
        ap (λ m. if m == large_mark then get_or bigger p.number (small_term p) else small_term p) mark
        ∙ ap (λ ls. get_or ls p.number (small_term p)) is
        ∙ ap (λ k. get_or (large ++ t ∷ []) k (small_term p)) place
        ∙ get_or-append_seam large t [] (small_term p)
