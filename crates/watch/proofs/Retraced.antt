-- What is told from where a trail parts from what is known.
use Rattle.std.proofs.Common.{◌≡◌, ℕ, ◌+◌, ◌<◌, Option, List, [], ◌∷◌, ◌++◌, length, get_or, map, take, refl, ap, sym, subst, ◌∙◌, append_assoc}
use Rattle.std.proofs.lemmas.List.{map_push, take_more}
use Rattle.linear.specs.declared.term.Lit.{Lit}
use Rattle.normal_form.specs.Normal.{NormalConstraint}
use Rattle.propagate.specs.declared.reach.Reach.TheVariants as reaches
use Rattle.propagate.specs.declared.retrace.Extent.{Extent}
use Rattle.propagate.specs.declared.retrace.Extent.TheVariants as extents
use Rattle.propagate.specs.declared.retrace.Retrace.{Retrace}
use Rattle.propagate.specs.Literals.{IsConsistent, IsOnce}
use Rattle.propagate.specs.Reach.{IsReach, IsRetrace, reach_told, told}
use Rattle.watch.specs.declared.assumed.Assumed.{Assumed}
use Rattle.watch.specs.declared.assumed.Assumed.TheVariants as outcomes
use Rattle.watch.specs.Keeping.{IsAssumed}
use Rattle.watch.specs.Steps.{AreGiven}
use Rattle.ledger.specs.Ledgers.{AreReasons}
use Rattle.watch.proofs.Assuming.{no_way, whole_end}
use Rattle.watch.proofs.GivenOnes.{reach_of}

abbrev pub Told : Type 0
Told = List (Lit × Option ℕ)

-- one literal of the trail more
pub told_more : (xs : List Lit) (first k : ℕ) (so_far new : Told) (l : Lit) (reason : Option ℕ) → take first xs ++ map (λ p. p.0) so_far ≡ take k xs → new ≡ so_far ++ (l, reason) ∷ [] → k < length xs → get_or xs k l ≡ l → take first xs ++ map (λ p. p.0) new ≡ take (k + 1) xs
told_more xs first k so_far new l reason same e low is =
    ap (λ (ps : Told). take first xs ++ map (λ p. p.0) ps) e
    ∙ ap (λ (ls : List Lit). take first xs ++ ls) (map_push (λ (p : Lit × Option ℕ). p.0) so_far (l, reason))
    ∙ sym (append_assoc (take first xs) (map (λ p. p.0) so_far) (l ∷ []))
    ∙ ap (λ (ls : List Lit). ls ++ l ∷ []) same
    ∙ ap (λ (m : Lit). take k xs ++ m ∷ []) (sym is)
    ∙ sym (take_more xs k l low)

-- assuming leads to a conflict, or to all that an assignment forces
pub retraced : (ns : List NormalConstraint) (given known assigned : List Lit) (reasons : List (Option ℕ)) (a : Assumed) (r : Retrace) → AreReasons ns assigned reasons → AreGiven assigned reasons given → IsAssumed ns given assigned a → IsOnce assigned → IsConsistent assigned
    → told known r ≡ assigned → (a ≡ outcomes.Whole → r.extent ≡ extents.Closed) → ((a ≡ outcomes.Whole → ⊥) → reach_told (told known r) r.extent ≡ reaches.Conflict) → IsRetrace ns given known r
retraced ns given known assigned reasons outcomes.Whole r has all end once apart e whole clash =
    subst (λ (x : Extent). IsReach ns given (reach_told (told known r) x)) (sym (whole refl)) (reach_of ns given assigned (told known r) e (whole_end ns assigned reasons given has all end) once apart)
retraced ns given known assigned reasons (outcomes.Falsified place) r has all end once apart e whole clash =
    subst (IsReach ns given) (sym (clash (λ same. cc))) (no_way ns assigned reasons given (outcomes.Falsified place) has all (λ same. cc) end)
retraced ns given known assigned reasons outcomes.Clash r has all end once apart e whole clash =
    subst (IsReach ns given) (sym (clash (λ same. cc))) (no_way ns assigned reasons given outcomes.Clash has all (λ same. cc) end)
