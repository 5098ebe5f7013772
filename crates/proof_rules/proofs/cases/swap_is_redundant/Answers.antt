use Rattle.std.proofs.Common.{[], ◌∷◌, refl, inl, arith}
use Rattle.std.proofs.lemmas.Int.{ints}
use Rattle.std.proofs.lemmas.List.Elements.{All-nil, All-cons}
use Rattle.normal_form.specs.Cases.{plain, negated, normal}
use Rattle.normal_form.proofs.NormalForm.{is_form}
use Rattle.normal_form.proofs.Negations.{negation_from}
use Rattle.propagate.proofs.AnyOf.{any_here}
use Rattle.substitution.specs.Cases.{swap}
use Rattle.substitution.specs.Covering.{Covers}
use Rattle.substitution.specs.Under.{substituted}
use Rattle.substitution.proofs.Covered.{covers_itself}
use Rattle.proof_rules.specs.Cases.{first_or_second, first_or_not_second, not_first_and_second}
use Rattle.proof_rules.specs.Redundant.{IsShownUnder}
use Rattle.proof_rules.proofs.ShownBySearch.{shown_by_search}
use Rattle.proof_rules.proofs.cases.swap_is_redundant.Goals as goal

stays : IsShownUnder (first_or_second ∷ not_first_and_second ∷ []) swap first_or_second
stays = (
  first_or_second,
  is_form (substituted first_or_second swap) first_or_second (omega arith, omega arith, (omega arith, omega arith, tt)) (λ set. omega (arith, ints)) refl,
  inl (any_here (λ e. Covers e first_or_second) first_or_second (not_first_and_second ∷ []) (covers_itself first_or_second)),
)

becomes : IsShownUnder (first_or_second ∷ not_first_and_second ∷ []) swap first_or_not_second
becomes = (
  normal (negated 1 1 ∷ plain 1 2 ∷ []) 1,
  is_form (substituted first_or_not_second swap) (normal (negated 1 1 ∷ plain 1 2 ∷ []) 1) (omega arith, omega arith, (omega arith, omega arith, tt)) (λ set. omega (arith, ints)) refl,
  shown_by_search 3 (first_or_second ∷ not_first_and_second ∷ []) (normal (negated 1 1 ∷ plain 1 2 ∷ []) 1) (normal (plain 1 1 ∷ negated 1 2 ∷ []) 2)
      (record { rises = (omega arith, omega arith, (omega arith, omega arith, tt)); terms = refl; degree = refl }) refl,
)

pub returns : goal.returns
returns c = record {
  negation = negation_from first_or_not_second not_first_and_second (omega arith, omega arith, (omega arith, omega arith, tt)) refl refl;
  each_live = All-cons (IsShownUnder (first_or_second ∷ not_first_and_second ∷ []) swap) first_or_second [] stays
      (All-nil (IsShownUnder (first_or_second ∷ not_first_and_second ∷ []) swap));
  itself = becomes;
  objective = tt;
}
