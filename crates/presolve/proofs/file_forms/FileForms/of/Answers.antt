use Rattle.std.proofs.Common.{◌≡◌, ◌<◌, get_or, subst, sym, ◌∙◌}
use Rattle.presolve.specs.Forms.{ArePlacesOf}
use Rattle.presolve.specs.Weights.{greatest}
use Rattle.presolve.proofs.Symmetry.{keys_rise}
use Rattle.presolve.proofs.file_forms.FileForms.of.Goals as goal

pub returns-clause-indexed : goal.returns-clause-indexed
returns-clause-indexed c =
    let placed = subst (λ keys. ArePlacesOf keys c.len-count.result c.in_ok-places.places.items) c.as_slice.ensures.keys c.in_ok-places.ensures in
    record {
      rises = keys_rise c.args.problem.now.constraints c.in_ok-keys.keys.keys c.in_ok-keys.ensures;
      places = subst (λ n. ArePlacesOf c.in_ok-keys.keys.keys n c.in_ok-places.places.items) (sym placed.count_is) placed;
      weighed = c.in_ok-weights.ensures.count ∙ sym placed.count_is;
      weights = λ v h. subst (λ keys. get_or c.in_ok-weights.weights.items v 0 ≡ greatest keys v) c.as_slice-2.ensures.keys (c.in_ok-weights.ensures.weights v (subst (λ n. v < n) placed.count_is h));
    }
