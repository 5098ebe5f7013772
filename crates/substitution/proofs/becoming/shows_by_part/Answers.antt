-- The part shows what it becomes exactly where the constraint does.
use Rattle.std.proofs.Common.{ℕ, List, subst}
use Rattle.substitution.specs.Part.{IsPart}
use Rattle.substitution.proofs.PartImages.{part_shows}
use Rattle.substitution.proofs.becoming.shows_by_part.Goals as goal

pub returns : goal.returns
returns c =
    let way = part_shows c.args.constraint.now c.in_ok-part.part c.in_ok-image.image c.in_ok-variables.variables.items c.args.substitution.now c.part_of.ensures.normal.rises c.in_ok-variables.ensures.among
    (subst (λ (vs : List ℕ). IsPart c.args.constraint.now vs c.in_ok-part.part) c.as_slice.ensures.value c.in_ok-part.ensures.part) c.in_ok-image.ensures.under in
    (λ h. way.0 (c.shows.ensures.0 h), λ h. c.shows.ensures.1 (way.1 h))
