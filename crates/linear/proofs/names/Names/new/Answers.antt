use Rattle.std.proofs.Common.{List, ℕ, map, sym, ap, subst}
use Rattle.linear.specs.Table.{IsTable}
use Rattle.linear.specs.ShortNames.{AreShortPlaces}
use Rattle.linear.proofs.ShortPlaces.{nothing_kept}
use Rattle.linear.proofs.Tables.{IsTable-empty}
use Rattle.linear.proofs.names.Names.new.Goals as goal

pub invariant_of-result : goal.invariant_of-result
invariant_of-result c =
    let names : List (List ℕ) = map (λ v. v.items) c.new.result.keys in (
      subst IsTable (sym (ap (map (λ v. v.items)) c.new.ensures.empty)) IsTable-empty,
      subst (AreShortPlaces names) (sym c.new-2.ensures) (nothing_kept names),
    )
