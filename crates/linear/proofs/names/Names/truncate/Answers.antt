use Rattle.std.proofs.Common.{List, ℕ, map, take, sym, ap, ◌∙◌, subst}
use Rattle.std.proofs.lemmas.List.{take-map}
use Rattle.linear.specs.Table.{IsTable}
use Rattle.linear.specs.ShortNames.{AreShortPlaces}
use Rattle.linear.proofs.ShortPlaces.{nothing_kept}
use Rattle.linear.proofs.Tables.{IsTable-take}
use Rattle.linear.proofs.names.Names.truncate.Goals as goal

pub invariant_of-self : goal.invariant_of-self
invariant_of-self c =
    let names : List (List ℕ) = map (λ v. v.items) c.self.inside.set.keys in
    let left : List (List ℕ) = map (λ v. v.items) c.truncate.new.self.keys in (
      subst IsTable (take-map (λ v. v.items) c.args.len c.self.inside.set.keys ∙ sym (ap (map (λ v. v.items)) c.truncate.ensures.keys))
          (IsTable-take c.args.len names c.self.invariant.0),
      subst (AreShortPlaces left) (sym c.clear.ensures) (nothing_kept left),
    )

pub returns : goal.returns
returns c =
    ap (map (λ v. v.items)) c.truncate.ensures.keys ∙ sym (take-map (λ v. v.items) c.args.len c.self.inside.set.keys) ∙ ap (take c.args.len) c.self.view_is
