-- Put in order, each once.
use Rattle.std.proofs.Common.{ℕ, List, eqb, subst, sym}
use Rattle.std.proofs.lemmas.List.Filters.{dedup_is}
use Rattle.std.proofs.lemmas.Map.Keys.{IsStrictlyIncreasing-dedup}
use Rattle.std.specs.List.Sorted.{IsStrictlyIncreasing}
use Rattle.substitution.specs.Part.{AreAmong}
use Rattle.substitution.proofs.Named.{more_among, named_among, ordered_among}
use Rattle.substitution.proofs.part.variables_of.Goals as goal

pub returns-clause-rising : goal.returns-clause-rising
returns-clause-rising c =
    let once = dedup_is eqb c.sort.new.self.items c.dedup.new.self.items c.dedup.ensures.filtered in
    subst IsStrictlyIncreasing (sym once) (IsStrictlyIncreasing-dedup c.sort.new.self.items c.in_ok-sort.ensures.sorted)

pub returns-clause-among : goal.returns-clause-among
returns-clause-among c =
    let names = c.in_ok-variables.variables.items in
    let images = c.args.substitution.now in
    let once = dedup_is eqb c.sort.new.self.items c.dedup.new.self.items c.dedup.ensures.filtered in
    more_among names c.dedup.new.self.items images (ordered_among names c.sort.new.self.items c.dedup.new.self.items c.sort.ensures.permutation once)
    (subst (λ (vs : List ℕ). AreAmong vs images) (sym c.in_ok-variables.ensures) (named_among images))
