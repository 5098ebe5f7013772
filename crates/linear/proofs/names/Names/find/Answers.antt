use Rattle.std.proofs.Common.{◌≡◌, ℕ, List, true, false, map, subst}
use Rattle.linear.specs.Table.{has_name, place_of}
use Rattle.linear.proofs.Tables.{found_at, not_found}
use Rattle.linear.proofs.names.Names.find.Goals as goal

pub returns-in-Some : goal.returns-in-Some
returns-in-Some c =
    let names : List (List ℕ) = map (λ v. v.items) c.self.inside.set.keys in
    let P : List (List ℕ) → Type 0 = λ names. (has_name names c.args.name.now ≡ true) × (c.in-Some.place ≡ place_of names c.args.name.now) in
    subst P c.self.view_is (c.in-Some.ensures names c.self.invariant.0 c.self.invariant.1)

pub returns-in-Some-get_index_of : goal.returns-in-Some-get_index_of
returns-in-Some-get_index_of c =
    let P : List (List ℕ) → Type 0 = λ names. (has_name names c.args.name.now ≡ true) × (c.in-Some-get_index_of.place ≡ place_of names c.args.name.now) in
    subst P c.self.view_is (found_at (λ v. v.items) c.self.inside.set.keys c.args.name.now c.in-Some-get_index_of.place c.in-Some-get_index_of.ensures.index c.in-Some-get_index_of.ensures.found)

pub returns-in-None : goal.returns-in-None
returns-in-None c =
    let P : List (List ℕ) → Type 0 = λ names. has_name names c.args.name.now ≡ false in
    subst P c.self.view_is (not_found (λ v. v.items) c.self.inside.set.keys c.args.name.now c.in-None.ensures.found)
