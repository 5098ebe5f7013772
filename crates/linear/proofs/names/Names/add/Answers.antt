use Rattle.std.proofs.Common.{◌≡◌, ℕ, ◌<◌, List, [], ◌∷◌, ◌++◌, map, length, get_or, if◌then◌else◌, sym, ap, ◌∙◌, subst, arith}
use Rattle.std.proofs.lemmas.List.{length-append, length-map}
use Rattle.std.proofs.Math.Seq.{get_or-append_seam}
use Rattle.linear.specs.Table.{IsTable, with_name}
use Rattle.linear.specs.ShortNames.{AreShortPlaces}
use Rattle.linear.proofs.ShortPlaces.{one_name_more}
use Rattle.linear.proofs.Tables.{IsTable-with_name, map-insert_key, place_of-new}
use Rattle.linear.proofs.names.Names.add.Goals as goal

names_after : (c : goal.After-keep) → map (λ v. v.items) c.insert.new.self.keys ≡ with_name c.args.self.now c.args.name.now
names_after c =
    ap (map (λ v. v.items)) c.in_ok-insert.ensures.keys
    ∙ map-insert_key (λ v. v.items) c.self.inside.set.keys c.in_ok-own.own
    ∙ ap (with_name (map (λ v. v.items) c.self.inside.set.keys)) c.in_ok-own.ensures.items
    ∙ ap (λ names. with_name names c.args.name.now) c.self.view_is

pub returns-clause-ok : goal.returns-clause-ok
returns-clause-ok c = names_after c

pub invariant_of-self : goal.invariant_of-self
invariant_of-self c =
    subst (λ keys. IsTable (map (λ v. v.items) keys) × AreShortPlaces (map (λ v. v.items) keys) c.self.inside.short) (sym c.in_err-insert.ensures.err) c.self.invariant

pub invariant_of-self-2 : goal.invariant_of-self-2
invariant_of-self-2 c =
    let names : List (List ℕ) = c.args.self.now in
    let name : List ℕ = c.args.name.now in
    let longer : List (List ℕ) = names ++ name ∷ [] in
    let after : map (λ v. v.items) c.insert.new.self.keys ≡ longer = names_after c ∙ ap (λ b. if b then names else longer) c.requires.unknown in
    let table = subst IsTable c.self.view_is c.self.invariant.0 in
    let short = subst (λ ns. AreShortPlaces ns c.self.inside.short) c.self.view_is c.self.invariant.1 in
    let last : c.len-number.result ≡ length names =
    c.len-number.ensures.len ∙ sym (length-map c.self.inside.set.keys (λ v. v.items)) ∙ ap length c.self.view_is in
    let here : get_or longer c.len-number.result [] ≡ name = ap (λ i. get_or longer i []) last ∙ get_or-append_seam names name [] [] in
    let within : c.len-number.result < length longer = omega (arith, last, length-append names (name ∷ [])) in (
      subst IsTable (sym (names_after c)) (IsTable-with_name names name table c.requires.spelled c.requires.room),
      subst (λ ns. AreShortPlaces ns c.keep.new.self) (sym after)
          (c.keep.ensures longer within here (one_name_more names name c.self.inside.short short)),
    )

pub returns-clause-number : goal.returns-clause-number
returns-clause-number c =
    let names = c.args.self.now in
    c.len-number.ensures.len ∙ sym (length-map c.self.inside.set.keys (λ v. v.items)) ∙ ap length c.self.view_is ∙ sym (place_of-new names c.args.name.now c.requires.unknown)

pub returns-clause-table : goal.returns-clause-table
returns-clause-table c =
    let table = subst IsTable c.self.view_is c.self.invariant.0 in
    subst IsTable (sym (names_after c)) (IsTable-with_name c.args.self.now c.args.name.now table c.requires.spelled c.requires.room)
