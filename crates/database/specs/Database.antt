-- Live constraints by their ids, and the id that the next one takes.
use Rattle.std.specs.Prelude.{ℕ, ◌+◌, ◌-◌, ◌||◌, nat_lt, nat_le, ℤ, Option, refl}
use Rattle.std.specs.Coded.{Coded, code_by, coded×, coded_ℕ}
use Rattle.std.specs.FinMap as map
use Rattle.normal_form.specs.Normal.{NormalConstraint}
use Rattle.normal_form.specs.Codes.{constraint_code}
use Rattle.proof_rules.specs.State.{Live, id_of}

pub record Constraints : Type 0 where
  pub live : Live
  pub next : ℕ

abbrev pub constraints_code : Coded Constraints
constraints_code =
    code_by (Live × ℕ) (coded× (map.code coded_ℕ constraint_code) coded_ℕ)
    (λ d. (d.live, d.next)) (λ p. record { live = p.0; next = p.1 }) (λ _. refl)

-- one more constraint, under the next id
abbrev pub pushed : NormalConstraint → Constraints → Constraints
pushed n d = record { live = map.insert d.live d.next n; next = d.next + 1 }

-- without the constraint of an id
abbrev pub removed : ℕ → Constraints → Constraints
removed id d = record { live = map.remove d.live id; next = d.next }

-- without the newest constraint, whose id is the next one again
abbrev pub taken_back : Constraints → Constraints
taken_back d = record { live = map.remove d.live (d.next - 1); next = d.next - 1 }

-- without the constraints of the ids from one on and below another
abbrev pub without_between : ℕ → ℕ → Constraints → Constraints
without_between first end d = record { live = map.retain_keys d.live (λ k. nat_lt k first || nat_le end k); next = d.next }

-- the constraint that a number in a step means, if there is one
abbrev pub found : Constraints → ℤ → Option NormalConstraint
found d id = map.get d.live (id_of d.next id)
