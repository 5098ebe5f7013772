-- An id is at itself, and at no other.
use Rattle.std.proofs.Common.{◌≡◌, ℕ, true, false, arith}
use Rattle.std.specs.BTreeMap.{is_at}
use Rattle.std.specs.Ordering.{nat_cmp}
use Rattle.std.proofs.lemmas.Bool.Decides.{nat_tests}

pub own_id : (k : ℕ) → is_at (nat_cmp k) k ≡ true
own_id k = grind (arith, nat_tests)

pub other_id : (k q : ℕ) → (k ≡ q → ⊥) → is_at (nat_cmp k) q ≡ false
other_id k q h = grind (arith, nat_tests)
