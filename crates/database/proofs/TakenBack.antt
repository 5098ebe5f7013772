-- A constraint that was put in and taken out again leaves all as it was.
use Rattle.std.proofs.Common.{◌≡◌, ◌≢◌, ℕ, ◌+◌, ◌-◌, ◌<◌, ◌==◌, Bool, true, false, cond, Some, None, Result, Ok, Err, OnErr, refl, sym, ap, ◌∙◌, arith}
use Rattle.std.specs.Result.{is_err}
use Rattle.std.proofs.lemmas.Bool.{false≢true}
use Rattle.std.proofs.lemmas.Bool.Decides.{nat_tests}
use Rattle.std.proofs.lemmas.Cmp.{nat_cmp_total}
use Rattle.std.specs.Cmp.{unsigned_tied}
use Rattle.std.specs.FinMap as fin
use Rattle.std.specs.Ordering.{nat_cmp, eq_by_cmp}
use Rattle.normal_form.specs.Normal.{NormalConstraint}
use Rattle.proof_rules.specs.State.{Live, AreNumbered}
use Rattle.proof_rules.proofs.LiveConstraints.{key_of}
use Rattle.proof_rules.proofs.Numbering.{next_free}
use Rattle.database.specs.Database.{Constraints, pushed, taken_back}

other_key : (k q : ℕ) → eq_by_cmp nat_cmp k q ≡ false → k ≢ q
other_key k q h same = let tests : (k == q) ≡ false = sym (unsigned_tied k q) ∙ h in grind (arith, nat_tests)

-- what is left after a removal has another key
pub left_over : (live : Live) (k q : ℕ) (m : NormalConstraint) → fin.get (fin.remove live k) q ≡ Some m → (q ≢ k) × (fin.get live q ≡ Some m)
left_over live k q m is = by (eq_by_cmp nat_cmp q k) refl (sym (fin.get-remove nat_cmp_total live k q) ∙ is)
  where
    by : (b : Bool) → eq_by_cmp nat_cmp q k ≡ b → cond b None (fin.get live q) ≡ Some m → (q ≢ k) × (fin.get live q ≡ Some m)
    by true same h = absurd (cc)
    by false other h = (other_key q k other, h)

pub numbered_back : (live : Live) (next : ℕ) → AreNumbered live next → 1 < next → AreNumbered (fin.remove live (next - 1)) (next - 1)
numbered_back live next h more = record {
  first = omega (arith, more);
  last = omega (arith, h.last);
  within = λ id m is. let left = left_over live (next - 1) id m is in let old = h.within id m left.1 in (old.0, omega (arith, old.1, left.0));
}

same_after : (live : Live) (next q : ℕ) (n : NormalConstraint) → fin.get live next ≡ None → (b : Bool) → eq_by_cmp nat_cmp q next ≡ b → cond b None (cond b (Some n) (fin.get live q)) ≡ fin.get live q
same_after live next q n free true same = sym (ap (fin.get live) (key_of q next same) ∙ free)
same_after live next q n free false other = refl

back : (live : Live) (next : ℕ) (n : NormalConstraint) → AreNumbered live next → fin.remove (fin.insert live next n) next ≡ live
back live next n h =
    fin.same_map nat_cmp_total fin.nat_cmp-IsAntisymmetric (fin.remove (fin.insert live next n) next) live (λ q.
    fin.get-remove nat_cmp_total (fin.insert live next n) next q
    ∙ ap (λ o. cond (eq_by_cmp nat_cmp q next) None o) (fin.get-insert nat_cmp_total live next n q)
    ∙ same_after live next q n (next_free live next next h (omega arith)) (eq_by_cmp nat_cmp q next) refl)

pub pushed_back : (d : Constraints) (n : NormalConstraint) → AreNumbered d.live d.next → taken_back (pushed n d) ≡ d
pushed_back d n h =
    let last : (d.next + 1) - 1 ≡ d.next = omega arith in
    ap (λ (k : ℕ). record { live = fin.remove (fin.insert d.live d.next n) k; next = k }) last ∙ ap (λ (l : Live). record { live = l; next = d.next }) (back d.live d.next n h)

-- what an error says of the value afterwards
pub of_err : {T E : Type 0} (P : Type 0) (r : Result T E) → true ≡ is_err r → OnErr r P → P
of_err P (Ok x) h p = absurd (false≢true (sym h))
of_err P (Err e) h p = p
