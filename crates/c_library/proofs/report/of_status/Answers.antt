-- A name of zeros is padded from its front on.
use Rattle.std.proofs.Common.{◌≡◌, ℕ, zero, suc, List, [], ◌∷◌, get_or, refl}
use Rattle.c_library.proofs.report.of_status.Goals as goal

abbrev zeros : ℕ → List ℕ
zeros zero = []
zeros (suc n) = 0 ∷ zeros n

zero_at : (n i : ℕ) → get_or (zeros n) i 0 ≡ 0
zero_at zero zero = refl
zero_at zero (suc i) = refl
zero_at (suc n) zero = refl
zero_at (suc n) (suc i) = zero_at n i

pub returns-clause-fault : goal.returns-clause-fault
returns-clause-fault c = (refl, refl, λ i low high. zero_at 32 i)
