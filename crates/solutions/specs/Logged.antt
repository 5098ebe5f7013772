-- What a proof has logged.
use Rattle.std.specs.Prelude.{ℤ, Bool, List, [], ◌∷◌, ◌++◌, Option, None, Some, refl}
use Rattle.std.specs.Coded.{Coded, code_by, coded×, coded_ℤ, coded_bool, coded_list, coded_option}

pub record Logged : Type 0 where
  -- the solutions, the first one first
  pub logged : List (List Bool)
  -- the least value of an improving solution, if there is one
  pub least : Option ℤ

abbrev pub logged_code : Coded Logged
logged_code =
    code_by (List (List Bool) × Option ℤ) (coded× (coded_list (coded_list coded_bool)) (coded_option coded_ℤ))
    (λ l. (l.logged, l.least)) (λ p. record { logged = p.0; least = p.1 }) (λ _. refl)

-- nothing so far
abbrev pub unlogged : Logged
unlogged = record { logged = []; least = None }

-- with one more solution
abbrev pub with_logged : List Bool → Logged → Logged
with_logged g l = record l { logged = l.logged ++ g ∷ [] }

-- with one more solution, which improves to a value
abbrev pub with_improved : List Bool → ℤ → Logged → Logged
with_improved g value l = record { logged = l.logged ++ g ∷ []; least = Some value }
