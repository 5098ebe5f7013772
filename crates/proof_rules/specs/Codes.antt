-- The code of a state, by which a proof tells states apart.
use Rattle.std.specs.Prelude.{◌≡◌, ℕ, ℤ, Bool, true, false, List, Option, Some, None, refl}
use Rattle.std.specs.Coded.{Coded, code_by, coded×, coded_ℕ, coded_ℤ, coded_bool, coded_list, coded_option}
use Rattle.std.specs.FinMap as map
use Rattle.std.specs.FinSet as set
use Rattle.std.specs.Ordering.{nat_cmp}
use Rattle.linear.specs.declared.term.Var.{Var}
use Rattle.normal_form.specs.Codes.{constraint_code}
use Rattle.normal_form.specs.Normal.{NormalConstraint}
use Rattle.substitution.specs.declared.image.Image.{Image}
use Rattle.substitution.specs.declared.image.Image.TheVariants as images
use Rattle.substitution.specs.Images.{Images}
use Rattle.proof_rules.specs.State.{State, Block, Live}

-- an image as the number and the sign of its literal, or as a truth value
abbrev split : Image → Option (ℕ × Bool) × Bool
split (images.Lit l) = (Some (l.var.0, l.negated), false)
split images.Zero = (None, false)
split images.One = (None, true)

abbrev join : Option (ℕ × Bool) × Bool → Image
join (Some l, b) = images.Lit (record { var = record { 0 = l.0 }; negated = l.1 })
join (None, true) = images.One
join (None, false) = images.Zero

pub joined : (i : Image) → join (split i) ≡ i
joined (images.Lit l) = refl
joined images.Zero = refl
joined images.One = refl

abbrev image_code : Coded Image
image_code = code_by (Option (ℕ × Bool) × Bool) (coded× (coded_option (coded× coded_ℕ coded_bool)) coded_bool) split join joined

abbrev var_code : Coded Var
var_code = code_by ℕ coded_ℕ (λ v. v.0) (λ n. record { 0 = n }) (λ _. refl)

abbrev pub images_code : Coded Images
images_code = coded_list (coded× var_code image_code)

-- a block as the tuple of its fields
abbrev pub block_code : Coded Block
block_code =
    code_by (NormalConstraint × (Images × (ℕ × (set.FinSet nat_cmp × (Bool × (Bool × Option ℕ))))))
    (coded× constraint_code (coded× images_code (coded× coded_ℕ (coded× (set.code coded_ℕ) (coded× coded_bool (coded× coded_bool (coded_option coded_ℕ)))))))
    (λ k. (k.constraint, (k.images, (k.first, (k.opened, (k.itself, (k.objective, k.goal)))))))
    (λ p. record {
      constraint = p.0;
      images = p.1.0;
      first = p.1.1.0;
      opened = p.1.1.1.0;
      itself = p.1.1.1.1.0;
      objective = p.1.1.1.1.1.0;
      goal = p.1.1.1.1.1.1;
    })
    (λ _. refl)

-- a state as the tuple of its fields
abbrev pub state_code : Coded State
state_code =
    code_by (Live × (ℕ × (Option ℤ × (List (List Bool) × Option Block))))
    (coded× (map.code coded_ℕ constraint_code) (coded× coded_ℕ (coded× (coded_option coded_ℤ) (coded× (coded_list (coded_list coded_bool)) (coded_option block_code)))))
    (λ s. (s.live, (s.next, (s.least, (s.logged, s.block)))))
    (λ p. record { live = p.0; next = p.1.0; least = p.1.1.0; logged = p.1.1.1.0; block = p.1.1.1.1 })
    (λ _. refl)
