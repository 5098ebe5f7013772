-- How images are found: the private functions of a substitution speak of this.
use Rattle.std.specs.Prelude.{◌≡◌, ◌≢◌, ℕ, ◌<◌, Box, Option, IfSome, box_value, nat_eq, slice_index_or, unwrap_or}
use Rattle.std.specs.HashMap.{HashMap, get}
use Rattle.linear.specs.declared.term.Var.{Var}
use Rattle.substitution.specs.declared.image.Image.{Image}
use Rattle.substitution.specs.Images.{Images, image_of, itself}

-- a table has the images by the numbers of their variables
abbrev pub IsTableOf : {S : Type 0} → Images → HashMap ℕ Image S → Type 0
IsTableOf images table = (v : ℕ) → unwrap_or (get nat_eq table v) (itself v) ≡ image_of images v

-- where there is a table, it has the images
abbrev pub IsTableIfSome : {S Z : Type 0} → Images → Option (Box (HashMap ℕ Image S) Z) → Type 0
IsTableIfSome images table = IfSome table (λ b. IsTableOf images (box_value b))

-- none of the first so many images is of the variable
abbrev pub StandsNotBefore : Images → ℕ → ℕ → Type 0
StandsNotBefore images end v = (i : ℕ) (d : Var × Image) → i < end → (slice_index_or images i d).0.0 ≢ v

-- no two of the first so many images are of one variable
abbrev pub AreApartBefore : Images → ℕ → Type 0
AreApartBefore images end = (j : ℕ) (d : Var × Image) → j < end → StandsNotBefore images j ((slice_index_or images j d).0.0)
