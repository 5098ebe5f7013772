-- The images of a substitution, and what they make of an assignment. All images are read at one assignment.
use Rattle.std.specs.Prelude.{◌≢◌, ℕ, ◌<◌, Bool, true, false, not, List, [], ◌∷◌, All, AllPairs, ◌==◌, if◌then◌else◌}
use Rattle.linear.specs.declared.term.Var.{Var}
use Rattle.linear.specs.Valuation.{Valuation, literal_true}
use Rattle.substitution.specs.declared.image.Image.{Image}
use Rattle.substitution.specs.declared.image.Image.TheVariants.{Lit, Zero, One}

-- a list of variables and their images
abbrev pub Images : Type 0
Images = List (Var × Image)

-- no variable stands twice
abbrev pub NamesOnce : Images → Type 0
NamesOnce images = AllPairs (λ p q. p.0.0 ≢ q.0.0) images

-- the variable itself, as an image
abbrev pub itself : ℕ → Image
itself v = Lit (record { var = record { 0 = v }; negated = false })

-- the image of a variable: the variable itself where none is given
abbrev pub image_of : Images → ℕ → Image
image_of [] v = itself v
image_of (p ∷ ps) v = if v == p.0.0 then p.1 else image_of ps v

-- the opposite of an image
abbrev pub opposite_image : Image → Image
opposite_image (Lit l) = Lit (record l { negated = not l.negated })
opposite_image Zero = One
opposite_image One = Zero

-- the image of a literal: of `~x` it is the opposite of the image of `x`
abbrev pub image_of_literal : Images → ℕ → Bool → Image
image_of_literal images v negated = if negated then opposite_image (image_of images v) else image_of images v

-- whether an image is worth 1
abbrev pub image_true : Valuation → Image → Bool
image_true a (Lit l) = literal_true a (l.var.0) l.negated
image_true a Zero = false
image_true a One = true

-- the assignment after a substitution: each variable is true where its image is worth 1 at `a`
abbrev pub after : Valuation → Images → Valuation
after a images v = image_true a (image_of images v)

-- the literal of an image, if it is one, is of a variable below a bound
abbrev pub IsImageBelow : ℕ → Image → Type 0
IsImageBelow bound (Lit l) = l.var.0 < bound
IsImageBelow bound Zero = Unit {0}
IsImageBelow bound One = Unit {0}

-- so are all variables that are given images, and all literals among the images
abbrev pub AreBelow : ℕ → Images → Type 0
AreBelow bound images = All (λ p. (p.0.0 < bound) × IsImageBelow bound p.1) images
