-- A part of a constraint: its terms of some variables, with the same degree. What a substitution makes of a constraint
-- is told by the part of the variables that the substitution names, since all other terms stay as they are.
use Rattle.std.specs.Prelude.{◌≡◌, ◌<◌, ℕ, Bool, true, List, [], ◌∷◌, ◌++◌, All, ◌==◌, if◌then◌else◌}
use Rattle.std.specs.List.{list_any}
use Rattle.linear.specs.declared.term.Var.{Var}
use Rattle.normal_form.specs.declared.term.NormalTerm.{NormalTerm}
use Rattle.normal_form.specs.Normal.{NormalConstraint, coefficient, only, sum_over, Rises}
use Rattle.substitution.specs.declared.image.Image.{Image}
use Rattle.substitution.specs.declared.image.Image.TheVariants.{Lit, Zero, One}
use Rattle.substitution.specs.Images.{Images}

-- the variable of an image that is a literal
abbrev pub image_names : Image → List ℕ
image_names (Lit l) = l.var.0 ∷ []
image_names Zero = []
image_names One = []

-- a variable that is given an image, and that of the image
abbrev pub pair_names : Var × Image → List ℕ
pair_names p = p.0.0 ∷ image_names p.1

-- the variables that a substitution names
abbrev pub names : Images → List ℕ
names [] = []
names (p ∷ ps) = pair_names p ++ names ps

-- a variable is one of some
abbrev pub is_among : List ℕ → ℕ → Bool
is_among variables v = list_any (λ x. v == x) variables

-- the variable of an image, if it is a literal, is one of some
abbrev pub IsImageAmong : List ℕ → Image → Type 0
IsImageAmong variables (Lit l) = is_among variables (l.var.0) ≡ true
IsImageAmong variables Zero = Unit {0}
IsImageAmong variables One = Unit {0}

-- so are all variables that a substitution names
abbrev pub AreAmong : List ℕ → Images → Type 0
AreAmong variables images = All (λ p. (is_among variables (p.0.0) ≡ true) × IsImageAmong variables p.1) images

-- the term of a variable
pub record IsTermOf (n : NormalConstraint) (v : ℕ) (t : NormalTerm) : Type 0 where
  pub variable : t.var.0 ≡ v
  pub counts : 0 < t.coef
  pub coefficients : (s : Bool) → coefficient n v s ≡ sum_over (only v s) (t ∷ [])

-- `m` is the part of `n` of some variables
pub record IsPart (n : NormalConstraint) (variables : List ℕ) (m : NormalConstraint) : Type 0 where
  pub coefficients : (v : ℕ) (s : Bool) → coefficient m v s ≡ (if is_among variables v then coefficient n v s else 0)
  pub degree : m.degree ≡ n.degree
  pub rises : Rises 0 m.terms
