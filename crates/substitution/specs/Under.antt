-- A constraint under a substitution: the normal form of its terms with images put in.
use Rattle.std.specs.Prelude.{◌≡◌, ◌≢◌, ℤ, pos, ◌+ℤ◌, ◌-ℤ◌, Bool, List, [], ◌∷◌, ◌++◌, All, map, if◌then◌else◌}
use Rattle.linear.specs.declared.term.Term.{Term}
use Rattle.linear.specs.declared.constraint.Relation.TheVariants.{AtLeast}
use Rattle.linear.specs.declared.constraint.Signed.{Signed}
use Rattle.normal_form.specs.declared.term.NormalTerm.{NormalTerm}
use Rattle.normal_form.specs.Normal.{NormalConstraint}
use Rattle.normal_form.specs.NormalOf.{IsNormalOf}
use Rattle.substitution.specs.declared.image.Image.{Image}
use Rattle.substitution.specs.declared.image.Image.TheVariants.{Lit, Zero, One}
use Rattle.substitution.specs.Images.{Images, image_of_literal, opposite_image}

-- a coefficient at an image: a term where the image is a literal, nothing where it is 0 or 1
abbrev pub term_at : ℤ → Image → List Term
term_at coef (Lit l) = record { coef = coef; var = l.var; negated = l.negated } ∷ []
term_at coef Zero = []
term_at coef One = []

-- what a coefficient at an image adds whatever the assignment: itself where the image is 1
abbrev pub constant_at : ℤ → Image → ℤ
constant_at coef (Lit l) = pos 0
constant_at coef Zero = pos 0
constant_at coef One = coef

-- the terms with images put in, but for what is constant
abbrev pub terms_under : Images → List Term → List Term
terms_under images [] = []
terms_under images (t ∷ ts) = term_at t.coef (image_of_literal images (t.var.0) t.negated) ++ terms_under images ts

-- what is constant of the terms with images put in
abbrev pub constant_under : Images → List Term → ℤ
constant_under images [] = pos 0
constant_under images (t ∷ ts) = constant_at t.coef (image_of_literal images (t.var.0) t.negated) +ℤ constant_under images ts

-- a term of a normal constraint as a signed one
abbrev pub signed_term : NormalTerm → Term
signed_term t = record { coef = pos t.coef; var = t.var; negated = t.negated }

-- a constraint with images put in, before it is brought into normal form: images 1 take their coefficients off the
-- right side
abbrev pub substituted : NormalConstraint → Images → Signed
substituted n images = record {
  terms = terms_under images (map signed_term n.terms);
  relation = AtLeast;
  right = pos n.degree -ℤ constant_under images (map signed_term n.terms);
}

-- `r` is `n` under the substitution
abbrev pub IsUnder : NormalConstraint → Images → NormalConstraint → Type 0
IsUnder n images r = IsNormalOf (substituted n images) r

-- the constraint has no variable that is given an image
abbrev pub IsUntouched : NormalConstraint → Images → Type 0
IsUntouched n images = All (λ t. All (λ p. p.0.0 ≢ t.var.0) images) n.terms

-- what an image of a variable makes of its literal: of `~x` the opposite
abbrev pub signed_image : Image → Bool → Image
signed_image i negated = if negated then opposite_image i else i

-- each literal of the constraint that is given an image is given 1, if any
abbrev pub IsBettered : NormalConstraint → Images → Type 0
IsBettered n images = All (λ t. All (λ p. p.0.0 ≡ t.var.0 → signed_image p.1 t.negated ≡ One) images) n.terms
