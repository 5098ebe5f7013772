-- Of the code, not of the format: how the parts of a line are read, one after another, their names met on the way.
use Rattle.std.specs.Prelude.{◌≡◌, ℕ, true, Some, ◌<◌, ◌++◌, List, [], ◌∷◌, length}
use Rattle.substitution.specs.declared.image.Image.{Image}
use Rattle.proof_text.specs.Words.{IsSmall, AreSmall}
use Rattle.proof_text.specs.Forms.{is_image, image_of}
use Rattle.linear.specs.declared.constraint.Signed.{Signed}
use Rattle.proof_text.specs.NamesMet.{NamesMet, met_in}
use Rattle.proof_text.specs.Steps.{constraint_of}

-- The words `left` begin with the part `x`, and then stand `rest`. The part is numbered by any table that has met all
-- the words, and perhaps `more`.
pub record Takes {F X : Type 0} (form : List (List ℕ) → F) (values : List (List ℕ) → List (List ℕ) → List X) (k : NamesMet) (left : List (List ℕ)) (x : X) (new : NamesMet) (rest : List (List ℕ)) : Type 0 where
  pub same : form left ≡ form rest
  pub first : (more : List (List ℕ)) → values (met_in (met_in k left) more).names left ≡ x ∷ values (met_in (met_in k left) more).names rest
  pub known : met_in k left ≡ met_in new rest
  pub small : AreSmall rest → AreSmall left
  pub later : AreSmall left → AreSmall rest
  pub shorter : length rest < length left

-- the parts so far and those ahead are the parts of the whole
pub record SoFar {F X : Type 0} (form : List (List ℕ) → F) (values : List (List ℕ) → List (List ℕ) → List X) (old : NamesMet) (whole : List (List ℕ)) (done : List X) (k : NamesMet) (left : List (List ℕ)) : Type 0 where
  pub same : form left ≡ form whole
  pub parts : (more : List (List ℕ)) → done ++ values (met_in (met_in old whole) more).names left ≡ values (met_in (met_in old whole) more).names whole
  pub known : met_in k left ≡ met_in old whole
  pub small : AreSmall left → AreSmall whole
  pub later : AreSmall whole → AreSmall left
  pub before : k.before ≡ old.before

-- The words have the form, and these are their parts, numbered by any table that has met all the words, and perhaps
-- `more`.
pub record IsRead {F X : Type 0} (form : List (List ℕ) → F) (values : List (List ℕ) → List (List ℕ) → List X) (k : NamesMet) (ws : List (List ℕ)) (xs : List X) (new : NamesMet) : Type 0 where
  pub same : form ws ≡ form []
  pub parts : (more : List (List ℕ)) → xs ≡ values (met_in new more).names ws
  pub known : new ≡ met_in k ws
  pub small : AreSmall ws

-- a word is this image, numbered by any table that has met it, and perhaps `more`
pub record IsImageRead (k : NamesMet) (w : List ℕ) (i : Image) (new : NamesMet) : Type 0 where
  pub form : is_image w ≡ true
  pub value : (more : List (List ℕ)) → i ≡ image_of (met_in new more).names w
  pub known : new ≡ met_in k (w ∷ [])
  pub small : IsSmall w

-- the words are this constraint, its variables numbered by any table that has met them, and perhaps `more`
pub record IsConstraintRead (k : NamesMet) (ws : List (List ℕ)) (c : Signed) (new : NamesMet) : Type 0 where
  pub says : (more : List (List ℕ)) → constraint_of (met_in new more).names ws ≡ Some c
  pub known : new ≡ met_in k ws
  pub small : AreSmall ws
