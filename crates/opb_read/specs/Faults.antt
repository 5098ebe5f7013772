-- What a fault says of the text that has it.
use Rattle.std.specs.Prelude.{ℕ, List, codes}
use Rattle.linear.specs.Opb.{Opb}
use Rattle.linear.specs.Limits.{IsWithin}
use Rattle.opb_read.specs.Spells.{Spells}
use Rattle.opb_read.specs.declared.fault.OpbCode.{OpbCode}
use Rattle.opb_read.specs.declared.fault.OpbCode.TheVariants.{BadToken, NoRelation, NoSemicolon, BadName, ObjectiveLate, UnsupportedForm, IntegerTooLarge, TooMany, OutOfMemory}

-- A fault of form: the text spells no problem. A limit that is broken: it spells none within the limits. Running out of
-- memory says nothing.
abbrev pub Denies : OpbCode → List ℕ → Type 0
Denies IntegerTooLarge text = (p : Opb) → Spells text p → IsWithin p → ⊥
Denies TooMany text = (p : Opb) → Spells text p → IsWithin p → ⊥
Denies OutOfMemory text = Unit {0}
Denies _ text = (p : Opb) → Spells text p → ⊥

abbrev pub number_of : OpbCode → ℕ
number_of BadToken = 1
number_of NoRelation = 2
number_of NoSemicolon = 3
number_of BadName = 4
number_of ObjectiveLate = 5
number_of UnsupportedForm = 6
number_of IntegerTooLarge = 7
number_of TooMany = 8
number_of OutOfMemory = 9

abbrev pub name_of_code : OpbCode → List ℕ
name_of_code BadToken = codes "BadToken"
name_of_code NoRelation = codes "NoRelation"
name_of_code NoSemicolon = codes "NoSemicolon"
name_of_code BadName = codes "BadName"
name_of_code ObjectiveLate = codes "ObjectiveLate"
name_of_code UnsupportedForm = codes "UnsupportedForm"
name_of_code IntegerTooLarge = codes "IntegerTooLarge"
name_of_code TooMany = codes "TooMany"
name_of_code OutOfMemory = codes "OutOfMemory"
