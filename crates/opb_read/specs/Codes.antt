-- What a fault says, by its code.
use Rattle.opb_read.specs.declared.fault.OpbCode.{OpbCode}
use Rattle.opb_read.specs.declared.fault.OpbCode.TheVariants.{IntegerTooLarge, TooMany, OutOfMemory}

-- a fault of form says one thing, a number that is too large another, a count that is a third, and running out of memory nothing
abbrev pub Tells : OpbCode → Type 0 → Type 0 → Type 0 → Type 0
Tells IntegerTooLarge form large many = large
Tells TooMany form large many = many
Tells OutOfMemory form large many = Unit {0}
Tells _ form large many = form

-- one of the codes of form
abbrev pub IsForm : OpbCode → Type 0
IsForm IntegerTooLarge = ⊥
IsForm TooMany = ⊥
IsForm OutOfMemory = ⊥
IsForm _ = Unit {0}

-- too many, where this holds, or out of memory
abbrev pub IsTooManyOr : Type 0 → OpbCode → Type 0
IsTooManyOr many TooMany = many
IsTooManyOr many OutOfMemory = Unit {0}
IsTooManyOr many _ = ⊥
