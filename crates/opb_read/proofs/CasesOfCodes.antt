-- What a code says, by its kind.
use Rattle.opb_read.specs.declared.fault.OpbCode.{OpbCode}
use Rattle.opb_read.specs.declared.fault.OpbCode.TheVariants.{BadToken, NoRelation, NoSemicolon, BadName, ObjectiveLate, UnsupportedForm, IntegerTooLarge, TooMany, OutOfMemory}
use Rattle.opb_read.specs.Codes.{Tells, IsForm}

pub form_told : (code : OpbCode) (F L M : Type 0) → IsForm code → Tells code F L M → F
form_told BadToken F L M h f = f
form_told NoRelation F L M h f = f
form_told NoSemicolon F L M h f = f
form_told BadName F L M h f = f
form_told ObjectiveLate F L M h f = f
form_told UnsupportedForm F L M h f = f
form_told IntegerTooLarge F L M h f = absurd h
form_told TooMany F L M h f = absurd h
form_told OutOfMemory F L M h f = absurd h

pub tells_more : (code : OpbCode) (F L M G N P : Type 0) → (F → G) → (L → N) → (M → P) → Tells code F L M → Tells code G N P
tells_more BadToken F L M G N P f l m h = f h
tells_more NoRelation F L M G N P f l m h = f h
tells_more NoSemicolon F L M G N P f l m h = f h
tells_more BadName F L M G N P f l m h = f h
tells_more ObjectiveLate F L M G N P f l m h = f h
tells_more UnsupportedForm F L M G N P f l m h = f h
tells_more IntegerTooLarge F L M G N P f l m h = l h
tells_more TooMany F L M G N P f l m h = m h
tells_more OutOfMemory F L M G N P f l m h = tt
