-- What a fault says, carried from one thing that is read to another.
use Rattle.std.proofs.Common.{◌≡◌, ℕ, Bool, false, List, sym, subst}
use Rattle.proof_text.specs.Words.{AreSmall}
use Rattle.proof_text.specs.Faults.{AreTooMany, DeniesBy}
use Rattle.proof_text.specs.PartsDenied.{Denies, IsForm}
use Rattle.proof_text.specs.declared.fault.ProofFault.{ProofFault}
use Rattle.proof_text.specs.declared.fault.ProofFault.TheVariants as faults

-- a fault of form
pub form_denied : (f : ProofFault) (Nothing Something : Type 0) (counting all : List (List ℕ)) → IsForm f → Nothing → DeniesBy f Nothing Something counting all
form_denied faults.BadHeader N S counting all h n = absurd h
form_denied faults.BadCount N S counting all h n = absurd h
form_denied faults.UnknownRule N S counting all h n = n
form_denied faults.RuleLeftOut N S counting all h n = n
form_denied faults.BadLine N S counting all h n = n
form_denied faults.Truncated N S counting all h n = absurd h
form_denied faults.TextAfterEnd N S counting all h n = absurd h
form_denied faults.IntegerTooLarge N S counting all h n = absurd h
form_denied faults.OutOfMemory N S counting all h n = absurd h
form_denied faults.TooManyIds N S counting all h n = absurd h

-- a fault of a part of the words
pub part_denied : (f : ProofFault) (form : Bool) (part : List (List ℕ)) (Nothing Something : Type 0) (counting all : List (List ℕ)) → (form ≡ false → Nothing) → (AreSmall counting → AreSmall part) → Denies f form part
    → DeniesBy f Nothing Something counting all
part_denied faults.BadHeader form part N S counting all g s d = d
part_denied faults.BadCount form part N S counting all g s d = d
part_denied faults.UnknownRule form part N S counting all g s d = g d
part_denied faults.RuleLeftOut form part N S counting all g s d = g d
part_denied faults.BadLine form part N S counting all g s d = g d
part_denied faults.Truncated form part N S counting all g s d = d
part_denied faults.TextAfterEnd form part N S counting all g s d = d
part_denied faults.IntegerTooLarge form part N S counting all g s d = λ small. d (s small)
part_denied faults.OutOfMemory form part N S counting all g s d = d
part_denied faults.TooManyIds form part N S counting all g s d = absurd d

-- a fault of the same words, read as something else
pub same_denied : (f : ProofFault) (Nothing Something None Some : Type 0) (counting all words table : List (List ℕ)) → (Nothing → None) → (Something → Some) → counting ≡ words → all ≡ table
    → DeniesBy f Nothing Something counting all → DeniesBy f None Some words table
same_denied faults.BadHeader N S M T counting all words table g h e t d = d
same_denied faults.BadCount N S M T counting all words table g h e t d = d
same_denied faults.UnknownRule N S M T counting all words table g h e t d = g d
same_denied faults.RuleLeftOut N S M T counting all words table g h e t d = g d
same_denied faults.BadLine N S M T counting all words table g h e t d = g d
same_denied faults.Truncated N S M T counting all words table g h e t d = d
same_denied faults.TextAfterEnd N S M T counting all words table g h e t d = d
same_denied faults.IntegerTooLarge N S M T counting all words table g h e t d = λ small. d (subst AreSmall (sym e) small)
same_denied faults.OutOfMemory N S M T counting all words table g h e t d = d
same_denied faults.TooManyIds N S M T counting all words table g h e t d = (subst AreSmall e d.0, h d.1, subst AreTooMany t d.2)
