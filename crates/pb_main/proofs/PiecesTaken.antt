-- Bytes that are pushed piece by piece are taken in order, each once.
use Rattle.std.proofs.Common.{◌≡◌, ℕ, ◌+◌, ◌-◌, ◌≤◌, List, [], ◌++◌, Option, Some, None, length, take, drop, length-drop, refl, sym, ap, subst, ◌∙◌, append_assoc, append-nil, arith, Result, Ok, Err, OnErr}
use Rattle.std.proofs.Math.Seq.{take-append-add}
use Rattle.std.proofs.lemmas.List.{take-append-drop, length-take, take_all}
use Rattle.pb_text.specs.Devices.{FailsToTake, SinkState, Takes, followed_by}
use Rattle.pb_main.specs.Pushed.{HasTaken, HasTakenPart}

-- nothing behind what was taken changes nothing
pub followed_by_nothing : (before : Option (List ℕ)) → before ≡ followed_by before []
followed_by_nothing (Some bytes) = ap (λ b. Some b) (sym (append-nil bytes))
followed_by_nothing None = refl

-- one piece behind another is both
pub followed_twice :
    (before : Option (List ℕ)) (first second : List ℕ)
    → followed_by (followed_by before first) second ≡ followed_by before (first ++ second)
followed_twice (Some bytes) first second = ap (λ b. Some b) (append_assoc bytes first second)
followed_twice None first second = refl

-- so many of the next bytes behind the first ones are so many more of the first ones
take_sum : (bytes : List ℕ) (i count : ℕ) → i ≤ length bytes → take i bytes ++ take count (drop i bytes) ≡ take (i + count) bytes
take_sum bytes i count within =
    let long : length (take i bytes) ≡ i = length-take i bytes ∙ omega arith in
    sym (take-append-add (take i bytes) (drop i bytes) count)
    ∙ ap (λ n. take (n + count) (take i bytes ++ drop i bytes)) long
    ∙ ap (λ xs. take (i + count) xs) (take-append-drop i bytes)

-- before the first push nothing has been taken
pub taken_none : (s : SinkState) → HasTaken [] s s
taken_none s = record { taken = followed_by_nothing s.taken; failures = refl }

-- what is offered behind the first bytes are all the others
pub offered : (bytes : List ℕ) (i : ℕ) → take (length bytes - i) (drop i bytes) ≡ drop i bytes
offered bytes i = let long = length-drop i bytes in take_all (length bytes - i) (drop i bytes) (omega arith)

-- a push of the others takes so many bytes more
pub taken_more :
    (bytes piece : List ℕ) (i count : ℕ) (old between new : SinkState) → i ≤ length bytes → piece ≡ drop i bytes
    → count ≤ length piece → HasTaken (take i bytes) old between → Takes between new piece (take count piece)
    → (i + count ≤ length bytes) × HasTaken (take (i + count) bytes) old new
taken_more bytes piece i count old between new within is fits before takes =
    let long : length piece ≡ length bytes - i = ap length is ∙ length-drop i bytes in
    let same : take count piece ≡ take count (drop i bytes) = ap (λ xs. take count xs) is in (
      omega arith,
      record {
        taken =
            takes.taken ∙ ap (λ s. followed_by s (take count piece)) before.taken
            ∙ followed_twice old.taken (take i bytes) (take count piece)
            ∙ ap (λ xs. followed_by old.taken (take i bytes ++ xs)) same
            ∙ ap (λ xs. followed_by old.taken xs) (take_sum bytes i count within);
        failures = takes.failures ∙ before.failures;
      },
    )

-- a push fails behind so many bytes
pub taken_part :
    (bytes : List ℕ) (i : ℕ) (old between new : SinkState) → HasTaken (take i bytes) old between → FailsToTake between new
    → HasTakenPart bytes old new
taken_part bytes i old between new before fails =
    record {
      begun = take i bytes;
      rest = drop i bytes;
      beginning = sym (take-append-drop i bytes);
      taken = fails.taken ∙ before.taken;
      failures = fails.failures ∙ ap (λ n. n + 1) before.failures;
    }

-- all of the bytes are taken where no more of them are left
pub taken_whole :
    (bytes : List ℕ) (i : ℕ) (old new : SinkState) → length bytes ≤ i → HasTaken (take i bytes) old new → HasTaken bytes old new
taken_whole bytes i old new all before = subst (λ xs. HasTaken xs old new) (take_all i bytes all) before

-- what is known anyway is known where there is an error
pub of_error : {T E P : Type 0} (r : Result T E) → P → OnErr r P
of_error (Ok value) known = tt
of_error (Err error) known = known
