-- Assignments at one bit a variable.
use Rattle.std.specs.Prelude.{ℕ, suc, zero, ◌/◌, ◌%◌, ◌==◌, Bool, List, [], ◌∷◌, take}
use Rattle.std.specs.List.{flat_map}

-- the values that so many bits of a word stand for, the lowest one first
unfoldable pub word_values : ℕ → ℕ → List Bool
word_values zero word = []
word_values (suc n) word = (word % 2 == 1) ∷ word_values n (word / 2)

-- the values of an assignment of this length that stands in words of 64 bits
abbrev pub packed_values : List ℕ → ℕ → List Bool
packed_values words length = take length (flat_map (word_values 64) words)
