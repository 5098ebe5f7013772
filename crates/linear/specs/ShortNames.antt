-- The places that a table of names keeps for the numbers of short names.
use Rattle.std.specs.Prelude.{◌≡◌, ℕ, suc, ◌<◌, List, [], length, get_or}
pub use Rattle.pb_text.specs.ShortName.{number_from, IsDigit, IsShort}

-- the place that is kept for a number; 0 stands for none, and so does the end of the list
abbrev pub IsKeptAt : List ℕ → ℕ → ℕ → Type 0
IsKeptAt places number place = get_or places number 0 ≡ suc place

-- what is kept is right: at the place stands the name of that number
abbrev pub AreShortPlaces : List (List ℕ) → List ℕ → Type 0
AreShortPlaces names places = (number place : ℕ) → IsKeptAt places number place → (place < length names) × IsShort (get_or names place []) number
