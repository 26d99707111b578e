-- Signals that go on beyond a word: by one cell more, before its 24 or after them.
use Rattle.std.specs.Prelude.{◌≡◌, ◌≤◌, ◌⊎◌, ℕ, ◌+◌, ◌-◌, Bool, false, List, ◌++◌, replicate, Option, Some, None}
use Rattle.vbi_near.specs.Common.{System, width_of, Slicing, cell_of, halves_of, half_length, word_length, drawn_halves}
use Rattle.vbi_near.specs.Common.{drawn_as, Samples, most_of, distance_of, Shades}
use Rattle.vbi_near.specs.{declared.word_search.Found.Found, declared.near.Near.Near, Sums.total_in, Costs.cell_cost}

-- the columns of one cell more: those of a word's first
abbrev pub cell_length : System → ℕ
cell_length system = half_length system 0 + half_length system 1

-- the levels of the row of a word that begins at `start`, and of one cell before it
unfoldable pub begun_earlier : System → ℕ → ℕ → Bool → List Bool
begun_earlier system word start bit =
    replicate (start - cell_length system) false
    ++ (drawn_halves system 0 (cell_of bit)
    ++ (drawn_halves system 0 (halves_of word) ++ replicate (width_of system - (start + word_length system)) false))

-- the levels of the row of a word that begins at `start`, and of one cell after it
unfoldable pub ended_later : System → ℕ → ℕ → Bool → List Bool
ended_later system word start bit =
    replicate start false
    ++ (drawn_halves system 0 (halves_of word)
    ++ (drawn_halves system 0 (cell_of bit)
    ++ replicate (width_of system - (start + word_length system + cell_length system)) false))

-- the levels of a row on which a word goes on by one cell, a one or a zero, if there is room for it
abbrev pub GoesOn : System → ℕ → ℕ → List Bool → Type 0
GoesOn system word start levels = (bit : Bool)
    × (((cell_length system ≤ start) × (levels ≡ begun_earlier system word start bit))
    ⊎ ((start + word_length system + cell_length system ≤ width_of system)
    × (levels ≡ ended_later system word start bit)))

-- the least distance of these rows
pub record IsLeastRow (IsRow : List Bool → Type 0) (far : List Bool → ℕ) (distance : ℕ) : Type 0 where
  pub least : (levels : List Bool) → IsRow levels → distance ≤ far levels
  pub one : (levels : List Bool) × IsRow levels × (far levels ≡ distance)

-- the least distance of the rows that there are of the word answered, at its start; if there is none, its own distance
abbrev pub HasLeastRow : (ℕ → ℕ → List Bool → Type 0) → (List Bool → ℕ) → Option ℕ → Near → ℕ → Type 0
HasLeastRow IsRow far None near distance = distance ≡ near.distance
HasLeastRow IsRow far (Some word) near distance = IsLeastRow (IsRow word near.start) far distance

-- how far the lines are from the nearest drawn row on which the word answered goes on
abbrev pub IsLonger : System → Slicing → List Samples → Near → Type 0
IsLonger system slicing lines near =
    HasLeastRow (GoesOn system) (λ levels. distance_of (most_of slicing) lines (drawn_as slicing levels)) near.word
    near near.longer

-- ---- by sums

-- a cell more may begin in this column: it ends where the word begins, or begins where the word ends
abbrev pub IsBeside : System → ℕ → ℕ → Type 0
IsBeside system start begin = (begin + cell_length system ≡ start)
    ⊎ ((begin ≡ start + word_length system) × (begin + cell_length system ≤ width_of system))

-- what a distance becomes if a cell that begins in this column is drawn, and no longer black
abbrev pub IsWithCell : Shades → System → ℕ → ℕ → Bool → ℕ → Type 0
IsWithCell sums system distance begin bit far =
    far + total_in sums.dark begin (cell_length system) ≡ distance + cell_cost sums system begin 0 bit

-- the least that the distance of the found word becomes with a cell more
pub record IsLongerFound (sums : Shades) (system : System) (found : Found) (longer : ℕ) : Type 0 where
  pub least : (begin far : ℕ) (bit : Bool) → IsBeside system found.start begin
      → IsWithCell sums system found.distance begin bit far → longer ≤ far
  pub one : (begin : ℕ) × (bit : Bool) × IsBeside system found.start begin
      × IsWithCell sums system found.distance begin bit longer
