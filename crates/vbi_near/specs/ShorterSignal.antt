-- Signals that are shorter than a word: rows on which its first one or two cells are black, or its last.
use Rattle.std.specs.Prelude.{◌≡◌, ◌⊎◌, ℕ, suc, ◌+◌, ◌-◌, ◌*◌, Bool, false, List, ◌++◌, replicate, take, drop, min}
use Rattle.std.specs.Prelude.{nat_eq}
use Rattle.std.specs.Int.{bit_at}
use Rattle.vbi_near.specs.Common.{System, width_of, Slicing, halves_of, word_length, drawn_halves, drawn_as, Samples}
use Rattle.vbi_near.specs.Common.{most_of, distance_of, Shades}
use Rattle.vbi_near.specs.Costs.{half_cost, cell_cost}
use Rattle.vbi_near.specs.{declared.word_search.Found.Found, declared.near.Near.Near, LongerSignal.HasLeastRow}

-- the half cells of a word of which the first n are low, and of which the last n are
abbrev pub begun_later : ℕ → ℕ → List Bool
begun_later word n = replicate n false ++ drop n (halves_of word)

abbrev pub ended_earlier : ℕ → ℕ → List Bool
ended_earlier word n = take (48 - n) (halves_of word) ++ replicate n false

-- the levels of a row on which 48 half cells are drawn from `start` on, low before and after them
unfoldable pub row_of_halves : System → ℕ → List Bool → List Bool
row_of_halves system start halves =
    replicate start false
    ++ (drawn_halves system 0 halves ++ replicate (width_of system - (start + word_length system)) false)

-- the levels of a row on which a word begins later or ends earlier, by one cell or by two
abbrev pub IsCutShort : System → ℕ → ℕ → List Bool → Type 0
IsCutShort system word start levels =
    (levels ≡ row_of_halves system start (begun_later word 2))
    ⊎ (levels ≡ row_of_halves system start (begun_later word 4))
    ⊎ (levels ≡ row_of_halves system start (ended_earlier word 2))
    ⊎ (levels ≡ row_of_halves system start (ended_earlier word 4))

-- how far the lines are from the nearest drawn row on which the word answered begins later or ends earlier
abbrev pub IsShorter : System → Slicing → List Samples → Near → Type 0
IsShorter system slicing lines near =
    HasLeastRow (IsCutShort system) (λ levels. distance_of (most_of slicing) lines (drawn_as slicing levels)) near.word
    near near.shorter

-- ---- by sums

-- the bit of a word in a cell
abbrev pub bit_in_cell : ℕ → ℕ → Bool
bit_in_cell word cell = nat_eq (bit_at word (23 - cell)) 1

-- what a cell costs that is black
abbrev pub black_cost : Shades → System → ℕ → ℕ → ℕ
black_cost sums system start cell =
    half_cost sums system start (2 * cell) false + half_cost sums system start (suc (2 * cell)) false

-- what a distance becomes if a cell of the word is black
abbrev pub IsWithoutCell : Shades → System → Found → ℕ → ℕ → ℕ → Type 0
IsWithoutCell sums system found cell distance far =
    far + cell_cost sums system found.start cell (bit_in_cell found.word cell)
    ≡ distance + black_cost sums system found.start cell

-- the least that the distance of the found word becomes without one or two cells at either end
abbrev pub IsShorterFound : Shades → System → Found → ℕ → Type 0
IsShorterFound sums system found shorter = (first : ℕ) × (second : ℕ) × (last : ℕ) × (other : ℕ)
    × IsWithoutCell sums system found 0 found.distance first × IsWithoutCell sums system found 1 first second
    × IsWithoutCell sums system found 23 found.distance last × IsWithoutCell sums system found 22 last other
    × (shorter ≡ min (min first second) (min last other))
