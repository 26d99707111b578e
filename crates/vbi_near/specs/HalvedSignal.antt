-- Signals of which half a word may be missing: rows on which its first twelve cells are black, or its last.
use Rattle.std.specs.Prelude.{◌≡◌, ℕ, ◌+◌, ◌-◌, Bool, true, false, List, min, Option, Some, None}
use Rattle.vbi_near.specs.Common.{System, width_of, Slicing, word_length, drawn_as, Samples, most_of, distance_of}
use Rattle.vbi_near.specs.Common.{Shades}
use Rattle.vbi_near.specs.ShorterSignal.{begun_later, ended_earlier, row_of_halves}
use Rattle.vbi_near.specs.{declared.near.Near.Near, Sums.span, Costs.half_cost, StretchedCells.halves_cost}

-- the half cells of a word of which the first twelve cells are black, or the last
abbrev pub half_of : Bool → ℕ → List Bool
half_of true word = begun_later word 24
half_of false word = ended_earlier word 24

-- the distance of the nearer row of half the word answered; if there is no word, its own
abbrev pub halved_far : System → (List Bool → ℕ) → Option ℕ → Near → ℕ
halved_far system far None near = near.distance
halved_far system far (Some word) near =
    min (far (row_of_halves system near.start (half_of true word)))
    (far (row_of_halves system near.start (half_of false word)))

-- how far the lines are from the nearer row of half the word answered
abbrev pub IsHalved : System → Slicing → List Samples → Near → ℕ → Type 0
IsHalved system slicing lines near halved = halved
    ≡ halved_far system (λ levels. distance_of (most_of slicing) lines (drawn_as slicing levels)) near.word near

-- ---- by sums

-- what a row costs on which 48 half cells are drawn from `start` on, low before and after them
abbrev pub row_cost : Shades → System → ℕ → List Bool → ℕ
row_cost sums system start halves =
    span sums false 0 start + halves_cost (half_cost sums system start) 0 halves
    + span sums false (start + word_length system) (width_of system - (start + word_length system))

abbrev pub halved_cost : Shades → System → Option ℕ → Near → ℕ
halved_cost sums system None near = near.distance
halved_cost sums system (Some word) near =
    min (row_cost sums system near.start (half_of true word)) (row_cost sums system near.start (half_of false word))
