-- Words drawn on cells of other lengths.
use Rattle.std.specs.Prelude.{◌≡◌, ◌≤◌, ◌<◌, ℕ, suc, ◌+◌, ◌-◌, ◌*◌, ◌/◌, Bool, false, List, [], ◌∷◌, ◌++◌, replicate}
use Rattle.vbi_near.specs.Common.{System, Ntsc, Pal, width_of, Slicing, halves_of, drawn_as, Samples, most_of}
use Rattle.vbi_near.specs.Common.{distance_of, Shades}
use Rattle.vbi_near.specs.Sums.{span}

-- ---- rows

-- the columns from a word's start to half cell j, if its cells have this many hundredths of their length: a half cell
-- of one microsecond has 315/22 samples, or 709379/40000
abbrev pub stretched_offset : System → ℕ → ℕ → ℕ
stretched_offset Ntsc rate j = j * 315 * rate / 2200
stretched_offset Pal rate j = j * 709379 * rate / 4000000

-- the columns of half cell j
abbrev pub stretched_half : System → ℕ → ℕ → ℕ
stretched_half system rate j = stretched_offset system rate (suc j) - stretched_offset system rate j

-- the columns of a word
abbrev pub stretched_length : System → ℕ → ℕ
stretched_length system rate = stretched_offset system rate 48

-- the levels of these half cells, of which the first is half cell j, if each has this many columns
unfoldable pub halves_with : (ℕ → ℕ) → ℕ → List Bool → List Bool
halves_with columns j [] = []
halves_with columns j (half ∷ halves) = replicate (columns j) half ++ halves_with columns (suc j) halves

-- the levels of the row of a word that begins at `start` on cells of this rate, low before and after it
unfoldable pub stretched_picture : System → ℕ → ℕ → ℕ → List Bool
stretched_picture system rate word start =
    replicate start false
    ++ (halves_with (stretched_half system rate) 0 (halves_of word)
    ++ replicate (width_of system - (start + stretched_length system rate)) false)

-- a rate of 98 to 102 hundredths, and a start from which a word of this rate fits
abbrev pub IsStretchedPlace : System → ℕ → ℕ → Type 0
IsStretchedPlace system rate start =
    (98 ≤ rate) × (rate ≤ 102) × (start + stretched_length system rate ≤ width_of system)

-- the least distance at some rates and starts
pub record IsLeastAt (IsThere : ℕ → ℕ → Type 0) (far : ℕ → ℕ → ℕ) (distance : ℕ) : Type 0 where
  pub least : (rate start : ℕ) → IsThere rate start → distance ≤ far rate start
  pub one : (rate : ℕ) × (start : ℕ) × IsThere rate start × (far rate start ≡ distance)

-- how far the lines are from the nearest row of this word on cells of 98 to 102 hundredths of their length
abbrev pub IsStretched : System → Slicing → List Samples → ℕ → ℕ → Type 0
IsStretched system slicing lines word distance = IsLeastAt (IsStretchedPlace system)
    (λ rate start. distance_of (most_of slicing) lines (drawn_as slicing (stretched_picture system rate word start)))
    distance

-- ---- by sums

-- what these half cells cost, of which the first is half cell j, if each costs so much of this level
unfoldable pub halves_cost : (ℕ → Bool → ℕ) → ℕ → List Bool → ℕ
halves_cost cost j [] = 0
halves_cost cost j (half ∷ halves) = cost j half + halves_cost cost (suc j) halves

-- what half cell j costs of this level
abbrev pub stretched_cost : Shades → System → ℕ → ℕ → ℕ → Bool → ℕ
stretched_cost sums system rate start j level =
    span sums level (start + stretched_offset system rate j) (stretched_half system rate j)

-- what a word costs that begins at `start`, with what is low before it, and with all that is low
abbrev pub stretched_word_cost : Shades → System → ℕ → ℕ → ℕ → ℕ
stretched_word_cost sums system word rate start =
    span sums false 0 start + halves_cost (stretched_cost sums system rate start) 0 (halves_of word)

abbrev pub stretched_row_cost : Shades → System → ℕ → ℕ → ℕ → ℕ
stretched_row_cost sums system word rate start =
    stretched_word_cost sums system word rate start
    + span sums false (start + stretched_length system rate)
    (width_of system - (start + stretched_length system rate))

-- this rate, and a start from which a word of it fits
abbrev pub IsAtRate : System → ℕ → ℕ → ℕ → Type 0
IsAtRate system at rate start = (rate ≡ at) × (start + stretched_length system rate ≤ width_of system)

-- this rate, and a start before another
abbrev pub IsStartBefore : ℕ → ℕ → ℕ → ℕ → Type 0
IsStartBefore at end rate start = (rate ≡ at) × (start < end)

-- a rate before another, and a start from which a word of this rate fits
abbrev pub IsRateBefore : System → ℕ → ℕ → ℕ → Type 0
IsRateBefore system end rate start =
    (98 ≤ rate) × (rate < end) × (start + stretched_length system rate ≤ width_of system)
