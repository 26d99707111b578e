-- The nearest word of some lines.
use Rattle.std.specs.Prelude.{◌≡◌, ◌≢◌, ◌≤◌, ◌<◌, ◌⊎◌, ℕ, List, Option, Some, None}
use Rattle.vbi_near.specs.Common.{System, Slicing, IsPlace, picture_of, drawn_as, Samples, most_of, distance_of}
use Rattle.vbi_near.specs.{declared.near.Near.Near, LineCodes.codes_of, LineCodes.IsCodePlace}

-- of all drawn rows at these places, of words or of none, that of this word at this start has the least distance, and
-- `rival` is the least distance of a drawn row of another word, or of none
pub record IsNearestBy (IsThere : Option ℕ → ℕ → Type 0) (far : Option ℕ → ℕ → ℕ) (near : Near) : Type 0 where
  pub place : IsThere near.word near.start
  pub exact : far near.word near.start ≡ near.distance
  pub least : (word : Option ℕ) (start : ℕ) → IsThere word start → near.distance ≤ far word start
  pub rival : (word : Option ℕ) (start : ℕ) → IsThere word start → word ≢ near.word
      → near.rival ≤ far word start
  pub other : (word : Option ℕ) × (start : ℕ) × IsThere word start × (word ≢ near.word)
      × (far word start ≡ near.rival)

-- how far the lines are from the drawn row of a word, or of none
abbrev pub far_from : System → Slicing → List Samples → Option ℕ → ℕ → ℕ
far_from system slicing lines word start =
    distance_of (most_of slicing) lines (drawn_as slicing (picture_of system word start))

-- of all words this is the nearest one of the lines
abbrev pub IsNearest : System → Slicing → List Samples → Near → Type 0
IsNearest system slicing lines near = IsNearestBy (IsPlace system) (far_from system slicing lines) near

-- of the codes that may stand on a line of this number this is the nearest one of the lines
abbrev pub IsNearestCode : System → ℕ → Slicing → List Samples → Near → Type 0
IsNearestCode system line slicing lines near =
    IsNearestBy (IsCodePlace (codes_of system line) system) (far_from system slicing lines) near

-- ---- of drawn rows that are as near, the one answered

-- a start and a word come before others, or are those: the word that begins first, and of words that begin in one
-- column the least
abbrev pub IsBefore : ℕ → ℕ → ℕ → ℕ → Type 0
IsBefore start word at other = (start < at) ⊎ ((start ≡ at) × (word ≤ other))

-- a drawn row comes before others, or is that row: that of no word comes before any other
abbrev pub Precedes : Option ℕ → ℕ → Option ℕ → ℕ → Type 0
Precedes None start other at = Unit {0}
Precedes (Some word) start None at = ⊥
Precedes (Some word) start (Some other) at = IsBefore start word at other

-- of all drawn rows at these places that are as near, the one answered comes first
pub record IsFirstBy (IsThere : Option ℕ → ℕ → Type 0) (far : Option ℕ → ℕ → ℕ) (near : Near) : Type 0 where
  pub first : (word : Option ℕ) (start : ℕ) → IsThere word start → far word start ≡ near.distance
      → Precedes near.word near.start word start

-- of the nearest words of the lines this is the first
abbrev pub IsFirst : System → Slicing → List Samples → Near → Type 0
IsFirst system slicing lines near = IsFirstBy (IsPlace system) (far_from system slicing lines) near

-- of the nearest of the codes that may stand on a line of this number this is the first
abbrev pub IsFirstCode : System → ℕ → Slicing → List Samples → Near → Type 0
IsFirstCode system line slicing lines near =
    IsFirstBy (IsCodePlace (codes_of system line) system) (far_from system slicing lines) near
