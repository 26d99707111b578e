-- What is answered of each field, and where a number is found.
use Rattle.std.specs.Prelude.{◌≡◌, ℕ, ◌<◌, nat_le, if◌then◌else◌, ◌⊎◌, List, length, Option, Some, None, slice_get}
use Rattle.vbi_side.specs.Types.{Sighting, Sightings, Number, Pace}
use Rattle.vbi_side.specs.Beliefs.{Believed}
use Rattle.vbi_side.specs.DueNumbers.{Due}
use Rattle.vbi_side.specs.Truth.{IsNear}

-- no number
abbrev pub nothing : Number
nothing = record { number = 0; state = 0 }

-- a number that is believed
abbrev pub believed : ℕ → Number
believed n = record { number = n; state = 1 }

-- a number that was read and isn't believed
abbrev pub doubtful : ℕ → Number
doubtful n = record { number = n; state = 2 }

-- a number that is due
abbrev pub due : ℕ → Number
due n = record { number = n; state = 3 }

-- a line's number in doubt, or else another answer
abbrev pub doubtful_or : Sighting → Number → Number
doubtful_or sighting other = if nat_le 1 sighting.weight then doubtful sighting.number else other

-- the number of line 17 in doubt, else that of line 18, else nothing
abbrev pub doubtful_of : Sightings → Number
doubtful_of field = doubtful_or field.line_17 (doubtful_or field.line_18 nothing)

-- field i is answered number n as believed
abbrev pub IsMarked : List Number → ℕ → ℕ → Type 0
IsMarked answers i n = slice_get answers i ≡ Some (believed n)

-- the answer has the believed number of field i, or if there is none what it shows in doubt
abbrev pub IsMark : Pace → List Sightings → ℕ → Number → Type 0
IsMark pace fields i answer =
    ((n : ℕ) × Believed pace fields i n × (answer ≡ believed n))
    ⊎ (((n : ℕ) → Believed pace fields i n → ⊥)
    × ((field : Sightings) × (slice_get fields i ≡ Some field) × (answer ≡ doubtful_of field)))

-- each field is answered its believed number, or what it shows in doubt
pub record AreMarks (pace : Pace) (fields : List Sightings) (answers : List Number) : Type 0 where
  pub count : length answers ≡ length fields
  pub each : (i : ℕ) (answer : Number) → slice_get answers i ≡ Some answer → IsMark pace fields i answer

-- what is answered of field i: its believed number, else the one that is due, else what it shows in doubt
abbrev pub IsAnswer : Pace → List Sightings → ℕ → Number → Type 0
IsAnswer pace fields i answer =
    ((n : ℕ) × Believed pace fields i n × (answer ≡ believed n))
    ⊎ ((n : ℕ) × Due pace fields i n × (answer ≡ due n))
    ⊎ (((n : ℕ) → Believed pace fields i n → ⊥) × ((n : ℕ) → Due pace fields i n → ⊥)
    × ((field : Sightings) × (slice_get fields i ≡ Some field) × (answer ≡ doubtful_of field)))

-- the answers are those of the fields
pub record AreAnswers (pace : Pace) (fields : List Sightings) (answers : List Number) : Type 0 where
  pub count : length answers ≡ length fields
  pub each : (i : ℕ) (answer : Number) → slice_get answers i ≡ Some answer → IsAnswer pace fields i answer

-- the answer says that the field has this number, believed or due
abbrev pub IsKnown : Number → ℕ → Type 0
IsKnown answer n = (answer ≡ believed n) ⊎ (answer ≡ due n)

-- the first field that is known to have the number, if there is one
abbrev pub IsFirst : List Number → ℕ → Option ℕ → Type 0
IsFirst answers n None = (i : ℕ) (answer : Number) → slice_get answers i ≡ Some answer → IsKnown answer n → ⊥
IsFirst answers n (Some field) =
    ((answer : Number) × (slice_get answers field ≡ Some answer) × IsKnown answer n)
    × ((i : ℕ) (answer : Number) → i < field → slice_get answers i ≡ Some answer → IsKnown answer n → ⊥)

-- the numbers that are answered as believed of field i and of those within reach of it are those on the disc
abbrev pub AreRight : List Number → (ℕ → Option ℕ) → ℕ → Type 0
AreRight answers recorded i = (j n : ℕ) → IsNear i j → slice_get answers j ≡ Some (believed n) → recorded j ≡ Some n
