-- What the stories through a reading are worth at most, so that it can be said that a rival's are worth less.
use Rattle.std.specs.Prelude.{◌≡◌, ◌⊎◌, ℕ, ◌+◌, ◌-◌, ◌<◌, ◌≤◌, List, ◌∷◌, ◌++◌, length, slice_index}
use Rattle.vbi_story.specs.declared.reading.NumberReading.{NumberReading}
use Rattle.vbi_story.specs.Story.{reading_at, row_price, IsStory, weight, price}

-- the values of the readings are those of the best stories that begin at them
pub record AreJudgedBack (readings : List NumberReading) (values : ℕ → ℕ) : Type 0 where
  pub alone : (i : ℕ) → i < length readings → (reading_at readings i).weight ≤ values i
  pub before : (k i : ℕ) → k < length readings → i < length readings
      → (reading_at readings k).field < (reading_at readings i).field
      → values i + (reading_at readings k).weight
      ≤ values k + row_price (reading_at readings k).row (reading_at readings i).row
  pub goes_on : (i : ℕ) → i < length readings → (values i ≤ (reading_at readings i).weight)
      ⊎ ((k : ℕ) × (i < k) × (k < length readings)
      × ((reading_at readings i).field < (reading_at readings k).field)
      × (values i + row_price (reading_at readings i).row (reading_at readings k).row
      ≤ (reading_at readings i).weight + values k))

-- no story through a reading is worth more than this says of it
abbrev pub AreBounds : List NumberReading → List ℕ → Type 0
AreBounds readings bounds = (i : ℕ) (before after : List NumberReading) → i < length readings
    → IsStory readings (before ++ reading_at readings i ∷ after)
    → weight (before ++ reading_at readings i ∷ after)
    ≤ price (before ++ reading_at readings i ∷ after) + slice_index bounds i

-- and for each reading there is a story through it that is worth so much
abbrev pub AreReached : List NumberReading → List ℕ → Type 0
AreReached readings bounds = (i : ℕ) → i < length readings
    → (before after : List NumberReading) × IsStory readings (before ++ reading_at readings i ∷ after)
    × (price (before ++ reading_at readings i ∷ after) + slice_index bounds i
    ≤ weight (before ++ reading_at readings i ∷ after))

-- a reading seen in a mirror: of the last field first
abbrev pub mirror : ℕ → NumberReading → NumberReading
mirror last r = record { field = last - r.field; number = r.number; row = r.row; weight = r.weight }

-- these are the readings in a mirror
abbrev pub AreMirrored : ℕ → List NumberReading → List NumberReading → Type 0
AreMirrored last readings mirrored = (i : ℕ) → i < length readings
    → reading_at mirrored i ≡ mirror last (reading_at readings (length readings - 1 - i))
