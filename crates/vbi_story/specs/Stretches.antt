-- Stretches of a side over which the disc ran on, so that its true readings stand on one row.
use Rattle.std.specs.Prelude.{Bool, true, false, ◌≡◌, ◌≢◌, ℕ, ◌+◌, ◌*◌, ◌<◌, ◌≤◌, List, [], ◌∷◌, ◌++◌}
use Rattle.vbi_story.specs.declared.reading.NumberReading.{NumberReading}
use Rattle.vbi_story.specs.Story.{Each, IsAmong, IsStory, weight, price, is_near}

-- a reading stands on this row
abbrev pub IsOn : ℕ → NumberReading → Type 0
IsOn row r = r.row ≡ row

-- or on another
abbrev pub IsOff : ℕ → NumberReading → Type 0
IsOff row r = r.row ≢ row

-- its field is one of these
abbrev pub IsWithin : ℕ → ℕ → NumberReading → Type 0
IsWithin from to r = (from ≤ r.field) × (r.field ≤ to)

-- from reading a over these to reading b
abbrev pub between : NumberReading → List NumberReading → NumberReading → List NumberReading
between a middle b = a ∷ (middle ++ b ∷ [])

-- ---- what is right is told by a test: of a row, or of the disc's own numbers

-- between a and b right readings may be told that are worth more than these
pub record AreOutdone (is_right : NumberReading → Bool) (readings : List NumberReading) (a : NumberReading)
    (these : List NumberReading)
    (b : NumberReading) : Type 0 where
  pub right : List NumberReading
  pub told : IsStory readings (between a right b)
  pub more : weight these + price (between a right b) < weight right + price (between a these b)

-- whatever is wrong between two right readings of these fields is outdone
pub record IsHeard (is_right : NumberReading → Bool) (readings : List NumberReading) (from to : ℕ) : Type 0 where
  pub outdone : (a b : NumberReading) (wrong : List NumberReading) → is_right a ≡ true → is_right b ≡ true
      → from ≤ a.field
      → b.field ≤ to → IsStory readings (between a wrong b) → Each (λ r. is_right r ≡ false) wrong → wrong ≢ []
      → AreOutdone is_right readings a wrong b

-- ---- a row

-- between a and b readings of this row weigh more than these, with what it costs to leave the row and to come back
pub record AreOutweighed (readings : List NumberReading) (row : ℕ) (a : NumberReading) (these : List NumberReading)
    (b : NumberReading)
    : Type 0 where
  pub right : List NumberReading
  pub told : IsStory readings (between a right b)
  pub on_row : Each (IsOn row) right
  pub less : weight these < weight right + price (between a these b)

-- whatever is misread between two true readings of these fields is outweighed
pub record RanOn (readings : List NumberReading) (row from to : ℕ) : Type 0 where
  pub outweighed : (a b : NumberReading) (wrong : List NumberReading) → IsOn row a → IsOn row b → from ≤ a.field
      → b.field ≤ to
      → IsStory readings (between a wrong b) → Each (IsOff row) wrong → wrong ≢ []
      → AreOutweighed readings row a wrong b

-- each story of misread readings of these fields weighs less than this
abbrev pub AreLighter : List NumberReading → ℕ → ℕ → ℕ → ℕ → Type 0
AreLighter readings row from to most = (wrong : List NumberReading) → IsStory readings wrong
    → Each (IsWithin from to) wrong → Each (IsOff row) wrong → weight wrong < most

-- and each misread reading of these fields is on a far row
abbrev pub AreFarOff : List NumberReading → ℕ → ℕ → ℕ → Type 0
AreFarOff readings row from to = (r : NumberReading) → IsAmong readings r → IsWithin from to r → IsOff row r
    → is_near r.row row ≡ false

-- of video each number stands on the row of its field and itself
abbrev pub AreOfVideo : ℕ → List NumberReading → Type 0
AreOfVideo big readings = (r : NumberReading) → IsAmong readings r → r.row + 2 * r.number ≡ r.field + 2 * big

-- and the disc's own numbers in these fields on one
abbrev pub RunsOn : ℕ → (ℕ → ℕ) → ℕ → ℕ → ℕ → Type 0
RunsOn big recorded row from to = (field : ℕ) → from ≤ field → field ≤ to
    → row + 2 * recorded field ≡ field + 2 * big

-- ---- written down by hand

-- a reading of this field, on this row, of this weight; its number is of no account
abbrev pub reading : ℕ → ℕ → ℕ → NumberReading
reading field row weight = record { field = field; number = 0; row = row; weight = weight }
