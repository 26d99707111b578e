-- Stories of a side: which of its readings are told one after the other, and what that is worth.
use Rattle.std.specs.Prelude.{◌≡◌, ℕ, ◌+◌, ◌<◌, ◌≤◌, nat_eq, nat_le, ◌&&◌, Bool, true, false, if◌then◌else◌}
use Rattle.std.specs.Prelude.{List, [], ◌∷◌, length, slice_index_or}
use Rattle.vbi_story.specs.declared.reading.NumberReading.{NumberReading}

-- what stands where no reading is
abbrev pub nothing : NumberReading
nothing = record { field = 0; number = 0; row = 0; weight = 0 }

-- the reading at a place
abbrev pub reading_at : List NumberReading → ℕ → NumberReading
reading_at readings i = slice_index_or readings i nothing

-- one of the readings
abbrev pub IsAmong : List NumberReading → NumberReading → Type 0
IsAmong readings r = (i : ℕ) × (i < length readings) × (reading_at readings i ≡ r)

-- each has this
abbrev pub Each : (NumberReading → Type 0) → List NumberReading → Type 0
Each P [] = Unit {0}
Each P (r ∷ more) = P r × Each P more

-- the first of these, if there is one, is of a later field than r
abbrev pub IsBefore : NumberReading → List NumberReading → Type 0
IsBefore r [] = Unit {0}
IsBefore r (next ∷ more) = r.field < next.field

-- each is of a later field than the one before it
abbrev pub Ascends : List NumberReading → Type 0
Ascends [] = Unit {0}
Ascends (r ∷ more) = IsBefore r more × Ascends more

-- a story of these readings
pub record IsStory (readings story : List NumberReading) : Type 0 where
  pub among : Each (IsAmong readings) story
  pub ascends : Ascends story

-- ---- what a story is worth: its weight less its price

-- how far off a row may be that is near to another
abbrev pub near_reach : ℕ
near_reach = 6

-- the price of a step to a near row
abbrev pub near : ℕ
near = 3

-- the price of a step to any other row
abbrev pub far : ℕ
far = 10

-- whether two rows are near
abbrev pub is_near : ℕ → ℕ → Bool
is_near a b = nat_le a (b + near_reach) && nat_le b (a + near_reach)

-- the price of a step from row a to row b
abbrev pub row_price : ℕ → ℕ → ℕ
row_price a b = if nat_eq a b then 0 else if is_near a b then near else far

-- the price of the step from r to the first of these
abbrev pub first_price : NumberReading → List NumberReading → ℕ
first_price r [] = 0
first_price r (next ∷ more) = row_price r.row next.row

-- the sum of the prices of a story's steps
abbrev pub price : List NumberReading → ℕ
price [] = 0
price (r ∷ more) = first_price r more + price more

-- the sum of its weights
abbrev pub weight : List NumberReading → ℕ
weight [] = 0
weight (r ∷ more) = r.weight + weight more

-- the one story, its weight less its price, is worth no more than the other
abbrev pub IsWorthNoMore : List NumberReading → List NumberReading → Type 0
IsWorthNoMore one other = weight one + price other ≤ weight other + price one

-- a story of these readings, and none is worth more
pub record IsBest (readings story : List NumberReading) : Type 0 where
  pub story_is : IsStory readings story
  pub best : (other : List NumberReading) → IsStory readings other → IsWorthNoMore other story

-- ---- what is given, and what is answered

-- they are in the order of their fields, weigh at most 4, and stand on so many rows
pub record AreReadings (rows : ℕ) (readings : List NumberReading) : Type 0 where
  pub in_order : (i k : ℕ) → i ≤ k → k < length readings
      → (reading_at readings i).field ≤ (reading_at readings k).field
  pub light : (i : ℕ) → i < length readings → (reading_at readings i).weight ≤ 4
  pub on_rows : (i : ℕ) → i < length readings → (reading_at readings i).row < rows

-- the readings that are marked
abbrev pub picked : List NumberReading → List Bool → List NumberReading
picked [] marks = []
picked (r ∷ more) [] = []
picked (r ∷ more) (false ∷ marks) = picked more marks
picked (r ∷ more) (true ∷ marks) = r ∷ picked more marks
