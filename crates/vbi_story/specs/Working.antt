-- What the pass knows between two readings.
use Rattle.std.specs.Prelude.{◌≡◌, ◌⊎◌, ℕ, ◌+◌, ◌-◌, ◌*◌, ◌<◌, ◌≤◌, nat_eq, true, if◌then◌else◌}
use Rattle.std.specs.Prelude.{List, ◌∷◌, slice_index, Option, Some, None}
use Rattle.vbi_story.specs.declared.reading.NumberReading.{NumberReading}
use Rattle.vbi_story.specs.declared.before.Before.{Before}
use Rattle.vbi_story.specs.Story.{reading_at, row_price, is_near, near, Ascends, price, weight}

-- the place that a word keeps: there places count from 1, and 0 keeps none
abbrev pub place_in : ℕ → Option ℕ
place_in word = if nat_eq word 0 then None else Some (word - 1)

-- the place that the word here keeps, if it keeps one
abbrev pub place_at : List ℕ → ℕ → Option ℕ
place_at words i = place_in (slice_index words i)

-- of the first n readings are entered: on each row and above all the one with the greatest value
pub record AreEntered (readings : List NumberReading) (values : List ℕ) (n : ℕ) (top : Option ℕ)
    (best_on : List ℕ) : Type 0 where
  pub on_row : (row k : ℕ) → place_at best_on row ≡ Some k → (k < n) × ((reading_at readings k).row ≡ row)
  pub covers : (m : ℕ) → m < n
      → (k : ℕ) × (place_at best_on (reading_at readings m).row ≡ Some k)
      × (slice_index values m ≤ slice_index values k)
  pub top_is : (k : ℕ) → top ≡ Some k → k < n
  pub top_covers : (m : ℕ) → m < n → (k : ℕ) × (top ≡ Some k) × (slice_index values m ≤ slice_index values k)

-- what stands before a reading on this row, among the first n, is reached as it says
pub record IsReached (readings : List NumberReading) (values : List ℕ) (n row : ℕ) (before : Before) : Type 0 where
  pub none : before.origin ≡ None → before.worth ≡ 0
  pub some : (k : ℕ) → before.origin ≡ Some k
      → (k < n) × (before.worth + row_price (reading_at readings k).row row ≤ slice_index values k)

-- none of the first n is better
abbrev pub Covers : List NumberReading → List ℕ → ℕ → ℕ → Before → Type 0
Covers readings values n row before = (m : ℕ) → m < n
    → slice_index values m ≤ before.worth + row_price (reading_at readings m).row row

-- the values of the first n readings are those of the best stories that end at them, and origins say how
pub record AreJudged (readings : List NumberReading) (values : List ℕ) (origins : List ℕ)
    (n : ℕ) : Type 0 where
  pub alone : (i : ℕ) → i < n → (reading_at readings i).weight ≤ slice_index values i
  pub after : (k i : ℕ) → k < n → i < n → (reading_at readings k).field < (reading_at readings i).field
      → slice_index values k + (reading_at readings i).weight
      ≤ slice_index values i + row_price (reading_at readings k).row (reading_at readings i).row
  pub begun : (i : ℕ) → i < n → place_at origins i ≡ None → slice_index values i ≤ (reading_at readings i).weight
  pub came : (k i : ℕ) → i < n → place_at origins i ≡ Some k
      → (k < i) × ((reading_at readings k).field < (reading_at readings i).field)
      × (slice_index values i + row_price (reading_at readings k).row (reading_at readings i).row
      ≤ (reading_at readings i).weight + slice_index values k)
  pub few : (i : ℕ) → i < n → slice_index values i ≤ 4 * (i + 1)

-- it is as it was, or a step from a near row
abbrev pub IsNearStep : List ℕ → List ℕ → ℕ → Before → Before → Type 0
IsNearStep values best_on row so_far best = (best ≡ so_far) ⊎ ((other k : ℕ) × (is_near other row ≡ true)
    × (place_at best_on other ≡ Some k) × (best.origin ≡ Some k) × (best.worth + near ≡ slice_index values k))

-- ---- the way back

-- the value at this place, if there is one
abbrev pub value_of : List ℕ → Option ℕ → ℕ
value_of values None = 0
value_of values (Some k) = slice_index values k

-- what was walked is a story's end, and worth so much
pub record IsWalked (worth : ℕ) (story : List NumberReading) : Type 0 where
  pub ascends : Ascends story
  pub reaches : worth + price story ≤ weight story

-- what was walked so far, down to place i, is told after the reading that is to come next
pub record IsWay (readings : List NumberReading) (values : List ℕ) (worth i : ℕ) (next : Option ℕ)
    (story : List NumberReading) : Type 0 where
  pub done : next ≡ None → IsWalked worth story
  pub goes_on : (k : ℕ) → next ≡ Some k → (k < i) × Ascends (reading_at readings k ∷ story)
      × (worth + price (reading_at readings k ∷ story) ≤ weight story + slice_index values k)
