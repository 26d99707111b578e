-- Which of the readings that a story tells are believed.
use Rattle.std.specs.Prelude.{◌≡◌, ◌≢◌, ℕ, ◌+◌, ◌-◌, ◌<◌, ◌≤◌, List, ◌∷◌, ◌++◌, length, take, drop}
use Rattle.std.specs.Prelude.{Bool, false, slice_index, slice_index_or}
use Rattle.vbi_story.specs.declared.reading.NumberReading.{NumberReading}
use Rattle.vbi_story.specs.Story.{reading_at, row_price, near, IsStory, weight, price}

-- ---- parts of what is told

-- what is told from one place up to another
abbrev pub part : List NumberReading → ℕ → ℕ → List NumberReading
part told from to = take (to - from) (drop from told)

-- what is told without that
abbrev pub without : List NumberReading → ℕ → ℕ → List NumberReading
without told from to = take from told ++ drop to told

-- the price of the step that leads to this place
abbrev pub step_to : List NumberReading → ℕ → ℕ
step_to told i = row_price (reading_at told (i - 1)).row (reading_at told i).row

-- a part within which no step costs more than this, and which a longer one doesn't have: a run, if steps may cost
-- nothing, and a group, if they may cost as much as one to a near row
pub record IsChain (most : ℕ) (told : List NumberReading) (from to : ℕ) : Type 0 where
  pub some : from < to
  pub inside : to ≤ length told
  pub steps : (i : ℕ) → from < i → i < to → step_to told i ≤ most
  pub begins : 0 < from → most < step_to told from
  pub ends : to < length told → most < step_to told to

-- whether this place is marked
abbrev pub mark_at : List Bool → ℕ → Bool
mark_at marks i = slice_index_or marks i false

-- ---- what is believed

-- the weight from which on a group is believed
abbrev pub group_enough : ℕ
group_enough = 10

-- how much less something has to be worth, so that it is no rival
abbrev pub story_margin : ℕ
story_margin = 4

-- the one is worth more than the margin less than the other
abbrev pub IsFarBehind : List NumberReading → List NumberReading → Type 0
IsFarBehind one other = weight one + price other + story_margin < weight other + price one

-- the group of the reading told at this place weighs enough
abbrev pub IsHeavy : List NumberReading → ℕ → Type 0
IsHeavy told i = (from to : ℕ) × IsChain near told from to × (from ≤ i) × (i < to)
    × (group_enough ≤ weight (part told from to))

-- without its run the story would be far behind
abbrev pub IsHeld : List NumberReading → ℕ → Type 0
IsHeld told i = (from to : ℕ) × IsChain 0 told from to × (from ≤ i) × (i < to) × IsFarBehind (without told from to) told

-- reading k says another number of its field
abbrev pub IsRival : List NumberReading → NumberReading → ℕ → Type 0
IsRival readings r k = (k < length readings) × ((reading_at readings k).field ≡ r.field)
    × ((reading_at readings k).number ≢ r.number)

-- each story through another number of its field is far behind
abbrev pub IsAlone : List NumberReading → List NumberReading → NumberReading → Type 0
IsAlone readings told r = (k : ℕ) (before after : List NumberReading) → IsRival readings r k
    → IsStory readings (before ++ reading_at readings k ∷ after)
    → IsFarBehind (before ++ reading_at readings k ∷ after) told

-- by these bounds the stories through some other number of its field are not far behind what is worth so much
abbrev pub IsRivalled : List NumberReading → List ℕ → ℕ → NumberReading → Type 0
IsRivalled readings bounds worth r =
    (k : ℕ) × IsRival readings r k × (worth ≤ slice_index bounds k + story_margin)

-- the reading told at this place is believed
pub record IsBelieved (readings told : List NumberReading) (i : ℕ) : Type 0 where
  pub heavy : IsHeavy told i
  pub held : IsHeld told i
  pub alone : IsAlone readings told (reading_at told i)
