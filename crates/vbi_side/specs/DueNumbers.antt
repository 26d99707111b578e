-- Which number is due in a field that shows none to be believed: the one to which the believed ones around it count.
use Rattle.std.specs.Prelude.{◌≡◌, ℕ, ◌+◌, ◌<◌, ◌≤◌, nat_le, if◌then◌else◌, true, List, Some, slice_get}
use Rattle.vbi_side.specs.Types.{Sightings, Pace, Place}
use Rattle.vbi_side.specs.Paces.{spot, Count, nearly}
use Rattle.vbi_side.specs.Beliefs.{reach, Believed}

-- by how many fields a number between fields j and k may be off: by one if these are close, since a disc may have the
-- number on both fields of a picture
abbrev pub slack_of : ℕ → ℕ → ℕ
slack_of j k = if nat_le k (j + 8) then 1 else 0

-- the numbers of an earlier place and of a later one, both within reach, count to the number of this place, from which
-- no number between them is off
pub record Leaves (HasNumber : ℕ → ℕ → Type 0) (pace : Pace) (earlier later here : Place) : Type 0 where
  pub before : earlier.field < here.field
  pub near : here.field ≤ earlier.field + reach
  pub after : here.field < later.field
  pub far : later.field ≤ here.field + reach
  pub first : HasNumber earlier.field earlier.number
  pub last : HasNumber later.field later.number
  pub on : Count pace earlier.field earlier.number here.field here.number
  pub back : Count pace here.field here.number later.field later.number
  pub between : (h x : ℕ) → earlier.field < h → h < later.field → HasNumber h x
      → nearly pace (slack_of earlier.field later.field) here (spot h x) ≡ true

-- the numbers before and after field i leave number n for it
abbrev pub IsLeft : (ℕ → ℕ → Type 0) → Pace → ℕ → ℕ → Type 0
IsLeft HasNumber pace i n = (earlier later : Place) × Leaves HasNumber pace earlier later (spot i n)

-- field i shows a code that stands there in place of a number
abbrev pub ShowsInstead : List Sightings → ℕ → Type 0
ShowsInstead fields i = (field : Sightings) × (slice_get fields i ≡ Some field) × (1 ≤ field.instead)

-- both lines of field i show one number, as they do if both were read in pass 1
abbrev pub ShowsTwice : List Sightings → ℕ → Type 0
ShowsTwice fields i = (field : Sightings) × (slice_get fields i ≡ Some field) × (2 ≤ field.line_17.weight)
    × (2 ≤ field.line_18.weight) × (field.line_17.number ≡ field.line_18.number)

-- number n is due in field i: no number of it is believed, no other code stands there, nor one number on both lines,
-- and the believed numbers around it leave this one for it
pub record Due (pace : Pace) (fields : List Sightings) (i n : ℕ) : Type 0 where
  pub unbelieved : (m : ℕ) → Believed pace fields i m → ⊥
  pub vacant : ShowsInstead fields i → ⊥
  pub unread : ShowsTwice fields i → ⊥
  pub left : IsLeft (Believed pace fields) pace i n
