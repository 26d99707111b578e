-- Which chapters that fields show are believed: those that enough chapter codes nearby say and too few oppose. The rule
-- is this project's own.
use Rattle.std.specs.Prelude.{◌≡◌, ℕ, ◌<◌, ◌≤◌, ◌==◌, nat_le, nat_lt, ◌&&◌, ◌||◌, Bool, ◌⊎◌, List, length}
use Rattle.std.specs.Prelude.{Option, Some, None, slice_get}
use Rattle.vbi_side.specs.Types.{Code, Chapter, Shown, Number, Sighting, Sightings}
use Rattle.vbi_side.specs.Sightings.{Has, Shows}
use Rattle.vbi_side.specs.Lines.{code_in, pass_weight, sighting_from}
use Rattle.vbi_side.specs.Beliefs.{enough, window_weight}
use Rattle.vbi_side.specs.Numbers.{believed, doubtful_of}
use Rattle.vbi_side.specs.Truth.{IsNear, wrong_weight}

-- ---- what a field shows

-- the chapter that a code tells
abbrev pub chapter_from : Option Code → Option ℕ
chapter_from (Some (Chapter number)) = Some number
chapter_from _ = None

-- the chapter that line 17 or 18 shows
abbrev pub chapter_of : Shown → Sighting
chapter_of line = sighting_from (chapter_from (code_in line)) (pass_weight line.pass)

-- the chapters that a field shows on lines 17 and 18
abbrev pub chapters_of : Shown → Shown → Sightings
chapters_of line_17 line_18 = record { line_17 = chapter_of line_17; line_18 = chapter_of line_18; instead = 0 }

-- ---- the rule

-- chapter k, in whichever field, is chapter n
abbrev pub says : ℕ → ℕ → ℕ → ℕ → Bool
says i n j k = k == n

-- chapter k in field j speaks against chapter n in field i: a later one that stands there or before, or an earlier one
-- that stands there or after
abbrev pub opposes : ℕ → ℕ → ℕ → ℕ → Bool
opposes i n j k = (nat_le j i && nat_lt n k) || (nat_le i j && nat_lt k n)

-- the weight of the codes within reach of field i that say chapter n
abbrev pub said_weight : List Sightings → ℕ → ℕ → ℕ
said_weight fields i n = window_weight (says i n) fields i

-- the weight of those that oppose it there
abbrev pub opposed_weight : List Sightings → ℕ → ℕ → ℕ
opposed_weight fields i n = window_weight (opposes i n) fields i

-- field i shows chapter n, enough codes say it, less than enough oppose it, and fewer say any other one of the field
pub record BelievedChapter (fields : List Sightings) (i n : ℕ) : Type 0 where
  pub shown : Shows (slice_get fields i) n
  pub said : enough ≤ said_weight fields i n
  pub unopposed : opposed_weight fields i n < enough
  pub ahead : (m : ℕ) → Shows (slice_get fields i) m → (m ≡ n → ⊥) → said_weight fields i m < said_weight fields i n

-- what is answered of field i: its believed chapter, else the one that it shows in doubt
abbrev pub IsChapter : List Sightings → ℕ → Number → Type 0
IsChapter fields i answer =
    ((n : ℕ) × BelievedChapter fields i n × (answer ≡ believed n))
    ⊎ (((n : ℕ) → BelievedChapter fields i n → ⊥)
    × ((field : Sightings) × (slice_get fields i ≡ Some field) × (answer ≡ doubtful_of field)))

-- the answers are those of the fields
pub record AreChapters (fields : List Sightings) (answers : List Number) : Type 0 where
  pub count : length answers ≡ length fields
  pub each : (i : ℕ) (answer : Number) → slice_get answers i ≡ Some answer → IsChapter fields i answer

-- ---- how the rule is reckoned

-- fewer codes say another chapter that the other line of the field has
abbrev pub IsAheadOf : List Sightings → ℕ → ℕ → Sighting → Type 0
IsAheadOf fields i n other =
    (m : ℕ) → Has other m → (m ≡ n → ⊥) → said_weight fields i m < said_weight fields i n

-- the line has chapter n, and it is believed beside the field's other line
pub record IsBelievedOf (fields : List Sightings) (i : ℕ) (line other : Sighting) (n : ℕ) : Type 0 where
  pub has : Has line n
  pub said : enough ≤ said_weight fields i n
  pub unopposed : opposed_weight fields i n < enough
  pub ahead : IsAheadOf fields i n other

-- ---- what is true of a capture: the chapter that each field has on the disc, if it has one

-- the disc has chapter n in a field near field i
abbrev pub HasNear : (ℕ → Option ℕ) → ℕ → ℕ → Type 0
HasNear recorded i n = (j : ℕ) × IsNear i j × (recorded j ≡ Some n)

-- the chapters of the disc never fall near field i
abbrev pub NeverFalls : (ℕ → Option ℕ) → ℕ → Type 0
NeverFalls recorded i = (j k m n : ℕ) → IsNear i j → IsNear i k → j ≤ k
    → recorded j ≡ Some m → recorded k ≡ Some n → m ≤ n

-- the weight of the codes before field i, within reach, that say chapter m, and of those after it
abbrev pub weight_before : List Sightings → ℕ → ℕ → ℕ
weight_before fields i m = window_weight (λ j k. nat_lt j i && (k == m)) fields i

abbrev pub weight_after : List Sightings → ℕ → ℕ → ℕ
weight_after fields i m = window_weight (λ j k. nat_lt i j && (k == m)) fields i

-- enough codes say chapter m both before field i and after it
abbrev pub IsWithin : List Sightings → ℕ → ℕ → Type 0
IsWithin fields i m = (enough ≤ weight_before fields i m) × (enough ≤ weight_after fields i m)

-- what holds of a believed chapter n of field i: it is on the disc near there, if the misread codes weigh less than
-- enough; and if enough codes before the field and after it say one chapter, it is that one
pub record IsSoundChapter (recorded : ℕ → Option ℕ) (fields : List Sightings) (i n : ℕ) : Type 0 where
  pub near : wrong_weight recorded fields i < enough → HasNear recorded i n
  pub within : (m : ℕ) → IsWithin fields i m → n ≡ m
