-- A capture of a disc that is read whole. Its pace is found.
use Rattle.std.specs.Prelude.{◌≡◌, ◌≢◌, ℕ, ◌≤◌, true, List, Option, Some, slice_get}
use Rattle.vbi_side.specs.Types.{Sightings, Pace, Video}
use Rattle.vbi_side.specs.Sightings.{Shows}
use Rattle.vbi_side.specs.Paces.{fits}
use Rattle.vbi_side.specs.Beliefs.{enough, support_of}
use Rattle.vbi_side.specs.Truth.{IsNear, RunsOn}

-- the disc runs on at this pace, each number that a field shows is the one that it has on the disc, and enough supports
-- it, as five fields with numbers within reach do, or three if both lines have the number
pub record IsWhole (pace : Pace) (recorded : ℕ → Option ℕ) (fields : List Sightings) : Type 0 where
  pub runs : (i : ℕ) → RunsOn pace recorded i
  pub right : (i n : ℕ) → Shows (slice_get fields i) n → recorded i ≡ Some n
  pub much : (i n : ℕ) → Shows (slice_get fields i) n → enough ≤ support_of pace fields i n

-- pictures of two and three fields take turns: near a field with a number at most one other has a number that lies two
-- fields a picture away
abbrev pub TakesTurns : (ℕ → Option ℕ) → Type 0
TakesTurns recorded = (i m j k l n : ℕ) → IsNear i j → IsNear i k → j ≢ i → k ≢ i
    → recorded i ≡ Some m → recorded j ≡ Some l → recorded k ≡ Some n
    → fits Video i m j l ≡ true → fits Video i m k n ≡ true → j ≡ k
