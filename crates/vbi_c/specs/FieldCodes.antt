-- The judging of chapters, of picture stops, and of lead-in and lead-out, as C asks for it.
use Rattle.std.specs.Prelude.{◌≡◌, ℕ, List, [], ◌∷◌, length, slice_get, Option, Some}
use Rattle.vbi_c.specs.Types.{Number, Sightings, LdvbiFieldReadings, LdvbiReading}
use Rattle.vbi_side.specs.Chapters.{chapters_of, AreChapters, IsSoundChapter}
use Rattle.vbi_side.specs.Ends.{end_of}
use Rattle.vbi_side.specs.Numbers.{believed}
use Rattle.vbi_side.specs.Stops.{IsJudgedStop}
use Rattle.vbi_c.specs.Judging.{lines_in, shown_by}

-- ---- chapters

-- what a field's readings show of its chapter: lines 17 and 18 alone have one
abbrev pub chapters_in : LdvbiFieldReadings → Sightings
chapters_in readings = let lines = lines_in readings in chapters_of lines.line_17 lines.line_18

-- the answers are those of these fields, and of a believed chapter holds what the crate `vbi_side` says of it, whatever
-- the disc has: it is on the disc nearby, if little was misread, and no other one than the codes around it say
pub record AreJudgedChapters (seen : List Sightings) (chapters : List Number) : Type 0 where
  pub answers : AreChapters seen chapters
  pub sound : (recorded : ℕ → Option ℕ) (i n : ℕ) → slice_get chapters i ≡ Some (believed n)
      → IsSoundChapter recorded seen i n

-- ---- stops and ends

-- the answer is that of a field's three lines: lines 16 and 17 alone have a stop
abbrev pub IsStopOf : List LdvbiReading → ℕ → Type 0
IsStopOf (line_16 ∷ line_17 ∷ line_18 ∷ []) answer = IsJudgedStop (shown_by line_16) (shown_by line_17) answer
IsStopOf other answer = ⊥

-- the answer is that of a field's three lines: lines 17 and 18 alone have lead-in and lead-out
abbrev pub IsEndOf : List LdvbiReading → ℕ → Type 0
IsEndOf (line_16 ∷ line_17 ∷ line_18 ∷ []) answer = answer ≡ end_of (shown_by line_17) (shown_by line_18)
IsEndOf other answer = ⊥

-- each field is answered by its three lines as this says; of a believed stop holds what the crate `vbi_side` says of
-- it, whatever the disc has
pub record AreAnswered (IsOf : List LdvbiReading → ℕ → Type 0) (readings : List LdvbiFieldReadings) (answers : List ℕ)
    : Type 0 where
  pub count : length answers ≡ length readings
  pub each : (i answer : ℕ) (field : LdvbiFieldReadings) → slice_get readings i ≡ Some field
      → slice_get answers i ≡ Some answer → IsOf field.lines answer
