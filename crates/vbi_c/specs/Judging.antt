-- The judging of numbers, as C asks for it: first the system is looked at, then the lengths of the arrays, then what is
-- counted, then the pace.
use Rattle.std.specs.Prelude.{◌≡◌, ℕ, ◌+◌, ◌^◌, Bool, ◌==◌, ◌&&◌, nat_le, nat_lt, if◌then◌else◌, List, [], ◌∷◌, map}
use Rattle.std.specs.Prelude.{slice_get, Option, Some, None, ok_or, Result, Ok, Err}
use Rattle.vbi_words.specs.declared.system.System as words
use Rattle.vbi_side.specs.declared.lines.Counted as side
use Rattle.vbi_c.specs.Types.{Shown, Number, Video, Sightings, LdvbiFieldReadings, Judging, Asked, LdvbiReading}
use Rattle.vbi_c.specs.Types.{Refusal}
use Rattle.vbi_side.specs.declared.pace.Pace as paces
use Rattle.vbi_side.specs.Numbers.{believed, due, AreAnswers, AreRight, IsAnswer}
use Rattle.vbi_side.specs.Truth.{IsRegular, IsSoundStill}
use Rattle.vbi_side.specs.Misread.{Capture, Lines, Words, numbers_in, IsRead}
use Rattle.vbi_c.specs.declared.status.Refusal.TheVariants.{System, Length, Counted, Pace}
pub use Rattle.vbi_seek.specs.Asked.{IsGiven, IsAskedPace}
use Rattle.vbi_c.specs.Numbers.{system_of, counted_of, asked_of, given_of}
use Rattle.vbi_c.specs.Statuses.{in_turn}
use Rattle.vbi_side.specs.Parts.{part_most, IsPart}

-- ---- what is asked for

-- both other arrays of a call are as long as its first
abbrev pub are_as_long : ℕ → ℕ → ℕ → Bool
are_as_long count first second = first == count && second == count

-- a system, if the lengths fit
abbrev pub with_lengths : Option words.System → Bool → Result words.System Refusal
with_lengths system fit = in_turn (ok_or system System) (λ system. if fit then Ok system else Err Length)

-- a system with what is counted, and the pace
abbrev pub with_pace : Result words.System Refusal → Option side.Counted → Option Asked → Result Judging Refusal
with_pace system counted asked = in_turn system (λ system. in_turn (ok_or counted Counted) (λ counted.
    in_turn (ok_or asked Pace) (λ asked. Ok (record { system = system; counted = counted; asked = asked }))))

-- what the numbers of a call ask for, of arrays whose lengths fit or don't
abbrev pub judging_of : ℕ → ℕ → ℕ → Bool → Result Judging Refusal
judging_of system counted pace fit =
    with_pace (with_lengths (system_of system) fit) (counted_of counted) (asked_of pace)

-- ---- what is answered

-- what a line shows by its reading, of which C may have made anything: no other number than a word's is a word
abbrev pub shown_by : LdvbiReading → Shown
shown_by reading = record {
  word = if nat_le (2 ^ 23) reading.word && nat_lt reading.word (2 ^ 24) then Some reading.word else None;
  pass = reading.pass;
}

-- what a field's three lines show
abbrev pub lines_of : List LdvbiReading → Lines
lines_of (line_16 ∷ line_17 ∷ line_18 ∷ []) =
    record { line_16 = shown_by line_16; line_17 = shown_by line_17; line_18 = shown_by line_18 }
lines_of other =
    let none : Shown = record { word = None; pass = 0 } in
    record { line_16 = none; line_17 = none; line_18 = none }

-- what a field's readings show
abbrev pub lines_in : LdvbiFieldReadings → Lines
lines_in readings = lines_of readings.lines

-- what a field's readings show of its number
abbrev pub seen_in : Judging → LdvbiFieldReadings → Sightings
seen_in judging readings = numbers_in judging.system judging.counted (lines_in readings)

-- the capture that has these readings of a disc
abbrev pub capture_of : Judging → List LdvbiFieldReadings → (ℕ → Words) → (ℕ → Option ℕ) → Capture
capture_of judging readings disc recorded = record {
  system = judging.system;
  counted = judging.counted;
  lines = map lines_in readings;
  disc = disc;
  recorded = recorded;
}

-- the numbers are the answers of these fields at the pace that is asked for; a believed one is the number on the disc,
-- if the disc ran on around its field, and the words misread there weigh less than enough, or if it stood still,
-- and little was misread; and a due one is, if the disc is regular there and the believed numbers are right
pub record AreJudged (judging : Judging) (readings : List LdvbiFieldReadings) (seen : List Sightings)
    (numbers : List Number) (pace : paces.Pace) : Type 0 where
  pub pace_is : IsAskedPace judging seen pace
  pub answers : AreAnswers pace seen numbers
  pub read : (disc : ℕ → Words) (recorded : ℕ → Option ℕ) (i m n : ℕ) → slice_get numbers i ≡ Some (believed n)
      → IsRead pace (capture_of judging readings disc recorded) i m → n ≡ m
  pub sound_still : (recorded : ℕ → Option ℕ) (i m n : ℕ) → slice_get numbers i ≡ Some (believed n) → pace ≡ Video
      → IsSoundStill recorded seen i m → n ≡ m
  pub due_sound : (recorded : ℕ → Option ℕ) (i n : ℕ) → slice_get numbers i ≡ Some (due n)
      → IsRegular pace recorded i → AreRight numbers recorded i → recorded i ≡ Some n

-- ---- of one field: first the system is looked at, then how many fields there are and whether the field is among them,
-- then what is counted, then the pace

-- what the numbers of a call ask for, of this field among this many, which are no more than an answer depends on
abbrev pub one_judging_of : ℕ → ℕ → ℕ → ℕ → ℕ → Result Judging Refusal
one_judging_of system counted pace count field =
    with_pace (with_lengths (system_of system) (nat_le count part_most && nat_lt field count)) (counted_of counted)
    (given_of pace)

-- the number is the answer of this field at the pace that is asked for, of these readings, and of a whole capture of
-- which they are a part that has enough around the field
pub record IsJudgedField (judging : Judging) (readings : List LdvbiFieldReadings) (field : ℕ) (number : Number)
    (pace : paces.Pace) : Type 0 where
  pub pace_is : IsAskedPace judging (map (seen_in judging) readings) pace
  pub answer : IsAnswer pace (map (seen_in judging) readings) field number
  pub of_whole : (whole : List LdvbiFieldReadings) (first : ℕ) → IsPart LdvbiFieldReadings whole readings first field
      → IsAnswer pace (map (seen_in judging) whole) (first + field) number
