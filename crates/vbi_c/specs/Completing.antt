-- The completing of times, as C asks for it: first the system is looked at, then the lengths of the arrays.
use Rattle.std.specs.Prelude.{◌≡◌, ℕ, ◌/◌, ◌<◌, ◌⊎◌, List, [], ◌∷◌, length, slice_get, Option, Some}
use Rattle.std.specs.Prelude.{Result}
use Rattle.vbi_c.specs.Types.{Times, Sightings, LdvbiFieldReadings, Judging, Found, LdvbiReading, Refusal, System}
use Rattle.vbi_side.specs.Sightings.{Shows}
use Rattle.vbi_side.specs.Lines.{pass_weight}
use Rattle.vbi_side.specs.Misread.{numbers_in}
use Rattle.vbi_side.specs.Votes.{minute_of, part_of, IsCompleted, IsVotedSoundly, IsVotedRightly}
use Rattle.vbi_c.specs.Judging.{are_as_long, with_lengths, lines_in}
use Rattle.vbi_c.specs.Numbers.{system_of}

-- the system of a call, with arrays that are both as long as that of the readings
abbrev pub completing_of : ℕ → ℕ → ℕ → ℕ → Result System Refusal
completing_of system count seen completed =
    with_lengths (system_of system) (are_as_long count seen completed)

-- what asks for the times that fields show; the pace says nothing there
abbrev pub times_of : System → Judging
times_of system = record { system = system; counted = Times; asked = Found }

-- a word that was read in this pass
abbrev pub read_as : ℕ → ℕ → LdvbiReading
read_as word pass = record { cause = 0; pass = pass; column = 0; word = word }

-- three lines, the second of which has this word, as it would be read in the pass of the first
abbrev pub with_time : ℕ → List LdvbiReading → List LdvbiReading
with_time word (line_16 ∷ line_17 ∷ line_18 ∷ []) = line_16 ∷ read_as word line_16.pass ∷ line_18 ∷ []
with_time word other = other

-- the time of field i is completed, on line 17, or there is none that completes it, and nothing is changed
abbrev pub IsCompletedField : System → List Sightings → ℕ → LdvbiFieldReadings → LdvbiFieldReadings → Type 0
IsCompletedField system seen i before after =
    ((word : ℕ) × IsCompleted system (lines_in before).line_16 seen i word
    × (after ≡ record { lines = with_time word before.lines }))
    ⊎ (((word : ℕ) → IsCompleted system (lines_in before).line_16 seen i word → ⊥) × (after ≡ before))

-- line 17 then shows the number m, with the weight of line 16
abbrev pub TellsTime : System → ℕ → LdvbiFieldReadings → Type 0
TellsTime system m after =
    (numbers_in system Times (lines_in after)).line_17
    ≡ record { number = m; weight = pass_weight (lines_in after).line_16.pass }

-- each field is completed, or as it was; if the votes are sound it gets no time but the one on the disc, and if
-- they are right a field that shows none gets that, if it has an hour of one digit
pub record AreCompleted (system : System) (readings : List LdvbiFieldReadings) (seen : List Sightings)
    (completed : List LdvbiFieldReadings) : Type 0 where
  pub count : length completed ≡ length readings
  pub each : (i : ℕ) (before after : LdvbiFieldReadings) → slice_get readings i ≡ Some before
      → slice_get completed i ≡ Some after → IsCompletedField system seen i before after
  pub right : (recorded : ℕ → Option ℕ) (i part m : ℕ) (before after : LdvbiFieldReadings)
      → slice_get readings i ≡ Some before → slice_get completed i ≡ Some after
      → part_of system (lines_in before).line_16 ≡ Some part
      → IsVotedSoundly recorded (record { minute = minute_of system; field = i; part = part }) seen m
      → (after ≡ before) ⊎ TellsTime system m after
  pub whole : (recorded : ℕ → Option ℕ) (i part m : ℕ) (before after : LdvbiFieldReadings)
      → slice_get readings i ≡ Some before → slice_get completed i ≡ Some after
      → part_of system (lines_in before).line_16 ≡ Some part
      → IsVotedRightly recorded (record { minute = minute_of system; field = i; part = part }) seen m
      → ((n : ℕ) → Shows (slice_get seen i) n → ⊥) → m / minute_of system < 600 → TellsTime system m after
