-- What was misread around a field, counted in words: what its lines 16, 17 and 18 show, beside the words on the disc.
use Rattle.std.specs.Prelude.{◌≡◌, ℕ, zero, suc, ◌+◌, ◌*◌, ◌-◌, ◌<◌, ◌==◌, not, nat_le, if◌then◌else◌, ◌⊎◌}
use Rattle.std.specs.Prelude.{Bool, true, false, List, map, Option, Some, None, option_map, slice_get}
use Rattle.vbi_side.specs.Types.{System, Counted, Pictures, Times, Shown, Sightings, Pace}
use Rattle.vbi_words.specs.Codes.{code_of}
use Rattle.vbi_side.specs.Lines.{pass_weight, number_from, sightings_of}
use Rattle.vbi_side.specs.Beliefs.{reach, enough}
use Rattle.vbi_side.specs.Truth.{RunsOn}

-- what a field's lines show
pub record Lines : Type 0 where
  pub line_16 : Shown
  pub line_17 : Shown
  pub line_18 : Shown

-- the words that a field's lines have on the disc
pub record Words : Type 0 where
  pub line_16 : Option ℕ
  pub line_17 : Option ℕ
  pub line_18 : Option ℕ

-- the numbers that a field's lines show
abbrev pub numbers_in : System → Counted → Lines → Sightings
numbers_in system counted lines = sightings_of system counted lines.line_16 lines.line_17 lines.line_18

-- a word was read that isn't the one on the disc
abbrev pub is_misread : Option ℕ → Option ℕ → Bool
is_misread None word = false
is_misread (Some read) None = true
is_misread (Some read) (Some word) = not (read == word)

-- the weight of a line whose word was misread
abbrev pub line_weight : Shown → Option ℕ → ℕ
line_weight line word = if is_misread line.word word then pass_weight line.pass else 0

-- the weight of a field's misread words; line 16 of a time counts twice, since the numbers of both lines stand on it
abbrev pub lines_weight : Counted → Lines → Words → ℕ
lines_weight Pictures lines words = line_weight lines.line_17 words.line_17 + line_weight lines.line_18 words.line_18
lines_weight Times lines words =
    2 * line_weight lines.line_16 words.line_16 + line_weight lines.line_17 words.line_17
    + line_weight lines.line_18 words.line_18

-- the weight of the misread words of a field, if it is there
abbrev pub misread_in : Counted → Option Lines → Words → ℕ
misread_in counted None words = 0
misread_in counted (Some lines) words = lines_weight counted lines words

-- the weight of the misread words of field i + k - reach
abbrev pub misread_at : Counted → List Lines → (ℕ → Words) → ℕ → ℕ → ℕ
misread_at counted lines disc i k =
    if nat_le reach (i + k) then misread_in counted (slice_get lines (i + k - reach)) (disc (i + k - reach)) else 0

-- the sum of the first n of these
unfoldable pub misread_below : Counted → List Lines → (ℕ → Words) → ℕ → ℕ → ℕ
misread_below counted lines disc i zero = 0
misread_below counted lines disc i (suc n) = misread_below counted lines disc i n + misread_at counted lines disc i n

-- the weight of the words that were misread in field i and in those within reach of it
abbrev pub misread_weight : Counted → List Lines → (ℕ → Words) → ℕ → ℕ
misread_weight counted lines disc i = misread_below counted lines disc i (2 * reach + 1)

-- the number that a word of line 17 or 18 tells, beside that of line 16
abbrev pub number_of : System → Counted → Option ℕ → Option ℕ → Option ℕ
number_of system counted word_16 word =
    number_from system counted (option_map code_of word_16) (option_map code_of word)

-- a capture of a disc: what its fields' lines show, the words that they have on the disc, and the number that each
-- field has there
pub record Capture : Type 0 where
  pub system : System
  pub counted : Counted
  pub lines : List Lines
  pub disc : ℕ → Words
  pub recorded : ℕ → Option ℕ

-- the numbers that the fields show
abbrev pub sightings_in : Capture → List Sightings
sightings_in capture = map (numbers_in capture.system capture.counted) capture.lines

-- each field has the number that its words tell on the disc
abbrev pub AreTold : Capture → Type 0
AreTold capture = (i n : ℕ)
    → (number_of capture.system capture.counted (capture.disc i).line_16 (capture.disc i).line_17 ≡ Some n)
    ⊎ (number_of capture.system capture.counted (capture.disc i).line_16 (capture.disc i).line_18 ≡ Some n)
    → capture.recorded i ≡ Some n

-- around field i, which has a number on the disc, the disc ran on, and the misread words weigh less than enough
pub record IsRead (pace : Pace) (capture : Capture) (i m : ℕ) : Type 0 where
  pub told : AreTold capture
  pub runs : RunsOn pace capture.recorded i
  pub has : capture.recorded i ≡ Some m
  pub few : misread_weight capture.counted capture.lines capture.disc i < enough
