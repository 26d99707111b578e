-- Which picture stops that fields show are believed: those that one line shows in pass 1, or that two lines show. A
-- stop stands on lines 16 and 17 (IEC 60857 and IEC 60856). The rule is this project's own.
use Rattle.std.specs.Prelude.{◌≡◌, ℕ, ◌+◌, ◌≤◌, ◌↔◌, ◌⊎◌, Option, Some, option_map}
use Rattle.vbi_side.specs.Types.{Code, PictureStop, Shown}
use Rattle.vbi_words.specs.Codes.{code_of}
use Rattle.vbi_side.specs.Lines.{code_in, pass_weight}
use Rattle.vbi_side.specs.Misread.{line_weight}

-- ---- the rule

-- what a code weighs as a stop, if its word weighs so much
abbrev pub weight_as_stop : Option Code → ℕ → ℕ
weight_as_stop (Some PictureStop) weight = weight
weight_as_stop _ weight = 0

-- how much a line says that its picture is one to stop at: 2 in pass 1, 1 in pass 2 or 3
abbrev pub stop_weight : Shown → ℕ
stop_weight line = weight_as_stop (code_in line) (pass_weight line.pass)

-- a stop is believed if lines 16 and 17 say it with a weight of 2 or more
abbrev pub BelievedStop : Shown → Shown → Type 0
BelievedStop line_16 line_17 = 2 ≤ stop_weight line_16 + stop_weight line_17

-- a stop is in doubt if lines 16 and 17 say it with less
abbrev pub DoubtfulStop : Shown → Shown → Type 0
DoubtfulStop line_16 line_17 = stop_weight line_16 + stop_weight line_17 ≡ 1

-- neither of lines 16 and 17 says a stop
abbrev pub NoStop : Shown → Shown → Type 0
NoStop line_16 line_17 = stop_weight line_16 + stop_weight line_17 ≡ 0

-- ---- the same in words

-- the line shows a stop
abbrev pub ShowsStop : Shown → Type 0
ShowsStop line = code_in line ≡ Some PictureStop

-- the line shows a word that weighs 2, as one of pass 1 does
abbrev pub IsSure : Shown → Type 0
IsSure line = pass_weight line.pass ≡ 2

-- line 16 or 17 shows a stop in pass 1, or both show one
abbrev pub IsToldSurely : Shown → Shown → Type 0
IsToldSurely line_16 line_17 =
    (ShowsStop line_16 × IsSure line_16) ⊎ (ShowsStop line_17 × IsSure line_17)
    ⊎ (ShowsStop line_16 × ShowsStop line_17)

-- ---- what is true of a field: the words that its lines 16 and 17 have on the disc, if they have any

-- the word is a stop
abbrev pub IsStopWord : Option ℕ → Type 0
IsStopWord word = option_map code_of word ≡ Some PictureStop

-- what holds of a believed stop: if the disc has none in the field, the words that were misread on its lines 16 and
-- 17 weigh 2 or more, so that one of them is of pass 1, or both were misread
abbrev pub IsSoundStop : Shown → Shown → Type 0
IsSoundStop line_16 line_17 = (word_16 word_17 : Option ℕ) → (IsStopWord word_16 → ⊥) → (IsStopWord word_17 → ⊥)
    → 2 ≤ line_weight line_16 word_16 + line_weight line_17 word_17

-- what is answered of a field with these lines: 1 for a stop that is believed, 2 for one in doubt, 0 for none; and what
-- holds of one that is believed, whatever the disc has
pub record IsJudgedStop (line_16 line_17 : Shown) (answer : ℕ) : Type 0 where
  pub believed : (answer ≡ 1) ↔ BelievedStop line_16 line_17
  pub doubtful : (answer ≡ 2) ↔ DoubtfulStop line_16 line_17
  pub nothing : (answer ≡ 0) ↔ NoStop line_16 line_17
  pub sound : answer ≡ 1 → IsSoundStop line_16 line_17
