-- When a field is answered to be of lead-out or lead-in, in words, and what holds of it then, whatever the disc has.
use Rattle.std.specs.Prelude.{◌≡◌, ℕ, ◌+◌, ◌≤◌, ◌⊎◌, Option, Some, option_map}
use Rattle.vbi_side.specs.Types.{Code, Shown}
use Rattle.vbi_words.specs.Codes.{code_of}
use Rattle.vbi_side.specs.Lines.{code_in}
use Rattle.vbi_side.specs.Misread.{line_weight}
use Rattle.vbi_side.specs.Stops.{IsSure}

-- the line shows the code
abbrev pub ShowsCode : Code → Shown → Type 0
ShowsCode code line = code_in line ≡ Some code

-- line 17 or 18 shows the code in pass 1, or both show it
abbrev pub IsCodeToldSurely : Code → Shown → Shown → Type 0
IsCodeToldSurely code line_17 line_18 =
    (ShowsCode code line_17 × IsSure line_17) ⊎ (ShowsCode code line_18 × IsSure line_18)
    ⊎ (ShowsCode code line_17 × ShowsCode code line_18)

-- if the words of the disc on the two lines aren't this code, those that were misread there weigh 2 or more, so that
-- one of them is of pass 1, or both were misread
abbrev pub IsSoundCode : Code → Shown → Shown → Type 0
IsSoundCode code line_17 line_18 = (word_17 word_18 : Option ℕ) → (option_map code_of word_17 ≡ Some code → ⊥)
    → (option_map code_of word_18 ≡ Some code → ⊥) → 2 ≤ line_weight line_17 word_17 + line_weight line_18 word_18
