-- By how much the samples of lines are nearer to a word that they say than to what may have been recorded.
use Rattle.std.specs.Prelude.{◌≢◌, ◌≤◌, ◌⊎◌, ℕ, ◌+◌, ◌*◌, Some}
use Rattle.vbi_near.specs.LineCodes.{codes_of, IsCodePlace}
use Rattle.vbi_near.specs.Candidates.{Row, Line, Lines, given_line, levelled_line, given_pair, levelled_pair}
use Rattle.vbi_near.specs.{declared.margins.Margins.Margins, Common.IsPlace, Common.unit_of, Nearest.far_from}

-- a drawn row of this word is nearer to the lines, by so many columns, than one of any other code that may stand on a
-- line of their number, wherever that begins
abbrev pub IsAhead : Lines → ℕ → ℕ → Type 0
IsAhead of columns word = (start : ℕ) × IsPlace of.system (Some word) start
    × ((other at : ℕ) → IsCodePlace (codes_of of.system of.number) of.system (Some other) at → other ≢ word
    → far_from of.system of.slicing of.samples (Some word) start + columns * unit_of of.slicing
    ≤ far_from of.system of.slicing of.samples (Some other) at)

-- the word is nearer to the lines than any other code by the columns of a code, or by those of any other word
abbrev pub IsAheadBy : Lines → Margins → ℕ → Type 0
IsAheadBy of margins word = IsAhead of margins.code.columns word ⊎ IsAhead of margins.other.columns word

-- one line is nearer to the word by so many columns, levelled or as it is
abbrev pub IsAheadOn : Line → ℕ → ℕ → Type 0
IsAheadOn line columns word = IsAhead (levelled_line line) columns word ⊎ IsAhead (given_line line) columns word

-- two lines together are nearer to the word by so many columns, levelled or as they are
abbrev pub IsAheadOnBoth : Line → Row → ℕ → ℕ → Type 0
IsAheadOnBoth line other columns word =
    IsAhead (levelled_pair line other) columns word ⊎ IsAhead (given_pair line other) columns word
