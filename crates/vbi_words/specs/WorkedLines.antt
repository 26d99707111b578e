-- A few lines, run by run, at which the definitions can be seen at work.
use Rattle.std.specs.Prelude.{ℕ, ◌-◌, Bool, true, false, not, List, [], ◌∷◌, ◌++◌, replicate}
use Rattle.std.specs.Prelude.{Option, Some, None, nat_eq, if◌then◌else◌}
use Rattle.std.specs.List.{flat_map}

-- n low columns
abbrev pub low : ℕ → List Bool
low n = replicate n false

-- n high columns
abbrev pub high : ℕ → List Bool
high n = replicate n true

-- ---- one run of another length, in lines of either system

-- 24 ones, each half cell of n columns but the last, a high one of m
abbrev pub ones_ending : ℕ → ℕ → List Bool
ones_ending n m =
    flat_map (λ (cell : Bool). low n ++ high n) (replicate 23 true) ++ (low n ++ (high m ++ low 14))

-- a one and 23 zeros, each half cell of n columns but the second and the third, which are one high run of m
abbrev pub zeros_after : ℕ → ℕ → List Bool
zeros_after n m =
    low n ++ (high m ++ (low n ++ (flat_map (λ (cell : Bool). high n ++ low n) (replicate 22 true) ++ low 14)))

-- a row with changes of level at columns 2 and 5, which may be blurred in columns 1, 2, 4 and 5
abbrev pub little_row : List Bool
little_row = low 2 ++ (high 3 ++ low 2)

-- ---- drawn rows and fields

-- from this column on, the level up to the first of these columns, then the other level up to the next, and so on
abbrev pub changing : Bool → ℕ → List ℕ → List Bool
changing level from [] = []
changing level from (column ∷ columns) = replicate (column - from) level ++ changing (not level) column columns

-- a word, or none for 0
abbrev pub word_or_none : ℕ → Option ℕ
word_or_none word = if nat_eq word 0 then None else Some word

-- the words of a field's three lines
abbrev pub of_three : ℕ → ℕ → ℕ → List (Option ℕ)
of_three first second third = word_or_none first ∷ word_or_none second ∷ word_or_none third ∷ []
