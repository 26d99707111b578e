-- The readings of a line, of a field's lines 16, 17 and 18, and of each field of a stream, as C sees them.
use Rattle.std.specs.Prelude.{ℕ, ◌+◌, List, [], ◌∷◌, map}
use Rattle.std.specs.List.{range_with_len}
use Rattle.vbi_c.specs.Types.{Outcome, Word, Blank, Unfinished, Change, Hold, Reading, System, Setup, LdvbiReading}
use Rattle.vbi_c.specs.Types.{LdvbiFieldReadings}
use Rattle.vbi_words.specs.Geometry.{line_at}
use Rattle.vbi_words.specs.Levels.{row_levels}
use Rattle.vbi_line.specs.OneReading.{reading_of}
pub use Rattle.vbi_seek.specs.FieldLines.{field_in}

-- an outcome with the pass of its reading; the word and the column are 0 if there is none
abbrev pub outcome_for_c : Outcome → ℕ → LdvbiReading
outcome_for_c (Word word) pass = record { cause = 0; pass = pass; column = 0; word = word }
outcome_for_c Blank pass = record { cause = 1; pass = pass; column = 0; word = 0 }
outcome_for_c Unfinished pass = record { cause = 2; pass = pass; column = 0; word = 0 }
outcome_for_c (Change column) pass = record { cause = 3; pass = pass; column = column; word = 0 }
outcome_for_c (Hold column) pass = record { cause = 4; pass = pass; column = column; word = 0 }

-- a reading
abbrev pub reading_for_c : Reading → LdvbiReading
reading_for_c reading = outcome_for_c reading.outcome reading.pass

-- the reading of a line's bytes
abbrev pub line_reading : Setup → List ℕ → LdvbiReading
line_reading setup bytes = reading_for_c (reading_of setup.system (row_levels setup.levels bytes))

-- three rows, one after the other, from this one on
abbrev pub three_rows : System → List ℕ → ℕ → List (List ℕ)
three_rows system bytes first =
    line_at system bytes 0 first ∷ line_at system bytes 0 (first + 1) ∷ line_at system bytes 0 (first + 2) ∷ []

-- the readings of rows
abbrev pub rows_reading : Setup → List (List ℕ) → LdvbiFieldReadings
rows_reading setup rows = record { lines = map (line_reading setup) rows }

-- the readings of a field's lines 16, 17 and 18, which are its rows 15, 16 and 17
abbrev pub field_reading : Setup → List ℕ → LdvbiFieldReadings
field_reading setup field = rows_reading setup (three_rows setup.system field 15)

-- the readings of the first fields of a stream
abbrev pub fields_reading : Setup → List ℕ → ℕ → List LdvbiFieldReadings
fields_reading setup stream count =
    map (λ i. field_reading setup (field_in setup.system stream i)) (range_with_len 0 count)
