-- The document with recovered words, of version 3: as that of version 2, but that words of pass 2 may be missing, there
-- are words of pass 3, and `vbiNear` has of each of these the nearest word of its line as it is, and how near that is.
use Rattle.std.specs.Prelude.{ℕ, ◌-◌, ◌*◌, ◌/◌, Bool, List, ◌++◌, ◌==◌, if◌then◌else◌, Option, Some, None, codes}
use Rattle.std.specs.Prelude.{decimal}
use Rattle.vbi_field.specs.ConfigView.{ConfigView, System}
use Rattle.vbi_field.specs.CodeTexts.{cause_text_of}
use Rattle.vbi_field.specs.Document.{value_of, lines_of, parameters_of}
use Rattle.vbi_words.specs.Levels.{Slicing}
use Rattle.vbi_words.specs.Readings.{IsReading}
use Rattle.vbi_near.specs.Candidates.{row_of, marks_at}
use Rattle.vbi_near.specs.Recovery.{IsRecovered, none_erased}
use Rattle.vbi_field.specs.Stream.{Reading, FieldReadings, FieldRows, row_readings, row_levels}
use Rattle.vbi_field.specs.RecoveredRows.{IsNearRow, near_of, recovery_of, joined_rows, as_readings}
pub use Rattle.vbi_near.specs.declared.near.Near.{Near}
pub use Rattle.vbi_near.specs.declared.recovery.Recovered.{Recovered}

-- the readings of a field's three rows, what they show with recovered words, and the nearest word of each
pub record FieldRecovered : Type 0 where
  pub readings : FieldReadings
  pub shown : List Recovered
  pub first : Near
  pub second : Near
  pub third : Near

-- the readings of three rows, what the rows show, and their nearest words, where these columns are erased
pub record RowsRecover (system : System) (slicing : Slicing) (rows : FieldRows) (marks : List Bool)
    (field : FieldRecovered) : Type 0 where
  pub first_reads : IsReading system (row_levels slicing rows.first) field.readings.first
  pub second_reads : IsReading system (row_levels slicing rows.second) field.readings.second
  pub third_reads : IsReading system (row_levels slicing rows.third) field.readings.third
  pub shown : IsRecovered system slicing (joined_rows rows) marks field.shown
  pub first : IsNearRow system slicing (row_of rows.first (marks_at system marks 0)) field.first
  pub second : IsNearRow system slicing (row_of rows.second (marks_at system marks 1)) field.second
  pub third : IsNearRow system slicing (row_of rows.third (marks_at system marks 2)) field.third

-- what `RowsRecover` says, as a function; the law `one_field` shows that it meets that, and that nothing else does
abbrev pub recovered_without : System → Slicing → FieldRows → List Bool → FieldRecovered
recovered_without system slicing rows marks = record {
  readings = row_readings system slicing rows;
  shown = recovery_of system slicing (joined_rows rows) marks;
  first = near_of system slicing (row_of rows.first (marks_at system marks 0));
  second = near_of system slicing (row_of rows.second (marks_at system marks 1));
  third = near_of system slicing (row_of rows.third (marks_at system marks 2));
}

-- what three rows of which no column is erased are read as and show
abbrev pub recovered_of : ConfigView → FieldRows → FieldRecovered
recovered_of c rows = recovered_without c.system c.levels rows (none_erased c.system)

-- ---- causes

-- the line whose cause is written: if its word was recovered, it as it was read
abbrev pub cause_line : Reading → Reading → Reading
cause_line shown reading = if shown.pass == 3 then reading else shown

-- the three of a field
abbrev pub cause_lines : FieldReadings → FieldReadings → FieldReadings
cause_lines shown readings = record {
  first = cause_line shown.first readings.first;
  second = cause_line shown.second readings.second;
  third = cause_line shown.third readings.third;
}

-- ---- nearest words

-- the number of the word, or 0 if there is none
abbrev pub word_or_zero : Option ℕ → ℕ
word_or_zero (Some word) = word
word_or_zero None = 0

-- how far samples are off, in hundredths of what white and black are off in one column, rounded down
abbrev pub hundredths : Slicing → ℕ → ℕ
hundredths slicing distance = distance * 100 / (slicing.white - slicing.black)

-- how near a line's nearest word is, if its word was recovered
unfoldable pub near_text_of : Slicing → Reading → Near → List ℕ
near_text_of slicing line near = if line.pass == 3
    then codes "{\"word\":" ++ decimal (word_or_zero near.word)
    ++ codes ",\"distance\":" ++ decimal (hundredths slicing near.distance)
    ++ codes ",\"rival\":" ++ decimal (hundredths slicing near.rival) ++ codes "}"
    else codes "null"

-- the three of a field
unfoldable pub nears_text_of : Slicing → FieldReadings → FieldRecovered → List ℕ
nears_text_of slicing lines field = codes ",\"vbiNear\":[" ++ near_text_of slicing lines.first field.first
    ++ codes "," ++ near_text_of slicing lines.second field.second
    ++ codes "," ++ near_text_of slicing lines.third field.third ++ codes "]"

-- ---- the document

-- one line, as that of version 2
abbrev pub recovered_head_of : ConfigView → List ℕ
recovered_head_of c = codes "{\"version\":3" ++ parameters_of c

-- the record of a field of these lines, causes and nearest words
unfoldable pub record_with : ℕ → FieldReadings → FieldReadings → List ℕ → List ℕ
record_with number lines causes nears =
    codes "{\"seqNo\":" ++ decimal number
    ++ lines_of (codes ",\"vbi\":{\"vbiData\":[") (λ line. decimal (value_of line.outcome)) (codes "]}") lines
    ++ lines_of (codes ",\"vbiCause\":[") (λ line. codes "\"" ++ cause_text_of line.outcome ++ codes "\"") (codes "]")
    causes
    ++ lines_of (codes ",\"vbiPass\":[") (λ line. decimal line.pass) (codes "]") lines ++ nears ++ codes "}"

-- the record of a field
abbrev pub recovered_record_of : Slicing → ℕ → FieldRecovered → List ℕ
recovered_record_of slicing number field =
    let lines = as_readings field.shown in
    record_with number lines (cause_lines lines field.readings) (nears_text_of slicing lines field)
