-- The readings of a field's lines with the nearest words of worn ones, and the record that the document with recovered
-- words has of a field, as C sees them.
use Rattle.std.specs.Prelude.{◌≡◌, ◌<◌, ℕ, ◌-◌, Bool, List, [], ◌∷◌, ◌++◌, map, length, replicate, slice_get, Some}
use Rattle.vbi_field.specs.RecoveredDocument.{recovered_record_of, recovered_without, record_with, cause_lines}
use Rattle.vbi_c.specs.Types.{FieldReadings, Recovered, Setup, LdvbiReading, LdvbiFieldReadings, LdvbiRecord}
use Rattle.vbi_field.specs.Stream.{row_readings, rows_in}
use Rattle.vbi_near.specs.Recovery.{IsRecovered}
use Rattle.vbi_seek.specs.FieldLines.{Side, recovery_of}
pub use Rattle.vbi_seek.specs.FieldLines.{code_bytes}
use Rattle.vbi_c.specs.Readings.{outcome_for_c, reading_for_c, field_in}

-- what a line shows
abbrev pub recovered_for_c : Recovered → LdvbiReading
recovered_for_c line = outcome_for_c line.outcome line.pass

-- these are what lines 16, 17 and 18 show, by the bytes of their rows and the marks of their erased columns
abbrev pub AreRecovered : Setup → List ℕ → List Bool → LdvbiFieldReadings → Type 0
AreRecovered setup rows marks readings = (lines : List Recovered)
    × IsRecovered setup.system setup.levels rows marks lines
    × (readings ≡ record { lines = map recovered_for_c lines })

-- what lines 16, 17 and 18 of a field show, if no column is erased; it is the only answer there is
-- (`laws::one_recovery`)
abbrev pub recovered_reading : Setup → List ℕ → LdvbiFieldReadings
recovered_reading setup field =
    record { lines = map recovered_for_c (recovery_of setup (code_bytes setup.system field)) }

-- what those of field i of a side show, if no column is erased
abbrev pub reading_at : Side → ℕ → LdvbiFieldReadings
reading_at side i = recovered_reading side.setup (field_in side.setup.system side.bytes i)

-- so are those of each of the first fields of a stream, each of which has marks of its own
abbrev pub AreAllRecovered : Setup → List ℕ → (ℕ → List Bool) → ℕ → List LdvbiFieldReadings → Type 0
AreAllRecovered setup stream marks count all = (i : ℕ) (readings : LdvbiFieldReadings) → i < count
    → slice_get all i ≡ Some readings
    → AreRecovered setup (code_bytes setup.system (field_in setup.system stream i)) (marks i) readings

-- ---- the record

-- a record's text, by the field's number, the bytes of its rows and the marks of their erased columns
abbrev pub record_text_of : Setup → ℕ → List ℕ → List Bool → List ℕ
record_text_of setup number rows marks = recovered_record_of setup.levels number
    (recovered_without setup.system setup.levels (rows_in setup.system rows) marks)

-- the three lines of a field as C sees them
abbrev pub lines_for_c : FieldReadings → LdvbiFieldReadings
lines_for_c field = record {
  lines = reading_for_c field.first ∷ reading_for_c field.second ∷ reading_for_c field.third ∷ [];
}

-- the record of these rows has the words and passes of these readings, and their causes, but for words of pass 3: of
-- these it has the causes of the lines as they were read
pub record HasWordsOf (setup : Setup) (number : ℕ) (rows : List ℕ) (marks : List Bool) (readings : LdvbiFieldReadings)
    : Type 0 where
  pub lines : FieldReadings
  pub nears : List ℕ
  pub same : readings ≡ lines_for_c lines
  pub text : record_text_of setup number rows marks ≡ record_with number lines
      (cause_lines lines (row_readings setup.system setup.levels (rows_in setup.system rows))) nears

-- a record has this text, and zeros after it
pub record HasText (text : List ℕ) (record_for_c : LdvbiRecord) : Type 0 where
  pub long : record_for_c.length ≡ length text
  pub bytes : record_for_c.text ≡ text ++ replicate (448 - length text) 0
