-- Fields and rows of a TBC stream (ld-decode's TBC format: samples of 16 bits, low byte first, line after line and
-- field after field), and the readings of its fields. Fields and rows are counted from 0; a stream is the list of its
-- bytes.
use Rattle.std.specs.Prelude.{ℕ, ◌+◌, ◌-◌, ◌*◌, ◌/◌, ◌%◌, ◌==◌, min, if◌then◌else◌, List, length, Option, Some, None}
use Rattle.std.specs.Prelude.{drop, nat_lt}
use Rattle.vbi_field.specs.ConfigView.{System, Slicing, width_of, line_bytes, field_bytes, ConfigView}
pub use Rattle.vbi_words.specs.Levels.{row_levels}
pub use Rattle.vbi_words.specs.Geometry.{line_at}
pub use Rattle.vbi_words.specs.declared.outcome.Reading.{Reading}
pub use Rattle.vbi_line.specs.OneReading.{reading_of}
pub use Rattle.vbi_field.specs.declared.readings.FieldReadings.{FieldReadings}

-- how many whole fields a stream has
abbrev pub fields_of : ConfigView → List ℕ → ℕ
fields_of c z = length z / field_bytes c.system

-- how many bytes a stream has past its whole fields
abbrev pub rest_of : ConfigView → List ℕ → ℕ
rest_of c z = length z % field_bytes c.system

-- the bytes of a cut last field, if that many bytes past the whole fields are one
abbrev pub cut_of : ℕ → Option ℕ
cut_of rest = if rest == 0 then None else Some rest

-- the reading of row r of field i
abbrev pub reading_at : ConfigView → List ℕ → ℕ → ℕ → Reading
reading_at c z i r = reading_of c.system (row_levels c.levels (line_at c.system z i r))

-- the readings of field i: those of its rows 15, 16 and 17, which are lines 16, 17 and 18
abbrev pub readings_at : ConfigView → List ℕ → ℕ → FieldReadings
readings_at c z i = record { first = reading_at c z i 15; second = reading_at c z i 16; third = reading_at c z i 17 }

-- the bytes of a field's rows 15, 16 and 17
pub record FieldRows : Type 0 where
  pub first : List ℕ
  pub second : List ℕ
  pub third : List ℕ

-- the bytes of field i's rows 15, 16 and 17
abbrev pub rows_at : ConfigView → List ℕ → ℕ → FieldRows
rows_at c z i = record {
  first = line_at c.system z i 15;
  second = line_at c.system z i 16;
  third = line_at c.system z i 17;
}

-- the rows that lie one after the other in these bytes
abbrev pub rows_in : System → List ℕ → FieldRows
rows_in system bytes = record {
  first = line_at system bytes 0 0;
  second = line_at system bytes 0 1;
  third = line_at system bytes 0 2;
}

-- the readings of these rows, by the system and its levels
abbrev pub row_readings : System → Slicing → FieldRows → FieldReadings
row_readings system slicing rows = record {
  first = reading_of system (row_levels slicing rows.first);
  second = reading_of system (row_levels slicing rows.second);
  third = reading_of system (row_levels slicing rows.third);
}

-- the readings of these rows by a run's settings; of `rows_at` they are `readings_at`
abbrev pub readings_of : ConfigView → FieldRows → FieldReadings
readings_of c rows = row_readings c.system c.levels rows

-- how many samples are looked at: those of the rows 15, 16 and 17 that the stream has whole, once each
abbrev pub looks_of : ConfigView → List ℕ → ℕ
looks_of c z = width_of c.system * (3 * fields_of c z + min 3 (rest_of c z / line_bytes c.system - 15))

-- ---- how far a stream has come

-- the number of whole fields, the bytes past them, the bytes of the unfinished row, and of rows 15, 16 and 17 of the
-- unfinished field each reading, once the row is whole
pub record Position : Type 0 where
  pub fields : ℕ
  pub rest : ℕ
  pub held : List ℕ
  pub first : Option Reading
  pub second : Option Reading
  pub third : Option Reading

-- the reading of row r of field i, if r is less than the number of whole rows of that field
abbrev pub reading_among : ConfigView → List ℕ → ℕ → ℕ → ℕ → Option Reading
reading_among c z i rows r = if nat_lt r rows then Some (reading_at c z i r) else None

-- the position of a stream of these bytes, of which the last are those of the unfinished row
abbrev pub position_of : ConfigView → List ℕ → Position
position_of c z = record {
  fields = fields_of c z;
  rest = rest_of c z;
  held = drop (length z - rest_of c z % line_bytes c.system) z;
  first = reading_among c z (fields_of c z) (rest_of c z / line_bytes c.system) 15;
  second = reading_among c z (fields_of c z) (rest_of c z / line_bytes c.system) 16;
  third = reading_among c z (fields_of c z) (rest_of c z / line_bytes c.system) 17;
}
