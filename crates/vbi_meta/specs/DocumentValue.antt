-- What the document of a stream says, as a value of JSON: its members by their names (those of ld-decode's
-- ld-process-vbi, and `version`, `vbiCause`, `vbiPass`, `vbiNear` and `cutField`, which are this project's own),
-- whatever their order in the text. Version 2 has the readings of the lines, version 3 what they show with recovered
-- words.
use Rattle.std.specs.Prelude.{ℕ, ◌+◌, ◌^◌, ◌<◌, ◌≤◌, ◌==◌, if◌then◌else◌, List, [], ◌∷◌, length, map, fold, codes}
use Rattle.std.specs.List.{range_with_len}
use Rattle.serde_json.specs.Data.{Data, unsigned, null, number, string, array, object, no_members, put}
use Rattle.serde_json.specs.View.{items_of}
use Rattle.vbi_words.specs.Levels.{Slicing}
use Rattle.vbi_field.specs.Stream.{Reading, fields_of, rest_of, readings_at, rows_at}
use Rattle.vbi_field.specs.declared.readings.FieldReadings.{FieldReadings}
use Rattle.vbi_field.specs.ConfigView.{width_of, height_of, name_of, most_fields, ConfigView, allowed_bytes}
use Rattle.vbi_field.specs.CodeTexts.{cause_text_of}
use Rattle.vbi_field.specs.Document.{value_of}
use Rattle.vbi_field.specs.RecoveredDocument.{Near, FieldRecovered, recovered_of, cause_lines, word_or_zero, hundredths}
use Rattle.vbi_field.specs.RecoveredRows.{as_readings}

-- ---- which streams

-- the numbers of a config: two samples of 16 bits, and at most 1,000,000 fields allowed
pub record IsConfig (c : ConfigView) : Type 0 where
  pub black : c.levels.black < 2 ^ 16
  pub white : c.levels.white < 2 ^ 16
  pub max_fields : c.max_fields ≤ most_fields

-- a stream that a run with such a config reads to its end: no more bytes came than are allowed
pub record IsOfRun (c : ConfigView) (z : List ℕ) : Type 0 where
  pub config : IsConfig c
  pub within : length z ≤ allowed_bytes c

-- ---- values

-- an object with these members
abbrev pub object_of : List (List ℕ × Data) → Data
object_of members = object (fold (λ before member. put member.0 member.1 before) no_members members)

-- an array of these items
abbrev pub array_of : List Data → Data
array_of items = array (items_of items)

-- a whole number
abbrev pub whole_of : ℕ → Data
whole_of n = number (unsigned n)

-- ---- the document

-- of each of a field's three lines, what it is said to have
abbrev pub lines_value : (Reading → Data) → FieldReadings → Data
lines_value said readings = array_of (said readings.first ∷ said readings.second ∷ said readings.third ∷ [])

-- a field, by its number from 1: the words and the passes of these lines, the causes of these, and more members; a word
-- is 0 if a line has none
abbrev pub field_with : ℕ → FieldReadings → FieldReadings → List (List ℕ × Data) → Data
field_with n lines causes more = object_of (
    (codes "seqNo", whole_of n)
    ∷ (
      codes "vbi",
      object_of ((codes "vbiData", lines_value (λ reading. whole_of (value_of reading.outcome)) lines) ∷ []),
    )
    ∷ (codes "vbiCause", lines_value (λ reading. string (cause_text_of reading.outcome)) causes)
    ∷ (codes "vbiPass", lines_value (λ reading. whole_of reading.pass) lines)
    ∷ more)

-- a field of version 2, by its readings
abbrev pub field_value : ℕ → FieldReadings → Data
field_value n readings = field_with n readings readings []

-- if a line's word was recovered, its nearest word, or 0 if there is none, and how far the line is from that and from
-- any other
abbrev pub near_value : Slicing → Reading → Near → Data
near_value slicing line near =
    if line.pass == 3 then object_of (
    (codes "word", whole_of (word_or_zero near.word))
    ∷ (codes "distance", whole_of (hundredths slicing near.distance))
    ∷ (codes "rival", whole_of (hundredths slicing near.rival))
    ∷ [])
    else null

-- the nearest words of a field's lines
abbrev pub nears_value : Slicing → FieldReadings → FieldRecovered → Data
nears_value slicing lines field = array_of (
    near_value slicing lines.first field.first
    ∷ near_value slicing lines.second field.second
    ∷ near_value slicing lines.third field.third
    ∷ [])

-- a field of version 3, by its readings, what it shows with recovered words, and its nearest words
abbrev pub recovered_field_value : Slicing → ℕ → FieldRecovered → Data
recovered_field_value slicing n field =
    let lines = as_readings field.shown in
    field_with n lines (cause_lines lines field.readings) ((codes "vbiNear", nears_value slicing lines field) ∷ [])

-- the system and the levels
abbrev pub parameters_value : ConfigView → Data
parameters_value c = object_of (
    (codes "system", string (name_of c.system))
    ∷ (codes "fieldWidth", whole_of (width_of c.system))
    ∷ (codes "fieldHeight", whole_of (height_of c.system))
    ∷ (codes "black16bIre", whole_of c.levels.black)
    ∷ (codes "white16bIre", whole_of c.levels.white)
    ∷ [])

-- a cut last field, by the number of whole fields and the bytes past them, or null
abbrev pub cut_value : ℕ → ℕ → Data
cut_value fields rest =
    if rest == 0 then null
    else object_of ((codes "seqNo", whole_of (fields + 1)) ∷ (codes "bytes", whole_of rest) ∷ [])

-- a document of this version, by the values of its fields, counted from 0, their number, and the bytes past them
abbrev pub document_with : ℕ → (ℕ → Data) → ConfigView → ℕ → ℕ → Data
document_with version field c fields rest = object_of (
    (codes "version", whole_of version)
    ∷ (codes "videoParameters", parameters_value c)
    ∷ (codes "fields", array_of (map field (range_with_len 0 fields)))
    ∷ (codes "cutField", cut_value fields rest)
    ∷ [])

-- the document of a stream
abbrev pub document_value : ConfigView → List ℕ → Data
document_value c z =
    document_with 2 (λ i. field_value (i + 1) (readings_at c z i)) c (fields_of c z) (rest_of c z)

-- the document of a stream with recovered words
abbrev pub recovered_value : ConfigView → List ℕ → Data
recovered_value c z =
    document_with 3 (λ i. recovered_field_value c.levels (i + 1) (recovered_of c (rows_at c z i))) c (fields_of c z)
    (rest_of c z)
