-- The text that is written for a TBC stream, of two kinds: its head, an entry for each whole field, and its tail; and
-- that text by what the stream's lines show (IEC 60857 and IEC 60856 by the words of `vbi_words`).
use Rattle.std.specs.Prelude.{◌≡◌, ℕ, ◌+◌, ◌==◌, if◌then◌else◌, List, [], ◌∷◌, ◌++◌, Option, Some, None, ◌<◌, codes}
use Rattle.std.specs.List.{join_by, range_with_len}
use Rattle.vbi_field.specs.ConfigView.{ConfigView, System}
pub use Rattle.vbi_field.specs.Outlet.{Wrote, WrotePart, Outlet}
use Rattle.vbi_field.specs.Stream.{fields_of, rest_of, readings_of, rows_at, FieldRows, FieldReadings, Reading}
use Rattle.vbi_field.specs.Stream.{row_levels, line_at}
use Rattle.vbi_words.specs.Readings.{IsReading}
use Rattle.vbi_field.specs.Document.{head_of, record_of, tail_of}
use Rattle.vbi_near.specs.Recovery.{none_erased}
use Rattle.vbi_field.specs.RecoveredRows.{as_readings}
use Rattle.vbi_field.specs.RecoveredDocument.{recovered_head_of, recovered_record_of, recovered_of, FieldRecovered}
use Rattle.vbi_field.specs.RecoveredDocument.{RowsRecover}
use Rattle.vbi_field.specs.Report.{report_head_of, report_entry_of, recovered_entry_of, report_tail_of}
use Rattle.vbi_field.specs.CodeTexts.{Outcome, Word, Blank, Unfinished, Change, Hold}

-- A kind of text: its head; what joins two entries; the entry of a field, by its number from 1 and the bytes of its
-- rows 15, 16 and 17; its tail, by the number of whole fields and the bytes past them.
pub record Kind : Type 0 where
  pub head : ConfigView → List ℕ
  pub joint : List ℕ
  pub entry : ConfigView → ℕ → FieldRows → List ℕ
  pub tail : ℕ → ℕ → List ℕ

-- A kind of text whose entries have nothing but the readings of these rows.
pub record ReadingKind : Type 0 where
  pub head : ConfigView → List ℕ
  pub joint : List ℕ
  pub entry : ℕ → FieldReadings → List ℕ
  pub tail : ℕ → ℕ → List ℕ

abbrev pub by : ReadingKind → Kind
by t = record {
  head = t.head;
  joint = t.joint;
  entry = λ c number rows. t.entry number (readings_of c rows);
  tail = t.tail;
}

-- A kind of text whose entries have what these rows show with recovered words.
pub record RecoveredKind : Type 0 where
  pub head : ConfigView → List ℕ
  pub joint : List ℕ
  pub entry : ConfigView → ℕ → FieldRecovered → List ℕ
  pub tail : ℕ → ℕ → List ℕ

abbrev pub recovering : RecoveredKind → Kind
recovering t = record {
  head = t.head;
  joint = t.joint;
  entry = λ c number rows. t.entry c number (recovered_of c rows);
  tail = t.tail;
}

-- the document of `extract`: records joined by a comma and a newline
abbrev pub plain_document : ReadingKind
plain_document = record { head = head_of; joint = codes ",\n"; entry = record_of; tail = tail_of }

abbrev pub document : Kind
document = by plain_document

-- the document of `extract --recover`
abbrev pub worn_document : RecoveredKind
worn_document =
    record { head = recovered_head_of; joint = codes ",\n"; entry = λ c. recovered_record_of c.levels; tail = tail_of }

abbrev pub recovered_document : Kind
recovered_document = recovering worn_document

-- the report of `show`: there is nothing between two fields
abbrev pub plain_report : ReadingKind
plain_report =
    record { head = λ c. report_head_of c.system c.levels; joint = []; entry = report_entry_of; tail = report_tail_of }

abbrev pub report : Kind
report = by plain_report

-- the report of `show --recover`
abbrev pub worn_report : RecoveredKind
worn_report = record {
  head = λ c. report_head_of c.system c.levels;
  joint = [];
  entry = λ c number field. recovered_entry_of number (as_readings field.shown);
  tail = report_tail_of;
}

abbrev pub recovered_report : Kind
recovered_report = recovering worn_report

-- the head, and the entries of the whole fields in order, joined
unfoldable pub text_before_tail : Kind → ConfigView → List ℕ → List ℕ
text_before_tail t c z =
    t.head c ++ join_by (λ i. t.entry c (i + 1) (rows_at c z i)) t.joint (range_with_len 0 (fields_of c z))

-- the whole text of a stream that ended
abbrev pub whole_text : Kind → ConfigView → List ℕ → List ℕ
whole_text t c z = text_before_tail t c z ++ t.tail (fields_of c z) (rest_of c z)

-- the text of a longer stream is longer by these bytes
abbrev pub IsTextBetween : Kind → ConfigView → List ℕ → List ℕ → List ℕ → Type 0
IsTextBetween t c z longer text = text_before_tail t c z ++ text ≡ text_before_tail t c longer

-- what is written for a field when it is whole, after this number of fields: the joint, if there is an entry
-- before, and the entry
abbrev pub joined_entry_of : Kind → ConfigView → ℕ → FieldRows → List ℕ
joined_entry_of t c before rows = (if before == 0 then [] else t.joint) ++ t.entry c (before + 1) rows

-- what is written for a field when it is whole, by its readings
abbrev pub joined_reading_of : ReadingKind → ℕ → FieldReadings → List ℕ
joined_reading_of t before readings = (if before == 0 then [] else t.joint) ++ t.entry (before + 1) readings

module _ (t : Kind) {W : Type 0} (contents : W → Option (List ℕ)) (c : ConfigView) (o o' : Outlet W) where
  -- the bytes by which the text of the longer stream is longer were written
  pub record Extends (z longer : List ℕ) : Type 0 where
    pub text : List ℕ
    pub due : IsTextBetween t c z longer text
    pub wrote : Wrote contents o o' text

  -- the first of these bytes were written, and not all of them
  pub record ExtendsInPart (z longer : List ℕ) : Type 0 where
    pub text : List ℕ
    pub due : IsTextBetween t c z longer text
    pub wrote : WrotePart contents o o' text

-- ---- by what the lines show, without any function that finds it: that there is just one text is the law
-- `one_document`

-- row r of field i has this reading
abbrev pub RowReads : ConfigView → List ℕ → ℕ → ℕ → Reading → Type 0
RowReads c z i r reading = IsReading c.system (row_levels c.levels (line_at c.system z i r)) reading

-- lines 16, 17 and 18 of field i, its rows 15, 16 and 17, have these readings
pub record FieldReads (c : ConfigView) (z : List ℕ) (i : ℕ) (readings : FieldReadings) : Type 0 where
  pub first : RowReads c z i 15 readings.first
  pub second : RowReads c z i 16 readings.second
  pub third : RowReads c z i 17 readings.third

-- text is the head, the entries of the whole fields by their readings, joined, and the tail
abbrev pub IsWholeText : ReadingKind → ConfigView → List ℕ → List ℕ → Type 0
IsWholeText t c z text =
    (readings : ℕ → FieldReadings) × ((i : ℕ) → i < fields_of c z → FieldReads c z i (readings i))
    × (text ≡ t.head c ++ join_by (λ i. t.entry (i + 1) (readings i)) t.joint (range_with_len 0 (fields_of c z))
    ++ t.tail (fields_of c z) (rest_of c z))

-- ---- fields of which the law `worked_texts` has the texts

-- levels that 16-bit captures have
abbrev pub plain_config : System → ConfigView
plain_config system = record { system = system; levels = record { black = 16384; white = 51200 }; max_fields = 1 }

-- a line with this word, in this pass
abbrev pub has_word : ℕ → ℕ → Reading
has_word word pass = record { outcome = Word word; pass = pass }

-- a line without a word
abbrev pub has_none : Outcome → Reading
has_none outcome = record { outcome = outcome; pass = 0 }

-- lines 16, 17 and 18 of a field
abbrev pub of_lines : Reading → Reading → Reading → FieldReadings
of_lines first second third = record { first = first; second = second; third = third }

-- a black field
abbrev pub black_field : FieldReadings
black_field = of_lines (has_none Blank) (has_none Blank) (has_none Blank)

-- a field of a CAV disc
abbrev pub picture_field : FieldReadings
picture_field = of_lines (has_word 0x82CFFF 1) (has_word 0xF12345 1) (has_word 0xF12345 1)

-- a field of a CLV disc
abbrev pub time_field : FieldReadings
time_field = of_lines (has_word 0x8AE012 1) (has_word 0x87FFFF 1) (has_word 0xF0DD00 1)

-- a field whose lines 16 and 17 were each read in one of the passes, and whose line 18 ends too soon
abbrev pub second_pass_field : FieldReadings
second_pass_field = of_lines (has_word 0x82CFFF 2) (has_word 0xF12345 1) (has_none Unfinished)

-- a field whose lines 16 and 17 were each refused at a column
abbrev pub refused_field : FieldReadings
refused_field = of_lines (has_none (Change 34)) (has_none (Hold 909)) (has_word 0x8DC0A1 1)

-- ---- with recovered words

-- of field i its readings, what its rows show, and the nearest word of each
abbrev pub FieldRecovers : ConfigView → List ℕ → ℕ → FieldRecovered → Type 0
FieldRecovers c z i field = RowsRecover c.system c.levels (rows_at c z i) (none_erased c.system) field

-- text is the head, the entries of the whole fields by what their rows show, joined, and the tail
abbrev pub IsRecoveredText : RecoveredKind → ConfigView → List ℕ → List ℕ → Type 0
IsRecoveredText t c z text =
    (fields : ℕ → FieldRecovered) × ((i : ℕ) → i < fields_of c z → FieldRecovers c z i (fields i))
    × (text ≡ t.head c ++ join_by (λ i. t.entry c (i + 1) (fields i)) t.joint (range_with_len 0 (fields_of c z))
    ++ t.tail (fields_of c z) (rest_of c z))

-- a field whose line 16 was read in pass 2, whose line 17 was recovered, and whose line 18 was by both lines together:
-- its own nearest row is that of no word
abbrev pub worn_field : FieldRecovered
worn_field = record {
  readings = of_lines (has_word 0x82CFFF 2) (has_none (Change 34)) (has_word 0xF12347 2);
  shown = record { outcome = Word 0x82CFFF; pass = 2 } ∷ record { outcome = Word 0xF12345; pass = 3 }
      ∷ record { outcome = Word 0xF12346; pass = 3 } ∷ [];
  first = record { word = None; start = 0; distance = 1; rival = 2; longer = 3; shorter = 4 };
  second = record { word = Some 0xF12345; start = 150; distance = 34816; rival = 87040; longer = 5; shorter = 6 };
  third = record { word = None; start = 0; distance = 0; rival = 34815; longer = 7; shorter = 8 };
}
