-- The TBC stream that rows of words are drawn as: a field for each row, of this project's own picture (half cells of
-- one microsecond, IEC 60857 and IEC 60856; no sync and no colour burst), in ld-decode's TBC format.
use Rattle.std.specs.Prelude.{◌≡◌, ℕ, ◌+◌, ◌≤◌, ◌⊎◌, List, [], ◌∷◌, ◌++◌, length, Option, None, Result, Ok, Err, ◌==◌}
use Rattle.std.specs.Prelude.{if◌then◌else◌, slice_index_or}
use Rattle.vbi_field.specs.Ran.{IsAtEnd, Counts, HasFailed, IsCalm, Ran, EndsInside, Use}
use Rattle.vbi_field.specs.ConfigView.{ConfigView, longest_row, height_of}
use Rattle.vbi_field.specs.Outlet.{device_of, failures_of, Outlet, counted_of, written_of}
use Rattle.vbi_field.specs.RowIntake as intakes
use Rattle.vbi_field.specs.WordRows.{newline, AreRows, rows_of, row_words, WordRow}
use Rattle.vbi_field.specs.declared.drawing.DrawFault.{DrawFault}
use Rattle.vbi_field.specs.declared.drawing.DrawFault.TheVariants.{Row, Read, Write, TooManyFields}
use Rattle.std.specs.List.{flat_map, range_with_len, join_by}
use Rattle.vbi_words.specs.Drawn.{drawn_line_of, drawn_reading}
use Rattle.vbi_words.specs.Words.{IsWordOrNone}
use Rattle.vbi_field.specs.Texts.{ReadingKind}
use Rattle.vbi_field.specs.declared.readings.FieldReadings.{FieldReadings}

-- the word that a row of a field has: rows 15, 16 and 17, which are lines 16, 17 and 18, have the three items
abbrev pub word_at : WordRow → ℕ → Option ℕ
word_at words r =
    if r == 15 then words.first else (if r == 16 then words.second else (if r == 17 then words.third else None))

-- a drawn field: its rows in order
unfoldable pub drawn_field_of : ConfigView → WordRow → List ℕ
drawn_field_of c words =
    flat_map (λ r. drawn_line_of c.system c.levels (word_at words r)) (range_with_len 0 (height_of c.system))

-- a drawn stream: a field for each row of words
unfoldable pub draw_out : ConfigView → List WordRow → List ℕ
draw_out c rows = flat_map (drawn_field_of c) rows

-- ---- what the fields of a drawn stream are read as, and the text that is written for it

-- a word or none for each line
pub record AreDrawable (words : WordRow) : Type 0 where
  pub first : IsWordOrNone words.first
  pub second : IsWordOrNone words.second
  pub third : IsWordOrNone words.third

-- the readings of a field that is drawn with these words
abbrev pub drawn_readings : WordRow → FieldReadings
drawn_readings words = record {
  first = drawn_reading words.first;
  second = drawn_reading words.second;
  third = drawn_reading words.third;
}

-- no word in any line
abbrev pub no_words : WordRow
no_words = record { first = None; second = None; third = None }

-- the text of a stream that is drawn of these rows: an entry for each, with its words in the first pass and blanks, and
-- no cut field
abbrev pub drawn_text : ReadingKind → ConfigView → List WordRow → List ℕ
drawn_text t c rows =
    t.head c
    ++ join_by (λ i. t.entry (i + 1) (drawn_readings (slice_index_or rows i no_words))) t.joint
    (range_with_len 0 (length rows))
    ++ t.tail (length rows) 0

-- ---- what `draw` does, by its answer: z are the bytes fetched, text is what was written, and n what was counted

-- the text is empty or ends with a newline, so it is whole rows
abbrev pub EndsRow : List ℕ → Type 0
EndsRow text = (text ≡ []) ⊎ ((front : List ℕ) × (text ≡ front ++ newline ∷ []))

module _ (c : ConfigView) (input : Option (List ℕ)) (z text : List ℕ) where
  -- Ok: the reader ended after this many rows, each of them well formed, and their fields were written
  pub record DrawsAll (count : ℕ) : Type 0 where
    pub rows : List WordRow
    pub well_formed : AreRows z rows
    pub number : count ≡ length rows
    pub few : count ≤ c.max_fields
    pub at_end : IsAtEnd input
    pub drawn : text ≡ draw_out c rows

  -- `Row`: the row of this number, which is allowed, is malformed, all before it are well formed, and their fields were
  -- written; the row was read up to its newline, the reader's end or its 21st byte
  pub record StopsAtRow (number : ℕ) : Type 0 where
    pub before : List ℕ
    pub row : List ℕ
    pub rows : List WordRow
    pub both : before ++ row ≡ z
    pub cut : rows_of (before ++ row) ≡ rows_of before ++ row ∷ []
    pub well_formed : AreRows before rows
    pub number_of : number ≡ length rows + 1
    pub few : number ≤ c.max_fields
    pub malformed : row_words row ≡ None
    pub read_to : ((front : List ℕ) × (row ≡ front ++ newline ∷ [])) ⊎ (IsAtEnd input ⊎ (length row ≡ longest_row))
    pub drawn : text ≡ draw_out c rows

  -- `Read`: the reader failed before the row of this number was read whole, all before it are well formed, and their
  -- fields were written; the row is allowed, or it is the first that isn't and none of its bytes was fetched
  pub record StopsAtRead (number : ℕ) : Type 0 where
    pub before : List ℕ
    pub part : List ℕ
    pub rows : List WordRow
    pub both : before ++ part ≡ z
    pub whole : EndsRow before
    pub unfinished : intakes.HasNoNewline part
    pub well_formed : AreRows before rows
    pub number_of : number ≡ length rows + 1
    pub few : (number ≤ c.max_fields) ⊎ ((number ≡ c.max_fields + 1) × (part ≡ []))
    pub drawn : text ≡ draw_out c rows

  -- `TooManyFields`: a byte followed the last row that is allowed, all these are well formed, and their fields were
  -- written
  pub record StopsAtLimit : Type 0 where
    pub before : List ℕ
    pub byte : ℕ
    pub rows : List WordRow
    pub both : before ++ byte ∷ [] ≡ z
    pub whole : EndsRow before
    pub well_formed : AreRows before rows
    pub number_of : length rows ≡ c.max_fields
    pub drawn : text ≡ draw_out c rows

  -- `Write`: the writer failed after this many bytes, inside the field of the last of the rows that were fetched
  pub record StopsAtWrite (written : ℕ) : Type 0 where
    pub rows : List WordRow
    pub last : WordRow
    pub well_formed : AreRows z (rows ++ last ∷ [])
    pub few : length rows + 1 ≤ c.max_fields
    pub count : written ≡ length text
    pub inside : EndsInside (draw_out c rows) (draw_out c (rows ++ last ∷ [])) text

  -- how far the drawing came, by the answer
  abbrev pub EndsBy : Result ℕ DrawFault → Type 0
  EndsBy (Ok count) = DrawsAll count
  EndsBy (Err (Row number)) = StopsAtRow number
  EndsBy (Err (Read number)) = StopsAtRead number
  EndsBy (Err (Write written)) = StopsAtWrite written
  EndsBy (Err TooManyFields) = StopsAtLimit

-- the device that a fault names failed for good, and no other gave an error; interruptions were tried again
abbrev pub FailsBy : Result ℕ DrawFault → Counts → Type 0
FailsBy (Err (Read number)) n = HasFailed n.reader × (n.writer.errors ≡ 0)
FailsBy (Err (Write written)) n = HasFailed n.writer × (n.reader.errors ≡ 0)
FailsBy _ n = IsCalm n

-- what was done, by the answer: which device failed, and how far the drawing came
pub record Draws (c : ConfigView) (input : Option (List ℕ)) (n : Counts) (result : Result ℕ DrawFault) (z text : List ℕ)
    : Type 0 where
  pub devices : FailsBy result n
  pub came : EndsBy c input z text result

-- what a fresh intake of rows and a fresh outlet counted since; no sample is looked at
abbrev pub counts_of : {R W : Type 0} → intakes.RowIntake R → Outlet W → Counts
counts_of i o = record {
  fetched = intakes.fetched_of i;
  written = written_of o;
  looked = 0;
  reader = failures_of (intakes.counted_of i);
  writer = failures_of (counted_of o);
}

module _ {R W : Type 0} where
  -- the run of a fresh intake of rows and a fresh outlet that gave this answer
  abbrev pub RunsDrawing : ConfigView → Use R (intakes.RowIntake R) → Use W (Outlet W) → Result ℕ DrawFault → Type 0
  RunsDrawing c i o result =
      let input = i.told (device_of (intakes.counted_of i.after)) in
      let n = counts_of i.after o.after in
      Ran (i.told (device_of (intakes.counted_of i.before))) input
      (o.told (device_of (counted_of o.before))) (o.told (device_of (counted_of o.after)))
      n (Draws c input n result)
