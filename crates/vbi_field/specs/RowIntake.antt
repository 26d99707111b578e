-- What a contract sees of an intake of rows of words, and what its calls take from the reader.
use Rattle.std.specs.Prelude.{◌≡◌, ◌≢◌, ℕ, ◌+◌, ◌*◌, ◌<◌, ◌≤◌, ◌⊎◌, List, [], ◌∷◌, ◌++◌, All, length, Option, Some}
use Rattle.std.specs.Prelude.{None}
use Rattle.std.specs.Io.KnownBytes.{Consumes, IsAtEnd}
use Rattle.vbi_field.specs.Outlet.{tries, device_of, failures_of, NoError, HasCause, IsSameDevice, Counted}
use Rattle.vbi_field.specs.ConfigView.{longest_row}
use Rattle.vbi_field.specs.WordRows.{newline, word_row_of}
pub use Rattle.vbi_field.specs.declared.row_intake.RowIntake.{RowIntake}
use Rattle.vbi_field.specs.declared.row_intake.NextByte.{NextByte}
use Rattle.vbi_field.specs.declared.row_intake.NextByte.TheVariants as bytes
use Rattle.vbi_field.specs.declared.row_intake.NextRow.{NextRow}
use Rattle.vbi_field.specs.declared.row_intake.NextRow.TheVariants.{Row, LastRow, Malformed, AtEnd, Failed}

-- no byte of the text is a newline
abbrev pub HasNoNewline : List ℕ → Type 0
HasNoNewline text = All (λ c. c ≢ newline) text

-- the bytes that were fetched
abbrev pub byte_of : NextByte → List ℕ
byte_of (bytes.Byte byte) = byte ∷ []
byte_of _ = []

module _ {R : Type 0} where
  -- the reader with the counts of its failed calls
  abbrev pub counted_of : RowIntake R → Counted R
  counted_of i = i.device

  -- how many bytes it gave
  abbrev pub fetched_of : RowIntake R → ℕ
  fetched_of i = i.fetched

  -- nothing was fetched, and the reader hasn't failed
  pub record IsFresh (i : RowIntake R) : Type 0 where
    pub fetched : fetched_of i ≡ 0
    pub failures : (failures_of (counted_of i)).all ≡ 0

  -- the bytes are the next ones of the reader, and all that was taken
  pub record Fetches (remaining : R → Option (List ℕ)) (old new : RowIntake R) (bytes : List ℕ) : Type 0 where
    pub consumed : Consumes (remaining (device_of (counted_of old))) (remaining (device_of (counted_of new))) bytes
    pub fetched : fetched_of new ≡ fetched_of old + length bytes
    pub least : (failures_of (counted_of old)).all ≤ (failures_of (counted_of new)).all
    pub same : IsSameDevice (counted_of old) (counted_of new)

  -- no error was given, or else the answer is a fault, which has its cause; the reader is at its end if it says so
  abbrev pub GotByte : (R → Option (List ℕ)) → RowIntake R → RowIntake R → NextByte → Type 0
  GotByte remaining old new (bytes.Byte byte) = NoError (counted_of old) (counted_of new)
  GotByte remaining old new bytes.AtEnd =
      NoError (counted_of old) (counted_of new) × IsAtEnd (remaining (device_of (counted_of new)))
  GotByte remaining old new bytes.Failed = HasCause (counted_of old) (counted_of new)

  pub record TakesByte (remaining : R → Option (List ℕ)) (old new : RowIntake R) (answer : NextByte) : Type 0 where
    pub fetches : Fetches remaining old new (byte_of answer)
    pub most : (failures_of (counted_of new)).all ≤ (failures_of (counted_of old)).all + tries
    pub streak : (failures_of (counted_of new)).streak ≤ (failures_of (counted_of old)).streak + tries
    pub got : GotByte remaining old new answer

  -- a malformed row was read up to its newline, the reader's end or its 21st byte
  pub record IsMalformed (remaining : R → Option (List ℕ)) (new : RowIntake R) (bytes : List ℕ) : Type 0 where
    pub row : List ℕ
    pub plain : HasNoNewline row
    pub malformed : word_row_of row ≡ None
    pub read_to : (bytes ≡ row ++ newline ∷ [])
        ⊎ (((bytes ≡ row) × (0 < length row) × IsAtEnd (remaining (device_of (counted_of new))))
        ⊎ ((bytes ≡ row) × (length row ≡ longest_row)))

  -- what the bytes taken are
  abbrev pub GotRow : (R → Option (List ℕ)) → RowIntake R → RowIntake R → List ℕ → NextRow → Type 0
  GotRow remaining old new bytes (Row words) =
      (row : List ℕ) × HasNoNewline row × (bytes ≡ row ++ newline ∷ []) × (word_row_of row ≡ Some words)
  GotRow remaining old new bytes (LastRow words) =
      HasNoNewline bytes × (0 < length bytes) × (word_row_of bytes ≡ Some words)
      × IsAtEnd (remaining (device_of (counted_of new)))
  GotRow remaining old new bytes Malformed = IsMalformed remaining new bytes
  GotRow remaining old new bytes AtEnd = (bytes ≡ []) × IsAtEnd (remaining (device_of (counted_of new)))
  GotRow remaining old new bytes Failed = HasNoNewline bytes

  -- no error was given, or else the answer is a fault, which has its cause
  abbrev pub HasRowCause : RowIntake R → RowIntake R → NextRow → Type 0
  HasRowCause old new Failed = HasCause (counted_of old) (counted_of new)
  HasRowCause old new _ = NoError (counted_of old) (counted_of new)

  pub record TakesRow (remaining : R → Option (List ℕ)) (old new : RowIntake R) (answer : NextRow) : Type 0 where
    pub bytes : List ℕ
    pub fetches : Fetches remaining old new bytes
    pub short : length bytes ≤ longest_row
    pub most : (failures_of (counted_of new)).all ≤ (failures_of (counted_of old)).all + tries * longest_row
    pub got : GotRow remaining old new bytes answer
    pub caused : HasRowCause old new answer
