-- What a contract sees of an intake: the reader, the buffer of a line, and the counts of bytes and failures.
use Rattle.std.specs.Prelude.{◌≡◌, ℕ, ◌+◌, ◌*◌, ◌<◌, ◌≤◌, List, [], ◌++◌, length, Option}
use Rattle.std.specs.Io.KnownBytes.{Consumes, IsAtEnd}
use Rattle.vbi_words.specs.Geometry.{line_bytes}
use Rattle.vbi_words.specs.declared.system.System.{System}
use Rattle.vbi_line.specs.Line.{Line, KeepsPasses}
use Rattle.vbi_line.specs.Counted.{device_of, failures_of, tries}
use Rattle.vbi_line.specs.declared.counted.Counted.{Counted}
use Rattle.vbi_line.specs.declared.intake.Intake.{Intake}
use Rattle.vbi_line.specs.declared.intake.Filled.{Filled}
use Rattle.vbi_line.specs.declared.intake.Filled.TheVariants.{Full, Ended}

module _ {R : Type 0} where
  -- the reader with the counts of its failed calls
  abbrev pub counted_of : Intake R → Counted R
  counted_of i = i.device

  -- how many bytes the reader has given
  abbrev pub fetched_of : Intake R → ℕ
  fetched_of i = i.fetched

  -- the buffer of the line
  abbrev pub line_of : Intake R → Line
  line_of i = i.line

  -- the bytes held
  abbrev pub held_of : Intake R → List ℕ
  held_of i = i.line.held

  -- an intake that has fetched no byte and looked at no sample, and whose reader hasn't failed
  pub record IsFresh (i : Intake R) (s : System) : Type 0 where
    pub system : i.line.system ≡ s
    pub held : i.line.held ≡ []
    pub cursors : i.line.cursors ≡ []
    pub looked : i.line.looked ≡ 0
    pub fetched : fetched_of i ≡ 0
    pub failures : (failures_of (counted_of i)).all ≡ 0

  -- the reader's next bytes are now held after the others, and the passes are as they were
  pub record FetchesBytes (remaining : R → Option (List ℕ)) (old new : Intake R) (bytes : List ℕ) : Type 0 where
    pub held : held_of new ≡ held_of old ++ bytes
    pub consumed : Consumes (remaining (device_of (counted_of old))) (remaining (device_of (counted_of new))) bytes
    pub fetched : fetched_of new ≡ fetched_of old + length bytes
    pub least : (failures_of (counted_of old)).all ≤ (failures_of (counted_of new)).all
    pub most : (failures_of (counted_of new)).all ≤ (failures_of (counted_of old)).all + tries * (length bytes + 1)
    pub kept : KeepsPasses old.line new.line

  -- some next bytes of the reader, which may be none, are now held
  abbrev pub Fetches : (R → Option (List ℕ)) → Intake R → Intake R → Type 0
  Fetches remaining old new = (bytes : List ℕ) × FetchesBytes remaining old new bytes

  -- a whole line is held, or the reader is at its end before that
  abbrev pub IsFilled : (R → Option (List ℕ)) → Filled → Intake R → Type 0
  IsFilled remaining Full i = length (held_of i) ≡ line_bytes i.line.system
  IsFilled remaining (Ended n) i =
      (n ≡ length (held_of i)) × (n < line_bytes i.line.system) × IsAtEnd (remaining (device_of (counted_of i)))

  -- the reader was not called
  pub record KeepsReader (old new : Intake R) : Type 0 where
    pub reader : counted_of new ≡ counted_of old
    pub fetched : fetched_of new ≡ fetched_of old
