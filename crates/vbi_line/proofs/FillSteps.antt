-- What holds between the reads of a call of `fill_line`.
use Rattle.vbi_line.proofs.Common.{◌≡◌, ℕ, ◌+◌, ◌*◌, ◌<◌, ◌≤◌, List, ◌++◌, length, Option, line_bytes}
use Rattle.std.specs.Io.KnownBytes.{Consumes}
use Rattle.vbi_line.specs.Line.{KeepsPasses}
use Rattle.vbi_line.specs.Counted.{device_of, failures_of, NoError, IsSameDevice}
use Rattle.vbi_line.specs.Intake.{counted_of, held_of}
use Rattle.vbi_line.specs.declared.intake.Intake.{Intake}

-- what the call has done so far: the bytes that it read, and no error
pub record Since {R : Type 0} (remaining : R → Option (List ℕ)) (old now : Intake R) : Type 0 where
  pub bytes : List ℕ
  pub held : held_of now ≡ held_of old ++ bytes
  pub consumed : Consumes (remaining (device_of (counted_of old))) (remaining (device_of (counted_of now))) bytes
  pub fetched : now.fetched ≡ old.fetched + length bytes
  pub least : (failures_of (counted_of old)).all ≤ (failures_of (counted_of now)).all
  pub most : (failures_of (counted_of now)).all ≤ (failures_of (counted_of old)).all + 16 * length bytes
  pub no_error : NoError (counted_of old) (counted_of now)
  pub longest : (failures_of (counted_of now)).streak ≤ (failures_of (counted_of old)).streak
  pub kept : KeepsPasses old.line now.line
  pub same_reader : IsSameDevice (counted_of old) (counted_of now)
  pub short : length (held_of now) < line_bytes now.line.system
