-- What a record of version 3 has of a field: its numbers are of 64 bits, and its causes need no escape.
use Rattle.vbi_meta.proofs.Common.{◌≡◌, ℕ, ◌<◌, ◌^◌, ◌==◌, Bool, true, false, List, length, refl, sym, subst}
use Rattle.vbi_meta.proofs.Common.{if◌then◌else◌, System, Reading, line_at, Slicing, row_levels, Recovered, Line}
use Rattle.vbi_meta.proofs.Common.{Candidates, unit_of, Seen, IsRecovered, alone, said_by, FieldRecovered, cause_line}
use Rattle.vbi_meta.proofs.Common.{◌+◌, as_readings, is_one, joined_rows, recovered_without}
use Rattle.vbi_words.specs.Readings.{IsReading}
use Rattle.vbi_near.specs.Candidates.{row_of, marks_at}
use Rattle.vbi_near.specs.Recovery.{AreSeen, are_open, stands_by, stands_of, row_at, recovered_of, field_line}
use Rattle.vbi_field.specs.RecoveredDocument.{RowsRecover}
use Rattle.vbi_field.specs.Stream.{FieldRows}
use Rattle.vbi_meta.proofs.RecoveredLines.{SayWords, AreWords, near_few, of_both, alone_words, by_words, either}
use Rattle.vbi_meta.proofs.RecoveredLines.{line_shown}
use Rattle.vbi_meta.proofs.ShownLines.{IsShown, AreShown, IsShort, short_row, short_levels, is_shown}
use Rattle.vbi_meta.proofs.ValueReads.{IsWritten}

-- ---- rows

record AreShort (rows : FieldRows) : Type 0 where
  pub first : IsShort rows.first
  pub second : IsShort rows.second
  pub third : IsShort rows.third

-- ---- what three rows show

module _ (system : System) (slicing : Slicing) (rows : List ℕ) (marks : List Bool) (first second third : Seen)
    (both : Candidates) (seen : AreSeen (field_line system slicing rows marks) first second third both) where
  abbrev unit : ℕ
  unit = unit_of slicing

  short : (i : ℕ) → length (row_levels slicing (line_at system rows 0 i)) < 2 ^ 64
  short i = short_levels slicing (line_at system rows 0 i) (short_row system rows 0 i)

  -- what one of two open lines says, or one alone
  pair-words : (opened : Bool) → are_open unit second third ≡ opened → (near : Candidates) → SayWords unit near
      → AreWords (said_by (if opened then stands_by unit second.near third.near both else alone) unit near both)
  pair-words true e near says =
      by_words (stands_by unit second.near third.near both) unit near both says
      (of_both (field_line system slicing rows marks 1) (row_at system rows marks 2) both (seen.pair e))
  pair-words false e near says = alone_words unit near both says

  three-shown : AreShown (as_readings (recovered_of unit first second third both))
  three-shown =
      let line : ℕ → Line = field_line system slicing rows marks in
      let stands = stands_of unit second third both in
      let opened = are_open unit second third in
      record {
        first = line_shown (line 0) first alone both (short 0) seen.line_16
            (alone_words unit first.near both);
        second = line_shown (line 1) second stands both (short 1) seen.line_17
            (pair-words opened refl second.near);
        third = line_shown (line 2) third stands both (short 2) seen.line_18
            (pair-words opened refl third.near);
      }

shown_field : (system : System) (slicing : Slicing) (rows : List ℕ) (marks : List Bool) (shown : List Recovered)
    → IsRecovered system slicing rows marks shown → AreShown (as_readings shown)
shown_field system slicing rows marks shown (first, second, third, both, seen, e) =
    subst (λ (l : List Recovered). AreShown (as_readings l)) (sym e)
    (three-shown system slicing rows marks first second third both seen)

-- ---- a field

cause_shown : (shown reading : Reading) → IsShown shown → IsShown reading → IsShown (cause_line shown reading)
cause_shown shown reading is are = either IsShown (shown.pass == 3) reading shown (λ e. are) (λ e. is)

is_written : (system : System) (slicing : Slicing) (rows : FieldRows) (marks : List Bool) (field : FieldRecovered)
    → slicing.white < 65536 → AreShort rows → RowsRecover system slicing rows marks field → IsWritten slicing field
is_written system slicing rows marks field small short is =
    let shown = shown_field system slicing (joined_rows rows) marks field.shown is.shown in
    let lines = as_readings field.shown in
    let read : (bytes : List ℕ) (reading : Reading) → IsShort bytes
    → IsReading system (row_levels slicing bytes) reading → IsShown reading
    = λ bytes reading few reads. is_shown system (row_levels slicing bytes) (short_levels slicing bytes few)
    reading.outcome reading.pass reads in
    record {
      lines = shown;
      causes = record {
        first = cause_shown lines.first field.readings.first shown.first
            (read rows.first field.readings.first short.first is.first_reads);
        second = cause_shown lines.second field.readings.second shown.second
            (read rows.second field.readings.second short.second is.second_reads);
        third = cause_shown lines.third field.readings.third shown.third
            (read rows.third field.readings.third short.third is.third_reads);
      };
      first = near_few system slicing (row_of rows.first (marks_at system marks 0)) field.first small short.first
          is.first;
      second = near_few system slicing (row_of rows.second (marks_at system marks 1)) field.second small short.second
          is.second;
      third = near_few system slicing (row_of rows.third (marks_at system marks 2)) field.third small short.third
          is.third;
    }

-- that of three rows of a stream, one after the other
pub rows_written : (system : System) (slicing : Slicing) (z : List ℕ) (i r : ℕ) (marks : List Bool)
    → slicing.white < 65536
    → let rows : FieldRows
    = record {
      first = line_at system z i r;
      second = line_at system z i (r + 1);
      third = line_at system z i (r + 2);
    } in
    IsWritten slicing (recovered_without system slicing rows marks)
rows_written system slicing z i r marks small =
    let short = short_row system z i in
    is_written system slicing _ marks _ small
    (record { first = short r; second = short (r + 1); third = short (r + 2) }) (is_one system slicing _ marks)
