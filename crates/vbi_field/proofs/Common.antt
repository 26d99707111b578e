-- The names that more than one proof cites, each passed on from the module that defines it.
pub use Rattle.std.proofs.Common.{[], ◌%◌, ◌*◌, ◌++◌, ◌+◌, ◌-◌, ◌/◌, ◌<◌, ◌^◌, ◌∙◌, ◌∷◌, ◌≡◌, ◌≤◌, ◌⊎◌, Bool, List}
pub use Rattle.std.proofs.Common.{None, Option, Some, add-one, add-zero, ap, append-nil, append_assoc, arith, cond}
pub use Rattle.std.proofs.Common.{drop, false, get_or, inl, inr, length, map, refl, replicate, rules, subst, suc, sym}
pub use Rattle.std.proofs.Common.{take, true, zero, zero-add, zero-le, ℕ}
pub use Rattle.std.proofs.KnownBytes.{Appends-nil, Appends-trans, Consumes-nil, Consumes-trans}
pub use Rattle.std.proofs.Math.Nat.{eq-or-lt_of_le, eq-zero-or-pos, le_of_eq, le_refl, le_trans, mul-le-mul_right}
pub use Rattle.std.proofs.Math.Nat.{suc-mul, zero-div, zero-mul}
pub use Rattle.std.proofs.Math.Seq.{take-add}
pub use Rattle.std.proofs.lemmas.Bool.{ltb-true}
pub use Rattle.std.proofs.lemmas.Bool.Decides.{nat_tests}
pub use Rattle.std.proofs.lemmas.Grind.{flat_map-append}
pub use Rattle.std.proofs.lemmas.List.{drop-drop, length-append, length-drop, length-take-le, take-append-drop}
pub use Rattle.std.proofs.lemmas.List.{take-append-le, take_all, take_at}
pub use Rattle.std.proofs.lemmas.List.Splits.{join_with_byte-slice_split, slice_split_none}
pub use Rattle.std.specs.Char.{is_digit}
pub use Rattle.std.specs.Io.KnownBytes.{Appends, IsAtEnd}
pub use Rattle.std.specs.List.{flat_map, join_by, join_with_byte, list_all, range_with_len}
pub use Rattle.std.specs.Prelude.{◌==◌, ◌↔◌, Err, IsErrAnd, IsTrue, Ok, Result, codes, if◌then◌else◌, slice_get}
pub use Rattle.std.specs.Str.Parse.{digits_value}
pub use Rattle.vbi_line.proofs.OneReading.{is_reading, only_reading}
pub use Rattle.vbi_line.specs.Line.{Line}
pub use Rattle.vbi_line.specs.declared.intake.Filled.TheVariants.{Full}
pub use Rattle.vbi_line.specs.declared.intake.Intake.{Intake}
pub use Rattle.vbi_near.specs.Candidates.{given_samples, row_of}
pub use Rattle.vbi_near.specs.Recovery.{none_erased}
pub use Rattle.vbi_near.specs.declared.recovery.Recovered.{Recovered}
pub use Rattle.vbi_words.proofs.DrawnLines.{length-drawn_line_of}
pub use Rattle.vbi_words.specs.Drawn.{drawn_line_of}
pub use Rattle.vbi_words.specs.Levels.{Slicing}
pub use Rattle.vbi_words.specs.Words.{IsWordOrNone}
pub use Rattle.vbi_field.specs.ConfigView.{ConfigView, Ntsc, Pal, System, allowed_bytes, field_bytes, height_of}
pub use Rattle.vbi_field.specs.ConfigView.{line_bytes, longest_row, most_rows, width_of}
pub use Rattle.vbi_field.specs.Draws.{AreDrawable, EndsRow, RunsDrawing, drawn_readings, word_at}
pub use Rattle.vbi_field.specs.Extracts.{EndsWithin, PutsTail, Runs, TakesLine}
pub use Rattle.vbi_field.specs.Feed.{Feeding, IsAt, IsFed, IsFeederState, IsFinished, IsStep, StandsAt, position_in}
pub use Rattle.vbi_field.specs.Feed.{selected}
pub use Rattle.vbi_field.specs.Outlet.{HasCause, IsSameDevice, NoError, Outlet, Puts, Wrote, WrotePart, device_of}
pub use Rattle.vbi_field.specs.Outlet.{failures_of, tries, written_of}
pub use Rattle.vbi_field.specs.Progress.{AddsRow, HoldsOn, HoldsRows, IsKept, IsLineOf, IsProgress, MovesOneRow}
pub use Rattle.vbi_field.specs.Progress.{Progress}
pub use Rattle.vbi_field.specs.Ran.{Consumes, EndsInside, Read, RunFault, Summary, TooManyFields, Write, over}
pub use Rattle.vbi_field.specs.RecoveredDocument.{recovered_without}
pub use Rattle.vbi_field.specs.RecoveredRows.{as_readings, joined_rows}
pub use Rattle.vbi_field.specs.RowIntake.{Fetches, HasNoNewline, RowIntake, TakesByte, TakesRow}
pub use Rattle.vbi_field.specs.Stream.{FieldReadings, FieldRows, Position, Reading, fields_of, line_at, looks_of}
pub use Rattle.vbi_field.specs.Stream.{reading_among, reading_at, reading_of, readings_of, rest_of, row_levels, rows_at}
pub use Rattle.vbi_field.specs.Stream.{rows_in}
pub use Rattle.vbi_field.specs.Texts.{ExtendsInPart, FieldReads, IsTextBetween, Kind, ReadingKind, by, document}
pub use Rattle.vbi_field.specs.Texts.{joined_entry_of, whole_text}
pub use Rattle.vbi_field.specs.WordRows.{AreRows, WordRow, newline, parts_of, row_of_items, row_of_parts, row_words}
pub use Rattle.vbi_field.specs.WordRows.{rows_of}
pub use Rattle.vbi_field.specs.declared.drawing.DrawFault.{DrawFault}
pub use Rattle.vbi_field.specs.declared.row_intake.NextRow.TheVariants.{Malformed}
