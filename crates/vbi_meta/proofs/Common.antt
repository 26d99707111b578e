-- The names that more than one proof cites, each passed on from the module that defines it.
pub use Rattle.std.proofs.Common.{[], ◌%◌, ◌&&◌, ◌*◌, ◌++◌, ◌+◌, ◌<◌, ◌==◌, ◌^◌, ◌||◌, ◌∙◌, ◌∷◌, ◌≡◌, ◌≤◌, ◌⊎◌, Bool}
pub use Rattle.std.proofs.Common.{IsUtf8, List, None, Option, Some, ap, append-nil, append_assoc, ap₂, arith, cond}
pub use Rattle.std.proofs.Common.{decimal, false, inl, inr, leb, length, lit<, lit≤, map, not, option_and_then}
pub use Rattle.std.proofs.Common.{option_map, refl, subst, suc, sym, true, zero, ℕ}
pub use Rattle.std.proofs.lemmas.Bool.{and_parts, not-true}
pub use Rattle.std.proofs.lemmas.Fmt.{decimal_is_IsNumeral}
pub use Rattle.std.proofs.lemmas.List.Elements.{All-from_recursion}
pub use Rattle.std.proofs.lemmas.Str.{IsUtf8-append}
pub use Rattle.std.proofs.lemmas.Str.Parse.{digit_from_value}
pub use Rattle.std.specs.List.{AllByRecursion, join_by, range_with_len}
pub use Rattle.std.specs.Prelude.{codes, if◌then◌else◌}
pub use Rattle.std.specs.Str.Parse.{AllDigits}
pub use Rattle.json.proofs.Printed.Tokens.{tokens-print_spaced}
pub use Rattle.json.proofs.Printed.Trees.{ArePrintable-json_tokens}
pub use Rattle.json.proofs.Printed.Utf8.{IsUtf8-are_ascii, are_ascii}
pub use Rattle.json.specs.Lex.{tokens}
pub use Rattle.json.specs.Print.{ArePrintable, ends, escape, quoted, token_text}
pub use Rattle.json.specs.Spaced.{AreGaps, IsGap}
pub use Rattle.json.specs.Token.{Token, end_array}
pub use Rattle.json.specs.Tree.{depth, items_tokens, json_tokens, members_tokens}
pub use Rattle.serde_json.specs.Data.{Data, string}
pub use Rattle.serde_json.specs.Find.{at}
pub use Rattle.serde_json.specs.Read.{max_depth, of_json, read}
pub use Rattle.serde_json.specs.View.{items_of}
pub use Rattle.vbi_field.proofs.OneRecoveredDocument.{is_one}
pub use Rattle.vbi_field.specs.CodeTexts.{Blank, Change, Hold, Outcome, Unfinished, Word, cause_text_of}
pub use Rattle.vbi_field.specs.ConfigView.{ConfigView, Ntsc, Pal, System, field_bytes, height_of, name_of, width_of}
pub use Rattle.vbi_field.specs.Document.{value_of}
pub use Rattle.vbi_field.specs.RecoveredDocument.{FieldRecovered, Near, cause_line, cause_lines, hundredths}
pub use Rattle.vbi_field.specs.RecoveredDocument.{recovered_record_of, recovered_without, word_or_zero}
pub use Rattle.vbi_field.specs.RecoveredRows.{as_readings, joined_rows, reading_as}
pub use Rattle.vbi_field.specs.Stream.{Reading, fields_of, line_at, reading_at, readings_at, rest_of, row_levels}
pub use Rattle.vbi_field.specs.Stream.{rows_at, rows_in}
pub use Rattle.vbi_field.specs.Texts.{document, recovered_document, whole_text}
pub use Rattle.vbi_field.specs.declared.readings.FieldReadings.{FieldReadings}
pub use Rattle.vbi_line.proofs.OneReading.{is_reading}
pub use Rattle.vbi_near.specs.Candidates.{Candidates, Line}
pub use Rattle.vbi_near.specs.Distances.{unit_of}
pub use Rattle.vbi_near.specs.Recovery.{IsRecovered, Seen, alone, none_erased, said_by}
pub use Rattle.vbi_near.specs.declared.recovery.Recovered.{Recovered}
pub use Rattle.vbi_words.specs.Levels.{Slicing, samples_of}
pub use Rattle.vbi_words.specs.Words.{IsWord}
pub use Rattle.vbi_meta.specs.DocumentValue.{IsOfRun, document_value, document_with, field_value, field_with}
pub use Rattle.vbi_meta.specs.DocumentValue.{lines_value, near_value, nears_value, object_of, recovered_field_value}
pub use Rattle.vbi_meta.specs.DocumentValue.{recovered_value, whole_of}
pub use Rattle.vbi_meta.specs.ReadBack.{HasLine, IsPlain, IsPlainText, IsPrinted, IsReadAs, IsSmall, field_in}
pub use Rattle.vbi_meta.specs.ReadBack.{nearest_of, word_of}
