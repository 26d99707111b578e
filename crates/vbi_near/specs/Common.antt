-- The words of the crates below, and of pictures and distances, on which most definitions and contracts here stand.
pub use Rattle.vbi_words.specs.declared.system.System.{System}
pub use Rattle.vbi_words.specs.declared.system.System.TheVariants.{Ntsc, Pal}
pub use Rattle.vbi_words.specs.declared.outcome.Outcome.{Outcome}
pub use Rattle.vbi_words.specs.declared.outcome.Outcome.TheVariants.{Word, Blank, Change, Unfinished}
pub use Rattle.vbi_words.specs.declared.outcome.Reading.{Reading}
pub use Rattle.vbi_words.specs.Geometry.{width_of, start_of, line_bytes, line_at}
pub use Rattle.vbi_words.specs.Levels.{Slicing, samples_of, row_levels}
pub use Rattle.vbi_words.specs.Words.{IsWord, IsWordOrNone, cell_of, halves_of}
pub use Rattle.vbi_words.specs.Codes.{digit_of, IsBetween}
pub use Rattle.vbi_words.specs.Drawn.{boundary}
unfoldable pub use Rattle.vbi_words.specs.Drawn.{drawn_row_of}
pub use Rattle.vbi_words.specs.Jitter.{differences}
pub use Rattle.vbi_line.specs.Line.{sample_at}
unfoldable pub use Rattle.vbi_line.specs.OneReading.{reading_of, outcome_of}
pub use Rattle.vbi_near.specs.Pictures.{half_length, column_of, word_length, starts, IsPlace, drawn_as}
unfoldable pub use Rattle.vbi_near.specs.Pictures.{drawn_halves, picture_of}
pub use Rattle.vbi_near.specs.Distances.{Samples, unit_of, known, known_but, lines_of, Shades, shades, shade, IsPile}
pub use Rattle.vbi_near.specs.Distances.{AreFew}
unfoldable pub use Rattle.vbi_near.specs.Distances.{most_of, row_distance, distance_of}
