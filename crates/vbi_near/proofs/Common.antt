-- The words that most proofs here speak of: those of the crates below, and of rows, their sums and what is nearest.
pub use Rattle.vbi_near.specs.Common.{System, Ntsc, Pal, Outcome, Word, Blank, Change, Unfinished, Reading, width_of}
pub use Rattle.vbi_near.specs.Common.{start_of, line_bytes, line_at, Slicing, samples_of, row_levels, IsWord}
pub use Rattle.vbi_near.specs.Common.{IsWordOrNone, cell_of, halves_of, digit_of, IsBetween, boundary, differences}
pub use Rattle.vbi_near.specs.Common.{sample_at, half_length, column_of, word_length, starts, IsPlace, drawn_as}
pub use Rattle.vbi_near.specs.Common.{Samples, unit_of, known, known_but, lines_of, Shades, shades, shade, IsPile}
pub use Rattle.vbi_near.specs.Common.{AreFew}
unfoldable pub use Rattle.vbi_near.specs.Common.{drawn_row_of, reading_of, outcome_of, drawn_halves, picture_of}
unfoldable pub use Rattle.vbi_near.specs.Common.{most_of, row_distance, distance_of}
pub use Rattle.vbi_words.specs.declared.outcome.Outcome.TheVariants.{Hold}
unfoldable pub use Rattle.vbi_words.specs.Words.{lowest_bits}
pub use Rattle.vbi_near.specs.Pictures.{sample_of}
pub use Rattle.vbi_near.specs.Distances.{off_by}
unfoldable pub use Rattle.vbi_near.specs.Distances.{column_cost, distance_from}
pub use Rattle.vbi_near.specs.Sums.{AreSums, AreBoth, IsRising, AreRowSums, total_in, span}
pub use Rattle.vbi_near.specs.Costs.{half_cost, cell_cost}
unfoldable pub use Rattle.vbi_near.specs.Costs.{bits_cost, place_cost}
pub use Rattle.vbi_near.specs.Rows.{shades_of, word_cost_by, code_cost_by, around_cost, IsRowOf, IsNearOf, IsNearWord}
pub use Rattle.vbi_near.specs.Rows.{IsNearCode}
pub use Rattle.vbi_near.specs.Nearest.{IsNearestBy, far_from, IsNearest, IsNearestCode, IsBefore, Precedes, IsFirstBy}
pub use Rattle.vbi_near.specs.Nearest.{IsFirst, IsFirstCode}
pub use Rattle.vbi_near.specs.LineCodes.{Range, range, IsIn, IsOneOf, is_beyond_79999, codes_of_17, codes_of_16}
pub use Rattle.vbi_near.specs.LineCodes.{codes_of, IsCodePlace, digit_at, AtEachPlace, IsRange}
pub use Rattle.vbi_near.specs.Leads.{digit_cost, IsDigitCost, IsChoice, AreBest, Places, at_start, ArePriced, Look}
pub use Rattle.vbi_near.specs.Leads.{look, IsSeen, with_ranges, looks_before, all_codes, code_cost, IsLead, IsAhead}
pub use Rattle.vbi_near.specs.Leads.{IsFew, IsClose, IsCodeChosen}
unfoldable pub use Rattle.vbi_near.specs.Leads.{digits_cost, AreDigits}
pub use Rattle.vbi_near.specs.Best.{IsBits, HasOther, IsBest, every, bits_at, AreGrown, IsFound, AreBounds, IsChosen}
pub use Rattle.vbi_near.specs.LongerSignal.{cell_length, GoesOn, IsLeastRow, HasLeastRow, IsLonger, IsBeside}
pub use Rattle.vbi_near.specs.LongerSignal.{IsWithCell, IsLongerFound}
unfoldable pub use Rattle.vbi_near.specs.LongerSignal.{begun_earlier, ended_later}
pub use Rattle.vbi_near.specs.ShorterSignal.{begun_later, ended_earlier, IsCutShort, IsShorter, bit_in_cell}
pub use Rattle.vbi_near.specs.ShorterSignal.{IsShorterFound}
unfoldable pub use Rattle.vbi_near.specs.ShorterSignal.{row_of_halves}
pub use Rattle.vbi_near.specs.HalvedSignal.{half_of, halved_far, row_cost, halved_cost}
pub use Rattle.vbi_near.specs.StretchedCells.{stretched_offset, stretched_half, stretched_length, IsStretchedPlace}
pub use Rattle.vbi_near.specs.StretchedCells.{IsLeastAt, IsStretched, stretched_cost, stretched_word_cost}
pub use Rattle.vbi_near.specs.StretchedCells.{stretched_row_cost, IsAtRate, IsStartBefore, IsRateBefore}
unfoldable pub use Rattle.vbi_near.specs.StretchedCells.{halves_with, stretched_picture, halves_cost}
pub use Rattle.vbi_near.specs.declared.near.Near.{Near}
pub use Rattle.vbi_near.specs.declared.near.Nears.{Nears}
pub use Rattle.vbi_near.specs.declared.word_search.Found.{Found}
pub use Rattle.vbi_near.specs.declared.sums.Sums.{Sums}
pub use Rattle.vbi_near.specs.declared.bits.Bits.{Bits}
