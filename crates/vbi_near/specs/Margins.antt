-- By how much nearest words have to be ahead of others, for each way in which lines are asked.
--
-- A nearest word has to be ahead of any other by some columns, and by a share of what a cell counts on average in the
-- lines. Noise makes all cells count less, a dropout some of them, and those may say anything. A cell with the other
-- bit is farther by about twice as much as a black one, so a cell counts about a twelfth of how much nearer the word is
-- than none, which is 24 of the 288 parts that a share is given in. The signal may go on beyond the word, or have
-- fewer cells, by `ends` columns in each line.
use Rattle.std.specs.Prelude.{ℕ}
use Rattle.vbi_near.specs.declared.margins.Margin.{Margin}
use Rattle.vbi_near.specs.declared.margins.Margins.{Margins}
use Rattle.vbi_near.specs.declared.margins.MarginSet.{MarginSet}

-- by this many columns, and by a share of so many of the 288 parts
abbrev pub ahead_by : ℕ → ℕ → Margin
ahead_by columns share = record { columns = columns; share = share }

-- what codes and other words have to be ahead by, with so many columns at the ends of each line
abbrev pub by : Margin → Margin → ℕ → Margins
by code other ends = record { code = code; other = other; ends = ends }

-- on levelled lines: one line, one of two whose nearest words don't agree, so that one of them at least is badly worn
-- or they have two words, and two lines together
abbrev pub levelled_margins : MarginSet
levelled_margins = record {
  lone = by (ahead_by 4 10) (ahead_by 5 8) 2;
  apart = by (ahead_by 8 0) (ahead_by 10 0) 2;
  both = by (ahead_by 8 10) (ahead_by 5 7) 2;
}

-- on lines as they are, which aren't smoothed: so noise takes more from what their ends count
abbrev pub given_margins : MarginSet
given_margins = record {
  lone = by (ahead_by 6 0) (ahead_by 8 0) 3;
  apart = by (ahead_by 8 0) (ahead_by 10 0) 3;
  both = by (ahead_by 8 8) (ahead_by 8 6) 3;
}
