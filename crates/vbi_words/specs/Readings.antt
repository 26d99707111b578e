-- The reading of a line's levels: their outcome, or the word that the smoothed levels show.
use Rattle.std.specs.Prelude.{◌≡◌, ℕ, ◌⊎◌, Bool, List}
use Rattle.vbi_words.specs.declared.system.System.{System}
use Rattle.vbi_words.specs.declared.outcome.Outcome.{Outcome}
use Rattle.vbi_words.specs.declared.outcome.Outcome.TheVariants.{Word, Blank}
use Rattle.vbi_words.specs.declared.outcome.Reading.{Reading}
use Rattle.vbi_words.specs.Shows.{Shows, ShowsNone}
use Rattle.vbi_words.specs.Outcomes.{AllLow, IsOutcome}
use Rattle.vbi_words.specs.Smooth.{smooth_of}

-- the outcome and the pass of a reading: if it has no word, the smoothed levels show none either
abbrev pub Reads : System → List Bool → Outcome → ℕ → Type 0
Reads system levels (Word w) pass =
    ((pass ≡ 1) × Shows system levels w)
    ⊎ ((pass ≡ 2) × ShowsNone system levels × (AllLow levels → ⊥) × Shows system (smooth_of levels) w)
Reads system levels outcome pass = (pass ≡ 0) × IsOutcome system levels outcome × ShowsNone system (smooth_of levels)

-- the reading of the levels; each list has exactly one, as `laws::one_reading` of the crate `vbi_line` says
abbrev pub IsReading : System → List Bool → Reading → Type 0
IsReading system levels reading = Reads system levels reading.outcome reading.pass

-- the reading by two outcomes, that of the levels and that of the smoothed levels
abbrev pub reading_from : Outcome → Outcome → Reading
reading_from (Word w) smooth = record { outcome = Word w; pass = 1 }
reading_from Blank smooth = record { outcome = Blank; pass = 0 }
reading_from plain (Word w) = record { outcome = Word w; pass = 2 }
reading_from plain smooth = record { outcome = plain; pass = 0 }
