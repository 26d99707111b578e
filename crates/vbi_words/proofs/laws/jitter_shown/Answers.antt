use Rattle.vbi_words.proofs.Common.{ℕ, Bool, List, arith, System, Word, ShowsAmply, IsJittered, ReadsWord, Shows}
use Rattle.vbi_words.specs.Readings.{Reads}
use Rattle.vbi_words.proofs.DrawnShows.{row_amply}
use Rattle.vbi_words.proofs.Blurred.{blurred_reads}
use Rattle.vbi_words.proofs.laws.jitter_shown.Goals as goal

-- a jittered row is blurred, and no column stands alone, so its word is read in the first pass
shown : (system : System) (drawn levels : List Bool) (word : ℕ) → ShowsAmply system drawn word
    → IsJittered drawn levels → Shows system levels word
shown system drawn levels word s (blurred, none_alone) = go r.reading
  where
    r : ReadsWord system levels word
    r = blurred_reads system drawn levels word s blurred

    go : Reads system levels (Word word) r.pass → Shows system levels word
    go h = grind arith

pub returns : goal.returns
returns c = record {
  any = shown;
  drawn = λ system slicing word levels order is_word.
      shown system _ levels word (row_amply system slicing word order is_word);
}
