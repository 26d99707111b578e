use Rattle.vbi_words.proofs.DrawnShows.{row_amply}
use Rattle.vbi_words.proofs.Blurred as blurred_rows
use Rattle.vbi_words.proofs.laws.glitches_read.Goals as goal

pub returns : goal.returns
returns c = record {
  any = blurred_rows.glitches_read;
  drawn = λ system slicing word n blurred levels order is_word.
      blurred_rows.glitches_read system _ blurred levels word n (row_amply system slicing word order is_word);
  away = blurred_rows.away;
}
