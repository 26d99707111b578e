use Rattle.vbi_words.proofs.DrawnShows.{row_amply}
use Rattle.vbi_words.proofs.Blurred.{blurred_reads}
use Rattle.vbi_words.proofs.laws.blur_read.Goals as goal

pub returns : goal.returns
returns c = record {
  any = blurred_reads;
  drawn = λ system slicing word levels order is_word.
      blurred_reads system _ levels word (row_amply system slicing word order is_word);
}
