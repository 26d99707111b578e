use Rattle.vbi_words.proofs.DrawnSamples.{is_drawn_row, only_drawn_row}
use Rattle.vbi_words.proofs.DrawnLines.{length-drawn_line_of, samples_of-drawn_line_of}
use Rattle.vbi_words.proofs.laws.one_drawn_row.Goals as goal

pub returns : goal.returns
returns c = record {
  is = is_drawn_row;
  only = only_drawn_row;
  bytes = λ system slicing word.
      (length-drawn_line_of system slicing word, samples_of-drawn_line_of system slicing word);
}
