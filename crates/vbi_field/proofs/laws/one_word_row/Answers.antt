use Rattle.vbi_field.proofs.WordRowLaw.{is_word_row, word_row_is}
use Rattle.vbi_field.proofs.laws.one_word_row.Goals as goal

pub returns : goal.returns
returns c = λ row words. (is_word_row row words, word_row_is row words)
