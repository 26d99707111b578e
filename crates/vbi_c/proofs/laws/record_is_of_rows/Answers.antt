use Rattle.vbi_c.proofs.RecordWords.{has_words_of}
use Rattle.vbi_c.proofs.laws.record_is_of_rows.Goals as goal

pub returns : goal.returns
returns c = has_words_of
