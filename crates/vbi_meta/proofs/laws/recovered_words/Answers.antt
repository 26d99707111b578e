use Rattle.vbi_field.specs.Texts.{recovered_document, whole_text}
use Rattle.vbi_meta.proofs.DocumentReads.{recovered_is_read}
use Rattle.vbi_meta.proofs.DocumentReadings.{has_recovered}
use Rattle.vbi_meta.proofs.laws.recovered_words.Goals as goal

pub returns : goal.returns
returns _ = λ c z run.
    has_recovered c z (whole_text recovered_document c z) (recovered_is_read c z run).value_of_text
