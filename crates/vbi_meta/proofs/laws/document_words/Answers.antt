use Rattle.vbi_field.specs.Texts.{document, whole_text}
use Rattle.vbi_meta.proofs.DocumentReads.{document_is_read}
use Rattle.vbi_meta.proofs.DocumentReadings.{has_readings}
use Rattle.vbi_meta.proofs.laws.document_words.Goals as goal

pub returns : goal.returns
returns _ = λ c z run. has_readings c z (whole_text document c z) (document_is_read c z run).value_of_text
