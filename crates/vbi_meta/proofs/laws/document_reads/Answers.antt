use Rattle.vbi_meta.proofs.DocumentReads.{document_is_read}
use Rattle.vbi_meta.proofs.laws.document_reads.Goals as goal

pub returns : goal.returns
returns c = document_is_read
