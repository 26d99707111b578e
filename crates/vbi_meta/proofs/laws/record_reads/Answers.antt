use Rattle.vbi_meta.proofs.DocumentReads.{record_is_read}
use Rattle.vbi_meta.proofs.laws.record_reads.Goals as goal

pub returns : goal.returns
returns c = record_is_read
