use Rattle.vbi_meta.proofs.DocumentReads.{recovered_is_read}
use Rattle.vbi_meta.proofs.laws.recovered_reads.Goals as goal

pub returns : goal.returns
returns c = recovered_is_read
