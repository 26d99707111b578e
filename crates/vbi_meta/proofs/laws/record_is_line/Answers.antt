use Rattle.vbi_meta.proofs.RecordLines.{record_is_line}
use Rattle.vbi_meta.proofs.laws.record_is_line.Goals as goal

pub returns : goal.returns
returns c = record_is_line
