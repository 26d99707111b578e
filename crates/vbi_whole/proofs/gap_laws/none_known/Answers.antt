use Rattle.vbi_whole.proofs.WholeSides.{none_known}
use Rattle.vbi_whole.proofs.gap_laws.none_known.Goals as goal

pub returns : goal.returns
returns c = none_known
