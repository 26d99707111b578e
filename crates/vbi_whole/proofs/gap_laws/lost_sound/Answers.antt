use Rattle.vbi_whole.proofs.WholeSides.{whole_lost}
use Rattle.vbi_whole.proofs.gap_laws.lost_sound.Goals as goal

pub returns : goal.returns
returns c = whole_lost
