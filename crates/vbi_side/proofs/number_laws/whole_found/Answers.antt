use Rattle.vbi_side.proofs.Whole.{finds_video, finds_film}
use Rattle.vbi_side.proofs.number_laws.whole_found.Goals as goal

pub returns : goal.returns
returns c = record { video = finds_video; film = finds_film }
