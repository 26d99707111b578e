use Rattle.vbi_side.proofs.ToldTimes.{completed_soundly, completed_rightly}
use Rattle.vbi_side.proofs.vote_laws.completed_is_right.Goals as goal

pub returns : goal.returns
returns c = record { sound = completed_soundly; complete = completed_rightly }
