use Rattle.vbi_side.proofs.RightVotes.{sound_elected, right_elected}
use Rattle.vbi_side.proofs.vote_laws.elected_is_right.Goals as goal

pub returns : goal.returns
returns c = record { sound = sound_elected; complete = right_elected }
