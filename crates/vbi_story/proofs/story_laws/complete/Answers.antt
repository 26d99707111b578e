use Rattle.vbi_story.proofs.Sound.{none_left_out}
use Rattle.vbi_story.proofs.story_laws.complete.Goals as goal

pub returns : goal.returns
returns c = none_left_out
