use Rattle.vbi_story.proofs.Believing.{no_rival}
use Rattle.vbi_story.proofs.story_laws.believed_is_sure.Goals as goal

pub returns : goal.returns
returns c = no_rival
