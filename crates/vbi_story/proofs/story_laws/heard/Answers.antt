use Rattle.vbi_story.proofs.Sound.{run_heard}
use Rattle.vbi_story.proofs.story_laws.heard.Goals as goal

pub returns : goal.returns
returns c = run_heard
