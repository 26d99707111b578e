use Rattle.vbi_story.proofs.Sound.{leaving_near, leaving_far}
use Rattle.vbi_story.proofs.story_laws.leaving.Goals as goal

pub returns-clause-near : goal.returns-clause-near
returns-clause-near c = leaving_near

pub returns-clause-far : goal.returns-clause-far
returns-clause-far c = leaving_far
