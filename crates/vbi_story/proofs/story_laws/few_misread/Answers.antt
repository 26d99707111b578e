use Rattle.vbi_story.proofs.Sound.{few_near, few_far}
use Rattle.vbi_story.proofs.story_laws.few_misread.Goals as goal

pub returns-clause-near : goal.returns-clause-near
returns-clause-near c = few_near

pub returns-clause-far : goal.returns-clause-far
returns-clause-far c = few_far
