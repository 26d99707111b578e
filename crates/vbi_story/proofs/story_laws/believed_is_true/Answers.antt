use Rattle.vbi_story.proofs.TrueBeliefs.{on_near, on_far}
use Rattle.vbi_story.proofs.story_laws.believed_is_true.Goals as goal

pub returns-clause-near : goal.returns-clause-near
returns-clause-near c = on_near

pub returns-clause-far : goal.returns-clause-far
returns-clause-far c = on_far
