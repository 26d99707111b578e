use Rattle.std.proofs.Common.{arith, ◌∷◌, ◌++◌}
use Rattle.vbi_story.specs.Story.{reading_at}
use Rattle.vbi_story.proofs.story_laws.sure.Goals as goal

pub returns : goal.returns
returns c = λ readings told before after bounds i best are inside less other.
    absurd (omega (
      arith,
      are i before after inside other.story_is,
      other.best told best.story_is,
      best.best (before ++ reading_at readings i ∷ after) other.story_is,
    ))
