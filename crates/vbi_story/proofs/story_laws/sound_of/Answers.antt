use Rattle.vbi_story.proofs.Sound.{all_right}
use Rattle.vbi_story.proofs.story_laws.sound_of.Goals as goal

pub returns : goal.returns
returns c = λ is_right readings before middle after a b from to heard.
    all_right is_right readings from to heard middle before after a b
