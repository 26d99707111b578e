use Rattle.vbi_story.proofs.Sound.{all_on}
use Rattle.vbi_story.proofs.story_laws.sound.Goals as goal

pub returns : goal.returns
returns c = λ readings before middle after a b row from to ran best on_a on_b begin end.
    all_on readings row from to ran middle before after a b best on_a on_b begin end
