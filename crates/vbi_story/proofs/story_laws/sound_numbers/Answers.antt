use Rattle.vbi_story.proofs.Sound.{numbers_sound}
use Rattle.vbi_story.proofs.story_laws.sound_numbers.Goals as goal

pub returns : goal.returns
returns c = λ readings before middle after a b row from to big recorded video runs ran best begin end is_a is_b.
    numbers_sound big row from to recorded readings video runs before middle after a b ran best begin end
    is_a is_b
