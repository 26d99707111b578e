use Rattle.vbi_words.proofs.Apart.{same_word}
use Rattle.vbi_words.proofs.laws.words_apart.Goals as goal

pub returns : goal.returns
returns c = same_word
