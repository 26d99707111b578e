use Rattle.vbi_side.proofs.MisreadWords.{wrong_misread, sound_read, near_read, still_read}
use Rattle.vbi_side.proofs.number_laws.misread_words.Goals as goal

pub returns : goal.returns
returns c = record { weight = wrong_misread; sound = sound_read; near = near_read; still = still_read }
