use Rattle.vbi_line.proofs.Steps.{begun_top}
use Rattle.vbi_line.proofs.decoder.Decoder.word.Goals as goal

pub word_of-requires : goal.word_of-requires
word_of-requires c =
    let sound = rw (c.in-Second.is, c.if-cells-eq-CELLS.true) at c.requires.sound in
    let fit = rw (c.in-Second.is, c.if-cells-eq-CELLS.true) at c.requires.fit in
    (begun_top c.in-Second.bits fit.3, sound.1)

pub word_of-requires-in-Tail : goal.word_of-requires-in-Tail
word_of-requires-in-Tail c =
    let sound = rw c.in-Tail.is at c.requires.sound in
    let fit = rw c.in-Tail.is at c.requires.fit in
    (begun_top c.in-Tail.bits fit.1, sound)
