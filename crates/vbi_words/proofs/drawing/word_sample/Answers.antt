use Rattle.vbi_words.proofs.Common.{rules, Some}
use Rattle.vbi_words.proofs.DrawnSamples.{drawn_sample_is}
use Rattle.vbi_words.proofs.drawing.word_sample.Goals as goal

pub returns-then-column-start : goal.returns-then-column-start
returns-then-column-start c =
    drawn_sample_is c.args.system c.args.slicing (Some c.args.word) c.args.column c.black.result (search rules)

pub returns-then-is_high_half : goal.returns-then-is_high_half
returns-then-is_high_half c =
    drawn_sample_is c.args.system c.args.slicing (Some c.args.word) c.args.column c.white.result (search rules)

pub returns-else-is_high_half : goal.returns-else-is_high_half
returns-else-is_high_half c =
    drawn_sample_is c.args.system c.args.slicing (Some c.args.word) c.args.column c.black-else-is_high_half.result
    (search rules)
