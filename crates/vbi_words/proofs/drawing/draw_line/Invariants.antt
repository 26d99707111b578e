use Rattle.std.proofs.Common.{◌≡◌, ◌*◌, take}
use Rattle.vbi_words.proofs.DrawnLines.{first_columns}
use Rattle.vbi_words.proofs.drawing.draw_line.Given as goal

abbrev pub invariant-loop-column : goal.invariant-loop-column
invariant-loop-column l = take (2 * l.column) l.line ≡ first_columns l.system l.slicing l.word l.column
