use Rattle.std.proofs.Common.{sym}
use Rattle.vbi_field.proofs.WordRowLemmas.{cut_at, uncut}
use Rattle.vbi_field.proofs.word_row.cut_at_space.Goals as goal

pub returns : goal.returns
returns c = cut_at c.args.text.now c.in_ok-at.at (sym c.in_ok-at.ensures)

pub returns-in_err-at : goal.returns-in_err-at
returns-in_err-at c = rw c.from_residual.ensures (uncut c.args.text.now (sym c.in_err-at.ensures))
