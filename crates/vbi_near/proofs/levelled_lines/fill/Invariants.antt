use Rattle.std.proofs.Common.{◌≡◌, length}
use Rattle.vbi_near.proofs.Levelling.{FilledTo}
use Rattle.vbi_near.proofs.levelled_lines.fill.Given as goal

abbrev pub invariant-loop-column : goal.invariant-loop-column
invariant-loop-column l = record {
  long : length l.out ≡ length l.initial.out;
  filled : FilledTo l.fn.levels l.erased l.row l.out l.column;
}
