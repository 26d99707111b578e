use Rattle.std.proofs.Common.{◌≡◌, length}
use Rattle.vbi_near.proofs.Levelling.{WrittenTo, smoothed_at}
use Rattle.vbi_near.proofs.levelled_lines.smooth.Given as goal

abbrev pub invariant-loop-column : goal.invariant-loop-column
invariant-loop-column l = record {
  long : length l.out ≡ length l.initial.out;
  written : WrittenTo (smoothed_at l.samples) l.out l.column;
}
