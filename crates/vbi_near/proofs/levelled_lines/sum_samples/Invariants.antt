use Rattle.std.proofs.Common.{◌≡◌, ◌≤◌, ◌*◌, get_or}
use Rattle.vbi_near.proofs.{Common.samples_of, Levelling.SumsTo}
use Rattle.vbi_near.proofs.levelled_lines.sum_samples.Given as goal

abbrev pub invariant-loop-column : goal.invariant-loop-column
invariant-loop-column l = record {
  few : l.sum ≤ 65535 * l.column;
  last : get_or l.sums l.column 0 ≡ l.sum;
  sums : SumsTo (samples_of l.row) l.sums l.column;
}
