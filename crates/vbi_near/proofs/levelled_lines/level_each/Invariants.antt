use Rattle.std.proofs.Common.{◌≡◌, length}
use Rattle.vbi_near.proofs.{Common.width_of, Common.samples_of, Levelling.AreTo}
use Rattle.vbi_near.specs.LevelledLines.{levelled_at}
use Rattle.vbi_near.proofs.levelled_lines.level_each.Given as goal

abbrev pub invariant-loop-column : goal.invariant-loop-column
invariant-loop-column l = record {
  long : length l.samples ≡ width_of l.line.system;
  levelled : AreTo (levelled_at l.line.system l.scale (samples_of l.line.row.now)) l.samples l.column;
}
