use Rattle.std.proofs.Common.{◌≡◌, ◌≤◌, ◌-◌, ◌*◌, ◌^◌}
use Rattle.vbi_near.proofs.Common.{samples_of}
use Rattle.vbi_near.specs.LevelledLines.{first_of, off_in}
use Rattle.vbi_near.proofs.levelled_lines.swing.Given as goal

abbrev pub invariant-loop-column : goal.invariant-loop-column
invariant-loop-column l = record {
  off : l.off ≡ off_in l.line.system (samples_of l.line.row.now) (l.column - first_of l.line.system);
  few : l.off ≤ 2 ^ 32 * (l.column - first_of l.line.system);
}
