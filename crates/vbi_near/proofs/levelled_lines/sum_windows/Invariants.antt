use Rattle.vbi_near.proofs.{Common.samples_of, Levelling.WindowsTo}
use Rattle.vbi_near.proofs.levelled_lines.sum_windows.Given as goal

abbrev pub invariant-loop-column : goal.invariant-loop-column
invariant-loop-column l = record { windows : WindowsTo l.line.system (samples_of l.line.row.now) l.windows l.column }

abbrev pub invariant-loop-column-2 : goal.invariant-loop-column-2
invariant-loop-column-2 l = record { windows : WindowsTo l.line.system (samples_of l.line.row.now) l.windows l.column }

abbrev pub invariant-loop-column-3 : goal.invariant-loop-column-3
invariant-loop-column-3 l = record { windows : WindowsTo l.line.system (samples_of l.line.row.now) l.windows l.column }
