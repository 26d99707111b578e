use Rattle.vbi_field.proofs.RowSteps.{Held}
use Rattle.vbi_field.proofs.row_intake.RowIntake.next_row.Given as goal

abbrev pub invariant-loop-held : goal.invariant-loop-held
invariant-loop-held g l = Held g.R.Read.remaining l.initial.self l.self l.row l.held
