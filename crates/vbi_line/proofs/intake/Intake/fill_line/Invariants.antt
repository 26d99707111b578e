use Rattle.vbi_line.proofs.Common.{◌-◌, length, line_bytes}
use Rattle.vbi_line.proofs.FillSteps.{Since}
use Rattle.vbi_line.proofs.intake.Intake.fill_line.Given as goal

abbrev pub invariant-loop-count : goal.invariant-loop-count
invariant-loop-count g l = Since g.R.Read.remaining l.initial.self l.self

abbrev pub decreases-loop-count : goal.decreases-loop-count
decreases-loop-count g l = line_bytes l.self.line.system - length l.self.line.held
