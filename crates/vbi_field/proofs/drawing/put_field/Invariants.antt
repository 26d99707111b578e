use Rattle.vbi_field.proofs.PutFieldSteps.{Putting}
use Rattle.vbi_field.proofs.drawing.put_field.Given as goal

abbrev pub invariant-loop-row : goal.invariant-loop-row
invariant-loop-row g l = Putting g.W.Write.contents l.config l.words l.initial.outlet l.outlet l.line l.row
