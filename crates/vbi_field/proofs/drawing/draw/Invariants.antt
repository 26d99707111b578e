use Rattle.vbi_field.proofs.DrawSteps.{Drawn}
use Rattle.vbi_field.proofs.drawing.draw.Given as goal

abbrev pub invariant-loop-done : goal.invariant-loop-done
invariant-loop-done g l =
    Drawn g.R.Read.remaining g.W.Write.contents l.config l.initial.rows l.initial.outlet l.done l.rows l.outlet l.line
