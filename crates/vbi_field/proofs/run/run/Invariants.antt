use Rattle.vbi_field.proofs.PulledRows.{PulledRows}
use Rattle.vbi_field.proofs.run.run.Given as goal

abbrev pub invariant-loop-row : goal.invariant-loop-row
invariant-loop-row g l =
    PulledRows g.K.Kind.kind g.R.Read.remaining g.W.Write.contents l.config l.fn.intake l.fn.outlet l.row l.intake
    l.outlet
    l.progress g.K.Kind.KEEPS l.fn.held l.held
