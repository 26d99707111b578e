use Rattle.vbi_near.proofs.Stretches.{IsPaid}
use Rattle.vbi_near.proofs.stretched_cells.add_half.Given as goal

abbrev pub invariant-loop-start : goal.invariant-loop-start
invariant-loop-start l = IsPaid l.sums l.begin l.end l.initial.costs l.costs l.start
