use Rattle.vbi_near.specs.Silence.{IsLeadWithin}
use Rattle.vbi_near.proofs.silence.nearest_within.Given as goal

abbrev pub invariant-loop-start : goal.invariant-loop-start
invariant-loop-start l = IsLeadWithin l.fn.sought.sums l.line l.limit l.start l.best
