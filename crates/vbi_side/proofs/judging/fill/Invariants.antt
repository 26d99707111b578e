use Rattle.vbi_side.proofs.Filling.{Filling}
use Rattle.vbi_side.proofs.judging.fill.Given as goal

abbrev pub invariant-loop-field : goal.invariant-loop-field
invariant-loop-field l = Filling l.pace l.fields l.numbers l.field
