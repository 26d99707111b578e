use Rattle.vbi_whole.specs.NumbersOnBoth.{AreSteps}
use Rattle.vbi_whole.proofs.numbers_on_both.turns.Given as goal

abbrev pub invariant-loop-field : goal.invariant-loop-field
invariant-loop-field l = AreSteps l.numbers l.field l.found
