use Rattle.std.proofs.Common.{refl, arith}
use Rattle.vbi_whole.specs.NumbersOnBoth.{last_known, turns, odd_turns}
use Rattle.vbi_whole.proofs.numbers_on_both.turns.Goals as goal

pub loop-field-init : goal.loop-field-init
unfolding last_known turns odd_turns
loop-field-init c =
    record { last = refl; earlier = tt; all = refl; odd = refl; few = omega arith; fewer = omega arith }
