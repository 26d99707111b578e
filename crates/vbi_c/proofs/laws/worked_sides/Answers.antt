use Rattle.std.proofs.Common.{refl}
use Rattle.vbi_whole.specs.NumbersOnBoth.{last_known, turns, odd_turns}
use Rattle.vbi_c.proofs.laws.worked_sides.Goals as goal

pub returns-clause-on_one : goal.returns-clause-on_one
unfolding last_known turns odd_turns
returns-clause-on_one c = refl

pub returns-clause-on_both : goal.returns-clause-on_both
unfolding last_known turns odd_turns
returns-clause-on_both c = refl

pub returns-clause-found : goal.returns-clause-found
unfolding last_known turns odd_turns
returns-clause-found c = (refl, refl)
