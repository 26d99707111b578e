use Rattle.std.proofs.Common.{refl}
use Rattle.vbi_whole.specs.NumbersOnBoth.{last_known, turns, odd_turns}
use Rattle.vbi_whole.proofs.gap_laws.worked_verdicts.Goals as goal

pub returns-clause-both : goal.returns-clause-both
unfolding last_known turns odd_turns
returns-clause-both c = refl

pub returns-clause-few : goal.returns-clause-few
unfolding last_known turns odd_turns
returns-clause-few c = refl

pub returns-clause-frozen : goal.returns-clause-frozen
unfolding last_known turns odd_turns
returns-clause-frozen c = refl
