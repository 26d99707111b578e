use Rattle.std.proofs.Common.{refl}
use Rattle.vbi_whole.specs.Gaps.{since_end}
use Rattle.vbi_whole.specs.Tallies.{stills_of, last_still}
use Rattle.vbi_whole.proofs.gap_laws.worked_gaps.Goals as goal

pub returns-clause-since : goal.returns-clause-since
unfolding since_end
returns-clause-since c = refl

pub returns-clause-ended : goal.returns-clause-ended
unfolding since_end
returns-clause-ended c = refl

pub returns-clause-stills : goal.returns-clause-stills
unfolding stills_of last_still
returns-clause-stills c = (refl, refl)
