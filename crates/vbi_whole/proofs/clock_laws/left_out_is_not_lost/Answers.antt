use Rattle.vbi_whole.proofs.GapCounts.{few_lost, skipped_few, no_gap}
use Rattle.vbi_whole.proofs.clock_laws.left_out_is_not_lost.Goals as goal

pub returns-clause-gap : goal.returns-clause-gap
returns-clause-gap c = few_lost

pub returns-clause-unread : goal.returns-clause-unread
returns-clause-unread c = skipped_few

pub returns-clause-none : goal.returns-clause-none
returns-clause-none c = no_gap
