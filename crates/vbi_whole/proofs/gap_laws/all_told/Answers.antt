use Rattle.vbi_whole.proofs.GapOrder.{each_gap, every_gap, gaps_ordered}
use Rattle.vbi_whole.proofs.gap_laws.all_told.Goals as goal

pub returns-clause-each : goal.returns-clause-each
returns-clause-each c = each_gap

pub returns-clause-every : goal.returns-clause-every
returns-clause-every c = every_gap

pub returns-clause-order : goal.returns-clause-order
returns-clause-order c = gaps_ordered
