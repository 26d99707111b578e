use Rattle.vbi_c.proofs.OneRecovery.{one_recovery, all_recovered, chapters_same, stop_same}
use Rattle.vbi_c.proofs.laws.one_recovery.Goals as goal

pub returns-clause-field : goal.returns-clause-field
returns-clause-field c = one_recovery

pub returns-clause-side : goal.returns-clause-side
returns-clause-side c = all_recovered

pub returns-clause-chapters : goal.returns-clause-chapters
returns-clause-chapters c = chapters_same

pub returns-clause-stops : goal.returns-clause-stops
returns-clause-stops c = stop_same
