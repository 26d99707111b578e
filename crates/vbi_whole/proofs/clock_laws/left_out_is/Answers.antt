use Rattle.vbi_side.proofs.Counting.{out_none, out_next, kept_is}
use Rattle.vbi_whole.proofs.clock_laws.left_out_is.Goals as goal

pub returns-clause-none : goal.returns-clause-none
returns-clause-none c = out_none

pub returns-clause-next : goal.returns-clause-next
returns-clause-next c = out_next

pub returns-clause-others : goal.returns-clause-others
returns-clause-others c = kept_is
