use Rattle.vbi_side.proofs.FewLeftOut.{even_near}
use Rattle.vbi_whole.proofs.clock_laws.few_left_out.Goals as goal

pub returns-clause-even_near : goal.returns-clause-even_near
returns-clause-even_near c = even_near
