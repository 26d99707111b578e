use Rattle.vbi_near.proofs.LevelledShift.{swing-raised, levelled-raised}
use Rattle.vbi_near.proofs.levelled_laws.same_at_any_level.Goals as goal

pub returns-clause-swing : goal.returns-clause-swing
returns-clause-swing c system samples level long = swing-raised system level samples long

pub returns-clause-levelled : goal.returns-clause-levelled
returns-clause-levelled c system samples level long = levelled-raised system level samples long
