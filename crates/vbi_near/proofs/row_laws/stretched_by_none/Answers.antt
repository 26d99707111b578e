use Rattle.vbi_near.proofs.Stretches.{offset-whole, picture-whole}
use Rattle.vbi_near.proofs.row_laws.stretched_by_none.Goals as goal

pub returns-clause-offset : goal.returns-clause-offset
returns-clause-offset c system j = offset-whole system j

pub returns-clause-picture : goal.returns-clause-picture
returns-clause-picture c system word start = picture-whole system word start
