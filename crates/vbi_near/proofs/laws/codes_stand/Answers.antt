use Rattle.vbi_near.proofs.CodesStand.{codes_stand}
use Rattle.vbi_near.proofs.laws.codes_stand.Goals as goal

pub returns : goal.returns
returns c = codes_stand
