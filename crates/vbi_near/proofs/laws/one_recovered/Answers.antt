use Rattle.vbi_near.proofs.OneRecovered.{one_recovered}
use Rattle.vbi_near.proofs.laws.one_recovered.Goals as goal

pub returns : goal.returns
returns c = one_recovered
