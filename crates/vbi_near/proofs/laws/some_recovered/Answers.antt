use Rattle.vbi_near.proofs.SomeRecovered.{some_recovered}
use Rattle.vbi_near.proofs.laws.some_recovered.Goals as goal

pub returns : goal.returns
returns c = some_recovered
