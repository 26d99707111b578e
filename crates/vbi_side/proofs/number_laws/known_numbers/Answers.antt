use Rattle.vbi_side.proofs.Filling.{known_numbers}
use Rattle.vbi_side.proofs.number_laws.known_numbers.Goals as goal

pub returns : goal.returns
returns c = known_numbers
