use Rattle.vbi_side.proofs.Parts.{same_in_part}
use Rattle.vbi_side.proofs.number_laws.same_in_part.Goals as goal

pub returns : goal.returns
returns c = same_in_part
