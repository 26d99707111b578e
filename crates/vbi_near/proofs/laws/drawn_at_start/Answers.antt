use Rattle.vbi_near.proofs.DrawnNearest.{drawn_first}
use Rattle.vbi_near.proofs.laws.drawn_at_start.Goals as goal

pub returns : goal.returns
returns c system slicing word = drawn_first system slicing word
