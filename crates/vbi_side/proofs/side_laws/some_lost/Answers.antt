use Rattle.vbi_side.proofs.Sides.{lost}
use Rattle.vbi_side.proofs.side_laws.some_lost.Goals as goal

pub returns : goal.returns
returns c = λ disc place fields i m j n l runs rises. lost disc place fields runs rises i m j n l
