use Rattle.vbi_side.proofs.Sides.{nearly_lost}
use Rattle.vbi_side.proofs.side_laws.nearly_lost.Goals as goal

pub returns : goal.returns
returns c = λ disc place fields slack i m j n more one counts rises.
    nearly_lost disc place fields slack one counts rises i m j n more
