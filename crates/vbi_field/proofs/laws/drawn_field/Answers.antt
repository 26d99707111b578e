use Rattle.vbi_field.proofs.DrawnReads
use Rattle.vbi_field.proofs.laws.drawn_field.Goals as goal

pub returns : goal.returns
returns c = λ config rows i words order e are. DrawnReads.drawn_field config rows i words order e are
