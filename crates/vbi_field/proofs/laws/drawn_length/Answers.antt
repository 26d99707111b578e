use Rattle.vbi_field.proofs.DrawnDocument
use Rattle.vbi_field.proofs.laws.drawn_length.Goals as goal

pub returns : goal.returns
returns c = λ config rows. DrawnDocument.length-draw_out config rows
