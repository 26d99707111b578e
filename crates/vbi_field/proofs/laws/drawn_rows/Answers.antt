use Rattle.vbi_field.proofs.DrawnReads
use Rattle.vbi_field.proofs.WordRowLaw.{rows_drawable}
use Rattle.vbi_field.proofs.laws.drawn_rows.Goals as goal

pub returns : goal.returns
returns c = λ config text rows i words order are e.
    DrawnReads.drawn_field config rows i words order e (rows_drawable text rows i words are e)
