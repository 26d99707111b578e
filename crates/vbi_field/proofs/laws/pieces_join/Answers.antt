use Rattle.vbi_field.proofs.Pieces as pieces
use Rattle.vbi_field.proofs.laws.pieces_join.Goals as goal

pub returns : goal.returns
returns g c = λ f f' o o' z all result. pieces.pieces_join _ f f' o o' z all result
