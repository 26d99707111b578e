use Rattle.std.proofs.Common.{[]}
use Rattle.vbi_near.proofs.candidates.pile_of_one.Goals as goal

pub returns-clause-pile : goal.returns-clause-pile
returns-clause-pile c = c.add.ensures.line _ _ [] c.new-pile.ensures.empty
