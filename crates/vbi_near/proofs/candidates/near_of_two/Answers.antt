use Rattle.vbi_near.proofs.candidates.near_of_two.Goals as goal

pub returns : goal.returns
returns c = c.nears.ensures _ _ _ c.pile_of_two.ensures.pile
