use Rattle.vbi_near.proofs.candidates.near_of_one.Goals as goal

pub returns : goal.returns
returns c = c.nears.ensures _ _ _ c.pile_of_one.ensures.pile
