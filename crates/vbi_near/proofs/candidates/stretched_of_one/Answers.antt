use Rattle.vbi_near.proofs.candidates.stretched_of_one.Goals as goal

pub returns : goal.returns
returns c = c.stretched.ensures _ _ _ c.pile_of_one.ensures.pile
