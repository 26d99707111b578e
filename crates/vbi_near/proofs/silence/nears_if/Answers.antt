use Rattle.vbi_near.proofs.silence.nears_if.Goals as goal

pub returns-else-is_silent : goal.returns-else-is_silent
returns-else-is_silent c slicing lines costs unit row = c.nears.ensures slicing lines costs row
