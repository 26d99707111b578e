use Rattle.vbi_near.specs.Candidates.{HasNear, some_lines}
use Rattle.vbi_near.proofs.PileOf.{by_lines}
use Rattle.vbi_near.proofs.pile.Pile.nears.Goals as goal

pub returns : goal.returns
returns c system slicing lines is =
    by_lines (λ s l. HasNear (some_lines s c.args.number l lines) c.nears_of.result) system slicing lines
    c.args.self.now is (c.nears_of.ensures c.args.self.now.levels lines is.costs)
