use Rattle.vbi_near.proofs.{Common.IsStretched, PileOf.by_lines}
use Rattle.vbi_near.proofs.pile.Pile.stretched.Goals as goal

pub returns : goal.returns
returns c system slicing lines is =
    by_lines (λ s l. IsStretched s l lines c.args.word c.stretched_distance.result) system slicing lines c.args.self.now
    is (c.stretched_distance.ensures c.args.self.now.levels lines is.costs)
