use Rattle.vbi_near.proofs.{Common.IsNearWord, PileOf.by_lines}
use Rattle.vbi_near.proofs.pile.Pile.nearest.Goals as goal

pub returns-clause-near : goal.returns-clause-near
returns-clause-near c system slicing lines is =
    by_lines (λ s l. IsNearWord s l lines c.nearest.result) system slicing lines c.args.self.now is
    (c.nearest.ensures.near c.args.self.now.levels lines is.costs)
