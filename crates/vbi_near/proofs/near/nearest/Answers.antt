use Rattle.std.proofs.Common.{subst}
use Rattle.vbi_near.proofs.Common.{System, shades, IsNearWord}
use Rattle.vbi_near.proofs.near.nearest.Goals as goal

pub returns-clause-near : goal.returns-clause-near
returns-clause-near c slicing lines pile =
    subst (λ (s : System). IsNearWord s slicing lines c.near_word.result) c.of-sums.ensures.system
    (c.near_word.ensures.near slicing lines (shades c.args.darks.now c.args.lights.now)
    (c.of-sums.ensures.row slicing lines pile))
