use Rattle.vbi_near.proofs.{Common.shades_of, Priced.priced}
use Rattle.std.proofs.Common.{arith}
use Rattle.vbi_near.proofs.prices.Prices.at.Goals as goal

pub returns-clause-prices : goal.returns-clause-prices
returns-clause-prices c =
    priced (shades_of c.args.sums.now) c.args.sums.now.system c.args.start c.around.result c.loop-place.digits
    c.around.ensures.value (λ i l. c.loop-place.invariant.below i (omega (arith, l, c.loop-place-test.false)))
