use Rattle.std.proofs.Common.{arith}
use Rattle.vbi_near.proofs.Rising.{risen_to}
use Rattle.vbi_near.proofs.sums.between.Goals as goal

pub overflow_sub-result : goal.overflow_sub-result
overflow_sub-result c =
    (risen_to c.args.sums.now c.requires.rising c.args.first c.args.last (omega arith) (omega arith)).0

pub returns-clause-range : goal.returns-clause-range
returns-clause-range c =
    let r = risen_to c.args.sums.now c.requires.rising c.args.first c.args.last (omega arith) (omega arith) in
    omega (arith, r.0, r.1)
