use Rattle.std.proofs.Common.{ℕ, arith, length}
use Rattle.vbi_near.proofs.{CellsAt.cut-between, Stretches.paid-more}
use Rattle.vbi_near.proofs.stretched_cells.add_half.Goals as goal

pub overflow_sub-costs : goal.overflow_sub-costs
overflow_sub-costs c =
    let is = cut-between c.args.sums.now c.requires.rising c.args.begin c.args.end (length c.args.costs.now)
    c.loop-start.start (omega arith) c.requires.order (omega arith) in is.order

pub overflow_add-costs : goal.overflow_add-costs
overflow_add-costs c =
    let k : ℕ = c.loop-start.start in
    let is = cut-between c.args.sums.now c.requires.rising c.args.begin c.args.end (length c.args.costs.now) k
    (omega arith) c.requires.order (omega arith) in
    omega (
      arith,
      is.few,
      c.requires.few k (omega arith),
      c.loop-start.invariant.after k (omega arith),
      c.requires.short,
      c.requires.inside,
      c.requires.order,
    )

pub loop-start-preserved : goal.loop-start-preserved
loop-start-preserved c =
    let k : ℕ = c.loop-start.start in
    let is = cut-between c.args.sums.now c.requires.rising c.args.begin c.args.end (length c.args.costs.now) k
    (omega arith) c.requires.order (omega arith) in
    paid-more c.args.sums.now c.args.begin c.args.end c.args.costs.now c.loop-start.costs k _ (omega arith)
    c.requires.order (c.requires.few k (omega arith)) is.exact is.few c.loop-start.invariant
