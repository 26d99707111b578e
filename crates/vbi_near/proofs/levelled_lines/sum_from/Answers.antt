use Rattle.std.proofs.Common.{◌≡◌, ℕ, ◌+◌, ◌-◌, get_or, subst, arith}
use Rattle.vbi_near.proofs.{Common.samples_of, Counting.line-samples, Levelling.between_sums}
use Rattle.vbi_near.specs.LevelledLines.{sum_from}
use Rattle.vbi_near.proofs.levelled_lines.sum_from.Goals as goal

pub bounds-line-start : goal.bounds-line-start
bounds-line-start c =
    let line = c.args.line.now in
    omega (arith, line-samples line.system line.row.now line.whole, line.summed.room, c.window.ensures, c.requires)

pub bounds-line-start-2 : goal.bounds-line-start-2
bounds-line-start-2 c =
    let line = c.args.line.now in
    omega (arith, line-samples line.system line.row.now line.whole, line.summed.room, c.requires)

pub overflow_sub-result : goal.overflow_sub-result
overflow_sub-result c =
    let line = c.args.line.now in
    let long = line-samples line.system line.row.now line.whole in
    omega (
      arith,
      between_sums (samples_of line.row.now) line.sums.now c.args.start c.window.result line.summed
          (omega (arith, long, c.window.ensures, c.requires)),
    )

pub returns : goal.returns
returns c =
    let line = c.args.line.now in
    let long = line-samples line.system line.row.now line.whole in
    subst (λ (n : ℕ). get_or line.sums.now (c.args.start + c.window.result) 0 - get_or line.sums.now c.args.start 0
    ≡ sum_from (samples_of line.row.now) c.args.start n) c.window.ensures
    (omega (
      arith,
      between_sums (samples_of line.row.now) line.sums.now c.args.start c.window.result line.summed
          (omega (arith, long, c.window.ensures, c.requires)),
    ))
