use Rattle.std.proofs.Common.{ℕ, ◌+◌, get_or, arith, ap, subst, sym}
use Rattle.vbi_near.proofs.Common.{Shades, stretched_row_cost, IsLeastAt, IsStartBefore, shades_of}
use Rattle.vbi_near.proofs.Stretches.{row-read, starts-long}
use Rattle.vbi_near.proofs.{Columns.width-few, LeastAt.start-more, LeastAt.all-starts}
use Rattle.vbi_near.proofs.stretched_cells.distance_by.Goals as goal

pub overflow_add-costs : goal.overflow_add-costs
overflow_add-costs c =
    let long = starts-long c.args.sums.now.system c.args.rate c.width.result c.stretched_offset-length.result
    c.requires.0
    c.width.ensures c.stretched_offset-length.ensures.value in
    omega (
      arith,
      c.word_costs.ensures.few c.loop-start.start (omega (arith, long, c.loop-start-test.true)),
      c.between-in-loop-start.ensures.range,
      c.loop-start-test.true,
      c.width.ensures,
      c.width-in-loop-start.ensures,
      c.stretched_offset-length.ensures.value,
      c.stretched_offset-length.ensures.range,
      width-few c.args.sums.now.system,
    )

pub loop-start-preserved : goal.loop-start-preserved
loop-start-preserved c =
    let sums : Shades = shades_of c.args.sums.now in
    let far : ℕ → ℕ → ℕ = stretched_row_cost sums c.args.sums.now.system c.args.word in
    let start : ℕ = c.loop-start.start in
    let begin : ℕ = start + c.stretched_offset-length.result in
    let long = starts-long c.args.sums.now.system c.args.rate c.width.result c.stretched_offset-length.result
    c.requires.0
    c.width.ensures c.stretched_offset-length.ensures.value in
    let row = row-read sums c.args.sums.now.system c.args.word c.args.rate start
    (get_or c.word_costs.new.costs start 0) begin
    c.width-in-loop-start.result c.between-in-loop-start.result
    (c.word_costs.ensures.value start (omega (arith, long, c.loop-start-test.true)))
    (ap (λ (n : ℕ). start + n) c.stretched_offset-length.ensures.value) c.width-in-loop-start.ensures
    c.between-in-loop-start.ensures.value in
    subst (λ (least : ℕ). IsLeastAt (IsStartBefore c.args.rate (start + 1)) far least) (sym c.min-least.ensures)
    (start-more far c.args.rate start c.loop-start.least
    (get_or c.word_costs.new.costs start 0 + c.between-in-loop-start.result) c.loop-start.invariant row)

pub returns : goal.returns
returns c =
    let sums : Shades = shades_of c.args.sums.now in
    let far : ℕ → ℕ → ℕ = stretched_row_cost sums c.args.sums.now.system c.args.word in
    all-starts c.args.sums.now.system far c.args.rate c.loop-start.start c.loop-start.least
    (omega (
      arith,
      c.loop-start-test.false,
      c.loop-start.auto.start-end,
      c.width.ensures,
      c.stretched_offset-length.ensures.value,
      c.stretched_offset-length.ensures.range,
    )) c.loop-start.invariant
