use Rattle.vbi_line.proofs.Common.{◌≡◌, ◌-◌, ◌<◌, ◌≤◌, length, arith, half_min}
use Rattle.vbi_line.proofs.Middles.{first_is, first_high}
use Rattle.vbi_line.proofs.RunLoop.{counted}
use Rattle.vbi_line.proofs.straight.first_middle.Goals as goal

pub returns : goal.returns
returns c =
    let column = c.run_end-column.result in
    let count : column ≡ column - 0 = omega arith in
    let run = counted count c.run_end-column.ensures.run in
    let long : half_min c.args.system ≤ column = omega (arith, c.if-column-half_min.false, c.half_min.ensures) in
    let inside : column < length c.args.packed.now
    = omega (arith, c.if-column-width.false, c.width-else-column-half_min.ensures, run.inside) in
    (first_is c.args.system run long inside, first_high c.args.system run long inside)
