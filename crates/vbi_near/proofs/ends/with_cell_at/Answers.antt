use Rattle.std.proofs.Common.{◌≡◌, ℕ, ◌+◌, ◌-◌, ◌∙◌, ap, arith}
use Rattle.vbi_near.proofs.Common.{column_of, total_in, cell_length, shades_of}
use Rattle.vbi_near.proofs.Beside.{cell-offset, offset-column, nearer-cell}
use Rattle.vbi_near.proofs.ends.with_cell_at.Goals as goal

pub overflow_sub-result : goal.overflow_sub-result
overflow_sub-result c =
    let begin : ℕ = c.args.begin in
    let long : begin + c.offset-2.result - begin ≡ cell_length c.args.sums.now.system
    = omega (arith, cell-offset c.args.sums.now.system c.offset-2.result c.offset-2.ensures.value) in
    omega (arith, c.between.ensures.value, ap (total_in c.args.sums.now.dark.now begin) long, c.requires.black)

pub returns : goal.returns
returns c =
    let sums = shades_of c.args.sums.now in
    let begin : ℕ = c.args.begin in
    let middle : ℕ = begin + c.offset.result in
    let end : ℕ = begin + c.offset-2.result in
    let m : middle ≡ column_of c.args.sums.now.system begin 1
    = offset-column c.args.sums.now.system begin c.offset.result 1 c.offset.ensures.value in
    let e : end ≡ column_of c.args.sums.now.system begin 2
    = offset-column c.args.sums.now.system begin c.offset-2.result 2 c.offset-2.ensures.value in
    ap (λ (least : ℕ). c.args.distance - c.between.result + least
    + total_in c.args.sums.now.dark.now begin (cell_length c.args.sums.now.system)) c.min.ensures
    ∙ nearer-cell sums c.args.sums.now.system c.args.distance begin middle end c.costs_of-costs.result.one
    c.costs_of-costs.result.zero c.between.result m e c.costs_of-costs.ensures.one c.costs_of-costs.ensures.zero
    c.between.ensures.value c.requires.black
