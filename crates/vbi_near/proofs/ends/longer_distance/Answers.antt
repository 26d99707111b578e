use Rattle.std.proofs.Common.{◌-◌, ◌<◌, arith, inl, inr, subst, sym}
use Rattle.vbi_near.proofs.Common.{Shades, cell_length, IsLongerFound, shades_of}
use Rattle.vbi_near.proofs.Beside.{cell-offset, room-after, black-beside, after-alone, before-alone, both-sides}
use Rattle.vbi_near.proofs.ends.longer_distance.Goals as goal

pub with_cell_at-requires-clause-black : goal.with_cell_at-requires-clause-black
with_cell_at-requires-clause-black c =
    let long = cell-offset c.args.sums.now.system c.offset-cell.result c.offset-cell.ensures.value in
    let short : c.args.found.start < cell_length c.args.sums.now.system = omega (arith, long, c.if-found-cell.true) in
    let room = room-after c.args.sums.now.system c.args.found.start short in
    black-beside (shades_of c.args.sums.now) c.args.sums.now.system c.args.sums.now.rows c.args.found c.requires.start
    c.requires.exact
    c.column-end.result (inr (c.column-end.ensures.value, omega (arith, c.column-end.ensures.value, room)))

pub returns-then-found-cell : goal.returns-then-found-cell
returns-then-found-cell c =
    let long = cell-offset c.args.sums.now.system c.offset-cell.result c.offset-cell.ensures.value in
    after-alone (shades_of c.args.sums.now) c.args.sums.now.system c.args.found c.column-end.result
    c.with_cell_at.result c.column-end.ensures.value (omega (arith, long, c.if-found-cell.true)) c.with_cell_at.ensures

pub with_cell_at-before-requires-clause-black : goal.with_cell_at-before-requires-clause-black
with_cell_at-before-requires-clause-black c =
    let long = cell-offset c.args.sums.now.system c.offset-cell.result c.offset-cell.ensures.value in
    black-beside (shades_of c.args.sums.now) c.args.sums.now.system c.args.sums.now.rows c.args.found c.requires.start
    c.requires.exact
    (c.args.found.start - c.offset-cell.result) (inl (omega (arith, long, c.if-found-cell.false)))

pub returns-then-end-cell : goal.returns-then-end-cell
returns-then-end-cell c =
    let long = cell-offset c.args.sums.now.system c.offset-cell.result c.offset-cell.ensures.value in
    before-alone (shades_of c.args.sums.now) c.args.sums.now.system c.args.found
    (c.args.found.start - c.offset-cell.result) c.with_cell_at-before.result
    (omega (arith, long, c.if-found-cell.false))
    (omega (arith, long, c.column-end.ensures.value, c.width.ensures, c.if-end-cell.true)) c.with_cell_at-before.ensures

pub with_cell_at-requires-2-clause-black : goal.with_cell_at-requires-2-clause-black
with_cell_at-requires-2-clause-black c =
    let long = cell-offset c.args.sums.now.system c.offset-cell.result c.offset-cell.ensures.value in
    black-beside (shades_of c.args.sums.now) c.args.sums.now.system c.args.sums.now.rows c.args.found c.requires.start
    c.requires.exact
    c.column-end.result
    (inr (
      c.column-end.ensures.value,
      omega (
        arith,
        long,
        c.column-end.ensures.value,
        c.width.ensures,
        c.if-end-cell.false,
      ),
    ))

pub returns : goal.returns
returns c =
    let sums : Shades = shades_of c.args.sums.now in
    let long = cell-offset c.args.sums.now.system c.offset-cell.result c.offset-cell.ensures.value in
    let least = both-sides sums c.args.sums.now.system c.args.found (c.args.found.start - c.offset-cell.result)
    c.column-end.result c.with_cell_at-before.result c.with_cell_at-2.result
    (omega (arith, long, c.if-found-cell.false)) c.column-end.ensures.value
    (omega (arith, long, c.column-end.ensures.value, c.width.ensures, c.if-end-cell.false))
    c.with_cell_at-before.ensures c.with_cell_at-2.ensures in
    subst (IsLongerFound sums c.args.sums.now.system c.args.found) (sym c.min.ensures) least
