use Rattle.vbi_field.proofs.Common.{[], ◌∷◌, arith, given_samples, row_of}
use Rattle.vbi_near.proofs.Counting.{zeros-long, pile-empty, few-empty}
use Rattle.vbi_field.proofs.OneShown.{only_near}
use Rattle.vbi_field.proofs.recovered_rows.nearest_of_row.Goals as goal

pub add_line-requires-clause-dark : goal.add_line-requires-clause-dark
add_line-requires-clause-dark c k = omega (arith, few-empty c.width.result 1135 k)

pub add_line-requires-clause-light : goal.add_line-requires-clause-light
add_line-requires-clause-light c k = omega (arith, few-empty c.width-2.result 1135 k)

pub nearest-requires-clause-few : goal.nearest-requires-clause-few
nearest-requires-clause-few c =
    let few = c.add_line.ensures.few 0 (few-empty c.width.result 1135, few-empty c.width-2.result 1135) in
    (λ k. omega (arith, few.0 k), λ k. omega (arith, few.1 k))

pub returns : goal.returns
returns c =
    let row = row_of c.args.row.now c.args.erased.now in
    let lines = given_samples row ∷ [] in
    let pile = c.add_line.ensures.pile c.args.system [] (zeros-long c.args.system c.width.result c.width.ensures)
    (pile-empty c.args.system c.args.levels c.width.result c.width-2.result 1135) in
    let near = c.nearest.ensures.near c.args.levels lines pile in
    only_near c.args.system c.args.levels row c.nearest.result (record {
      nearest = near.nearest;
      first = near.first;
      longer = near.longer;
      shorter = near.shorter;
    })
