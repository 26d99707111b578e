use Rattle.std.proofs.Common.{◌≡◌, ℕ, ◌*◌, length, take, arith}
use Rattle.std.proofs.lemmas.List.{take_all}
use Rattle.vbi_near.proofs.Counting.{added-few, added_whole, pile-added}
use Rattle.vbi_near.proofs.{Common.most_of, Most.most_of-fits}
use Rattle.vbi_near.proofs.pile.add_line.Goals as goal

pub returns-clause-pile : goal.returns-clause-pile
returns-clause-pile c system lines wide is =
    let n : ℕ = length c.args.darks.now in
    let e : c.loop-column.column ≡ n = omega (arith, c.loop-column-test.false, c.loop-column.auto.column-end) in
    let line : take (2 * n) c.args.line.now ≡ c.args.line.now
    = take_all (2 * n) c.args.line.now (omega (arith, c.requires.line)) in
    let erased : take n c.args.erased.now ≡ c.args.erased.now
    = take_all n c.args.erased.now (omega (arith, c.requires.erased)) in
    pile-added system c.args.levels c.args.line.now c.args.erased.now lines c.args.darks.now c.args.lights.now
    c.loop-column.darks c.loop-column.lights c.requires.line c.requires.erased wide
    (added_whole (take (2 * n) c.args.line.now) c.args.line.now (take n c.args.erased.now) c.args.erased.now
    (most_of c.args.levels) c.args.levels.black c.args.darks.now c.loop-column.darks c.loop-column.column n line erased
    e c.loop-column.invariant.dark)
    (added_whole (take (2 * n) c.args.line.now) c.args.line.now (take n c.args.erased.now) c.args.erased.now
    (most_of c.args.levels) c.args.levels.white c.args.lights.now c.loop-column.lights c.loop-column.column n line
    erased e c.loop-column.invariant.light) is

pub returns-clause-few : goal.returns-clause-few
returns-clause-few c lines few =
    let low = most_of-fits c.args.levels (omega arith) in (
      added-few _ _ (most_of c.args.levels) c.args.levels.black c.args.darks.now
          c.loop-column.darks c.loop-column.column low lines few.0 c.loop-column.invariant.dark,
      added-few _ _ (most_of c.args.levels) c.args.levels.white c.args.lights.now
          c.loop-column.lights c.loop-column.column low lines few.1 c.loop-column.invariant.light,
    )
