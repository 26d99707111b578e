use Rattle.std.proofs.Common.{arith}
use Rattle.vbi_near.proofs.{Common.shades_of, CutShort.last_within}
use Rattle.vbi_near.proofs.ends.shorter_distance.Goals as goal

pub without_cell-last-requires-clause-drawn : goal.without_cell-last-requires-clause-drawn
without_cell-last-requires-clause-drawn c =
    omega (
      arith,
      last_within (shades_of c.args.sums.now) c.args.sums.now.system c.args.found.start
          c.args.found.word c.args.found.distance c.requires.exact,
    )
