use Rattle.std.proofs.Common.{inl, inr}
use Rattle.vbi_seek.proofs.Leading.{told_there}
use Rattle.vbi_seek.proofs.halving.narrow_beyond.Goals as goal

pub returns-in-Number-clause-halved : goal.returns-in-Number-clause-halved
returns-in-Number-clause-halved c = λ found.
    let spots = c.beyond_middle.result in
    let is = c.beyond_middle.ensures in
    elim (c.narrow_either.ensures.narrowed found) [
      | inl at ↦ told_there c.args.search.now _ spots.0 c.args.between.now c.narrow_either.new.between c.in-Number.is
          is.first at
      | inr at ↦ told_there c.args.search.now _ spots.1 c.args.between.now c.narrow_either.new.between c.in-Number.is
          is.second at
    ]
