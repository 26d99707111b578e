use Rattle.std.proofs.Common.{arith}
use Rattle.vbi_seek.proofs.Seen.{none_seen}
use Rattle.vbi_seek.proofs.narrowing.narrow_near.Goals as goal

pub narrow_by_one-requires-clause-seen : goal.narrow_by_one-requires-clause-seen
narrow_by_one-requires-clause-seen c =
    c.narrow_by_spare.ensures.seen (none_seen c.args.search.now c.args.spot.field 144)

pub returns-else-narrow_by_spare-clause-silent : goal.returns-else-narrow_by_spare-clause-silent
returns-else-narrow_by_spare-clause-silent c = λ none many k n few.
    c.narrow_by_spare.ensures.silent c.if-narrow_by_spare.false many k n (omega (arith, few))
