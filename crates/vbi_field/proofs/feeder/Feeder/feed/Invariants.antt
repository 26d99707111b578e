use Rattle.std.proofs.Common.{length, ◌-◌}
use Rattle.vbi_field.proofs.FeedLoop.{Taken}
use Rattle.vbi_field.proofs.feeder.Feeder.feed.Given as goal

abbrev pub invariant-loop-at : goal.invariant-loop-at
invariant-loop-at g l = Taken g.W.Write.contents l.fn.self l.self-inside l.fn.outlet l.outlet l.piece l.at

abbrev pub decreases-loop-at : goal.decreases-loop-at
decreases-loop-at g l = length l.piece - l.at
