use Rattle.vbi_line.proofs.Retries.{Interrupted}
use Rattle.vbi_line.proofs.counted.Counted.write_some.Given as goal

abbrev pub invariant-loop : goal.invariant-loop
invariant-loop g l = Interrupted g.W.Write.contents l.initial.self l.self l.counter
