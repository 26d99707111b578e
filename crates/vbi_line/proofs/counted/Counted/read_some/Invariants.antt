use Rattle.vbi_line.proofs.Retries.{Interrupted}
use Rattle.vbi_line.proofs.counted.Counted.read_some.Given as goal

abbrev pub invariant-loop : goal.invariant-loop
invariant-loop g l = Interrupted g.R.Read.remaining l.initial.self l.self l.counter
