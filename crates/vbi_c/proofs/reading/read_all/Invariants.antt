use Rattle.std.proofs.Common.{◌≡◌, take}
use Rattle.vbi_c.specs.Readings.{fields_reading}
use Rattle.vbi_c.proofs.reading.read_all.Given as goal

abbrev pub invariant-loop-i : goal.invariant-loop-i
invariant-loop-i l = take l.i l.readings ≡ fields_reading l.setup l.stream l.i
