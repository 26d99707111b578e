use Rattle.std.proofs.Common.{◌≤◌, length}
use Rattle.vbi_c.specs.Erased.{erased_of, IsPlace}
use Rattle.vbi_c.specs.Recovering.{AreAllRecovered}
use Rattle.vbi_c.proofs.recovering.recover_all.Given as goal

abbrev pub invariant-loop-i : goal.invariant-loop-i
invariant-loop-i l = record {
  recovered : AreAllRecovered l.setup l.stream (erased_of l.erased l.setup.system) l.i l.readings;
  inside : l.place ≤ length l.erased;
  begins : IsPlace l.erased l.i l.place;
}
