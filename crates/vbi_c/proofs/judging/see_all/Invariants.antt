use Rattle.std.proofs.Common.{◌≡◌, length, map, take}
use Rattle.vbi_c.specs.Judging.{seen_in}
use Rattle.vbi_c.proofs.judging.see_all.Given as goal

abbrev pub invariant-loop-i : goal.invariant-loop-i
invariant-loop-i l = record {
  seen : take l.i l.seen ≡ map (seen_in l.judging) (take l.i l.readings);
  count : length l.seen ≡ length l.readings;
}
