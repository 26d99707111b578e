use Rattle.std.proofs.Common.{◌≡◌, length, map, take}
use Rattle.vbi_c.specs.FieldCodes.{chapters_in}
use Rattle.vbi_c.proofs.field_codes.sight_chapters.Given as goal

abbrev pub invariant-loop-i : goal.invariant-loop-i
invariant-loop-i l = record {
  seen : take l.i l.seen ≡ map chapters_in (take l.i l.readings);
  count : length l.seen ≡ length l.readings;
}
