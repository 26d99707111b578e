use Rattle.std.proofs.Common.{◌≡◌, ◌≤◌, ◌*◌, length}
use Rattle.vbi_words.specs.Geometry.{width_of}
use Rattle.vbi_c.specs.Erased.{IsPlace}
use Rattle.vbi_c.specs.Piling.{HasMarks}
use Rattle.vbi_c.proofs.piling.mark_lines.Given as goal

abbrev pub invariant-loop-i : goal.invariant-loop-i
invariant-loop-i l = record {
  marks : HasMarks l.system l.line l.list l.i l.marks;
  long : length l.marks ≡ length l.initial.marks;
  room : length l.all ≡ 3 * width_of l.system;
  inside : l.place ≤ length l.list;
  begins : IsPlace l.list l.i l.place;
}
