use Rattle.std.proofs.Common.{◌≡◌, ◌+◌, take}
use Rattle.vbi_seek.specs.FieldLines.{side_of}
use Rattle.vbi_seek.specs.Targets.{all_shown_by}
use Rattle.vbi_seek.proofs.spots.see_from.Given as goal

abbrev pub invariant-loop-i : goal.invariant-loop-i
invariant-loop-i l = record {
  made : take l.i l.seen ≡ all_shown_by l.kind (side_of l.side) l.first l.i;
  counted : l.looked ≡ record l.initial.looked { fields = l.initial.looked.fields + l.i };
}
