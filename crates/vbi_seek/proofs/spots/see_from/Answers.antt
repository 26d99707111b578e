use Rattle.std.proofs.Common.{arith}
use Rattle.vbi_seek.specs.FieldLines.{side_of}
use Rattle.vbi_seek.specs.Targets.{shown_by}
use Rattle.vbi_seek.proofs.Shown.{shown_more, counted_more}
use Rattle.vbi_seek.proofs.spots.see_from.Goals as goal

pub loop-i-preserved : goal.loop-i-preserved
loop-i-preserved c = record {
  made = shown_more (shown_by c.args.kind (side_of c.args.side.now)) c.loop-i.seen c.args.first c.loop-i.i
      c.shown_at.result
      (omega arith) c.loop-i.invariant.made c.shown_at.ensures.shown;
  counted = counted_more c.args.looked.now c.loop-i.looked c.shown_at.new.looked c.loop-i.i
      c.loop-i.invariant.counted c.shown_at.ensures.counted;
}
