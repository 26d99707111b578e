use Rattle.vbi_line.proofs.Common.{◌-◌, ◌^◌, ◌<◌, ◌≤◌, TellsAbove}
use Rattle.vbi_line.proofs.bytes_to_levels.bits_at.Given as goal

abbrev pub invariant-lanes : goal.invariant-lanes
invariant-lanes l = record {
  inside : l.done ≤ l.count;
  levels : TellsAbove l.low l.bytes l.column l.done l.bits;
  range : l.bits < 2 ^ l.done;
}

abbrev pub decreases-lanes : goal.decreases-lanes
decreases-lanes l = l.count - l.done
