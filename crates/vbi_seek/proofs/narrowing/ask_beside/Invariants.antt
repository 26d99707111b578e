use Rattle.std.proofs.Common.{◌≡◌, ◌+◌, ◌≤◌}
use Rattle.vbi_seek.specs.ChapterSearch.{placed_most}
use Rattle.vbi_seek.proofs.narrowing.ask_beside.Given as goal

abbrev pub invariant-loop-step : goal.invariant-loop-step
invariant-loop-step l = record {
  kept : l.between ≡ l.initial.between;
  few : l.looked.fields + l.looked.spare ≤ placed_most;
}
