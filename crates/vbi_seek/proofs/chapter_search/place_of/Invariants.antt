use Rattle.std.proofs.Common.{◌+◌, ◌≤◌, ℕ}
use Rattle.vbi_seek.specs.declared.search.Target.TheVariants.{Chapter}
use Rattle.vbi_seek.specs.ChapterLeads.{chapter_spots}
use Rattle.vbi_seek.specs.ChapterSearch.{IsBetween, placed_most}
use Rattle.vbi_seek.specs.FieldLines.{side_of}
use Rattle.vbi_seek.specs.Spots.{Leads}
use Rattle.vbi_seek.proofs.Steps.{IsAsNear, IsReadSo}
use Rattle.vbi_seek.proofs.chapter_search.place_of.Given as goal

abbrev pub invariant-loop-step : goal.invariant-loop-step
invariant-loop-step l = record {
  part : IsBetween l.side.count l.between;
  few : l.looked.fields + l.looked.spare ≤ placed_most;
  leads : (t a b : ℕ) → l.side.count ≤ 1000000 → Leads (chapter_spots (side_of l.side)) l.chapter t a b
      → IsAsNear Chapter t a b l.side.count l.between l.step × IsReadSo l.between l.looked l.step;
}
