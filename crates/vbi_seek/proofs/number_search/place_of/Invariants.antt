use Rattle.std.proofs.Common.{◌+◌, ◌*◌, ◌-◌, ◌≤◌, ℕ}
use Rattle.vbi_seek.specs.declared.search.Target.TheVariants.{Number}
use Rattle.vbi_seek.specs.ChapterSearch.{IsBetween}
use Rattle.vbi_seek.specs.NumberLeads.{number_spots}
use Rattle.vbi_seek.specs.NumbersAround.{numbers_of}
use Rattle.vbi_seek.specs.NumberSearch.{probe_most, probed_most}
use Rattle.vbi_seek.specs.Spots.{Leads}
use Rattle.vbi_seek.proofs.Steps.{IsAsNear}
use Rattle.vbi_seek.proofs.number_search.place_of.Given as goal

abbrev pub invariant-loop-step : goal.invariant-loop-step
invariant-loop-step l = record {
  part : IsBetween l.wanted.side.count l.between;
  few : l.looked.fields + l.looked.spare + probe_most * (l.steps - l.step) ≤ probed_most;
  leads : (t a b : ℕ) → l.wanted.side.count ≤ 1000000
      → Leads (number_spots (numbers_of l.wanted)) l.wanted.number t a b
      → IsAsNear (Number l.wanted.judging) t a b l.wanted.side.count l.between l.step;
}
