use Rattle.std.proofs.Common.{◌≡◌, ℕ, ◌+◌, ◌-◌, ◌*◌, ◌<◌, ◌≤◌}
use Rattle.vbi_seek.specs.Searches.{IsSilentFor}
use Rattle.vbi_seek.specs.Targets.{most_of, read_most}
use Rattle.vbi_seek.specs.NumberSearch.{probe_most, probe_longest}
use Rattle.vbi_seek.specs.NumberSpots.{middle_of}
use Rattle.vbi_seek.proofs.halving.sweep.Given as goal

abbrev pub invariant-loop-part : goal.invariant-loop-part
invariant-loop-part l = record {
  few : l.looked.fields + l.looked.spare
      ≤ l.initial.looked.fields + l.initial.looked.spare + most_of l.search.kind * l.part;
  kept : l.between ≡ l.initial.between;
  spared : l.initial.looked.spare ≤ l.looked.spare + (probe_longest - probe_most) * l.part;
  silent : (part : ℕ) → part < l.part → IsSilentFor l.search (middle_of l.search.side.count l.parts part)
      (read_most l.search.kind probe_longest (l.initial.looked.spare - (probe_longest - probe_most) * part));
}
