use Rattle.std.proofs.Common.{◌≡◌, ℕ, ◌+◌, ◌≤◌, length, take}
use Rattle.vbi_seek.specs.Searches.{AreSeenFrom, TellsAt, shown_from}
use Rattle.vbi_seek.specs.NumberSearch.{probe_longest}
use Rattle.vbi_seek.proofs.spots.probe.Given as goal

abbrev pub invariant-loop-i : goal.invariant-loop-i
invariant-loop-i l = record {
  long : length l.seen ≡ probe_longest;
  made : take l.i l.seen ≡ shown_from l.search l.field l.i;
  shown : AreSeenFrom l.search l.field l.initial.seen → AreSeenFrom l.search l.field l.seen;
  counted : l.looked ≡ record l.initial.looked { fields = l.initial.looked.fields + l.i };
  silent : (k n : ℕ) → k ≤ l.i → TellsAt l.search l.field k n → ⊥;
}
