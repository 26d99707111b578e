use Rattle.std.proofs.Common.{ℕ, ◌<◌, List, take}
use Rattle.vbi_near.proofs.Common.{Look, IsSeen, with_ranges, IsLead, IsFew, IsClose}
use Rattle.vbi_near.specs.Prices.{IsPricedBy, ranges_of}
use Rattle.vbi_near.proofs.codes.with_codes.Given as goal

abbrev pub invariant-loop-words : goal.invariant-loop-words
invariant-loop-words l = record {
  lead : (cost : ℕ → ℕ → ℕ) (looks : List Look) → IsPricedBy cost l.prices → IsLead cost (IsSeen looks) l.fn.found
      → IsLead cost (IsSeen (with_ranges looks l.prices.start (ranges_of (take l.words-index l.codes)))) l.best;
  few : IsFew l.fn.found → IsFew l.best;
  close : IsFew l.fn.found → 0 < l.words-index → IsClose l.best;
}
