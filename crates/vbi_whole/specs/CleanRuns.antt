-- Captures of video that leave nothing to doubt: one run of a disc, each number of which was read.
use Rattle.std.specs.Prelude.{◌≡◌, ℕ, ◌+◌, ◌*◌, ◌-◌, ◌<◌, ◌≤◌, ◌⊎◌, Bool, true, false, List, Some, slice_get}
use Rattle.vbi_whole.specs.Types.{Clock, Sightings}
use Rattle.vbi_side.specs.Sightings.{Shows}
use Rattle.vbi_side.specs.Clocks.{kept, leaves_out}
use Rattle.vbi_side.specs.DueNumbers.{ShowsTwice}
use Rattle.vbi_whole.specs.Gaps.{since_end, Judged}
use Rattle.vbi_side.specs.Ends.{lead_out}
use Rattle.vbi_whole.specs.Verdicts.{padded_in}

-- ---- the numbers of a run

-- both lines of field i show this number, in pass 1
abbrev pub IsReadTwice : List Sightings → ℕ → ℕ → Type 0
IsReadTwice fields i n = ShowsTwice fields i × Shows (slice_get fields i) n

-- pictures 0 to `last` of a run have the numbers that a disc with this clock has, one after the other
abbrev pub KeepsTo : Clock → (ℕ → ℕ) → ℕ → Type 0
KeepsTo clock number last = (p : ℕ) → p ≤ last
    → (kept clock (number p) ≡ kept clock (number 0) + p) × (leaves_out clock (number p) ≡ false)

-- picture p is one of three of the run between which the clock leaves out no number
abbrev pub IsOneOfThree : (ℕ → ℕ) → ℕ → ℕ → Type 0
IsOneOfThree number last p = (q : ℕ) × (q ≤ p) × (p ≤ q + 2) × (q + 2 ≤ last)
    × (number (q + 1) ≡ number q + 1) × (number (q + 2) ≡ number q + 2)

-- the first three are three of these, and the last three
abbrev pub AreThreeAtEnds : (ℕ → ℕ) → ℕ → Type 0
AreThreeAtEnds number last =
    (2 ≤ last) × (number 2 ≡ number 0 + 2) × (number last ≡ number (last - 2) + 2)

-- ---- the run

-- from field `begin` on every other field shows the number of the next picture on both lines, in pass 1, up to picture
-- `last`; no other field shows a number
pub record IsReadRun (number : ℕ → ℕ) (fields : List Sightings) (begin last : ℕ) : Type 0 where
  pub each : (p : ℕ) → p ≤ last → IsReadTwice fields (begin + 2 * p) (number p)
  pub others : (i n : ℕ) → Shows (slice_get fields i) n → (p : ℕ) × (p ≤ last) × (i ≡ begin + 2 * p)

-- and these are the numbers of a disc with this clock, which leaves out so few that each stands among three. The law
-- `clean_runs_are` says when that is so: of a disc that leaves out no number, if the run has three pictures or more
pub record IsCleanRun (clock : Clock) (number : ℕ → ℕ) (fields : List Sightings) (begin last : ℕ) : Type 0 where
  pub read : IsReadRun number fields begin last
  pub keeps : KeepsTo clock number last
  pub three : (p : ℕ) → p ≤ last → IsOneOfThree number last p

-- ---- its ends

-- number m in field `begin` is the disc's first, 1 or 0. Or fields enough for the numbers before it, 100 at most, stand
-- between it and the last field of lead-in or lead-out before it, or from the capture's beginning on if there is none
abbrev pub IsBegun : Clock → List ℕ → ℕ → ℕ → Type 0
IsBegun clock ends begin m =
    (m ≤ 1) ⊎ ((2 * (kept clock m - 1) ≤ since_end ends begin) × (since_end ends begin ≤ 100))

-- a field after field k is of lead-out, or the caller says that the capture may end before the disc
abbrev pub IsEnded : Bool → List ℕ → ℕ → Type 0
IsEnded may_end ends k = (may_end ≡ true) ⊎ ((e : ℕ) × (k < e) × (slice_get ends e ≡ Some lead_out))

-- the run is the whole of a side, none of which is padding
pub record IsCleanSide (judged : Judged) (number : ℕ → ℕ) (begin last : ℕ) (may_end : Bool) : Type 0 where
  pub run : IsCleanRun judged.rule.numbering.clock number judged.seen begin last
  pub begun : IsBegun judged.rule.numbering.clock judged.ends begin (number 0)
  pub ended : IsEnded may_end judged.ends (begin + 2 * last)
  pub unpadded : padded_in judged.ends ≡ 0
