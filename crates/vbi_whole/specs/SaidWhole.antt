-- Captures that are said to be whole, and how few fields are lost of them.
use Rattle.std.specs.Prelude.{◌≡◌, ℕ, ◌+◌, ◌*◌, ◌<◌, ◌≤◌, Bool, List, Option}
use Rattle.vbi_side.specs.Beliefs.{reach, enough}
use Rattle.vbi_side.specs.Clocks.{IsClearAt}
use Rattle.vbi_side.specs.Numbers.{AreAnswers}
use Rattle.vbi_side.specs.Side.{Rises, captured, AreLost}
use Rattle.vbi_side.specs.Truth.{IsNear, wrong_weight}
use Rattle.vbi_whole.specs.Gaps.{Judged, IsGap}
use Rattle.vbi_whole.specs.Types.{Sightings, Gap, Finding, Yes}
use Rattle.vbi_whole.specs.Verdicts.{IsFinding}

-- the fields of the capture stand in the disc's order, and it is said to be whole; its first and its last number are
-- twice the reach apart or more, and less than enough was misread around each of the two
pub record IsSaidWhole (disc : ℕ → Option ℕ) (place : ℕ → ℕ) (judged : Judged) (fields : List Sightings)
    (finding : Finding) : Type 0 where
  pub rises : Rises place
  pub answers : AreAnswers judged.rule.pace fields judged.numbers
  pub may_end : Bool
  pub old : List Gap
  pub new : List Gap
  pub found : IsFinding judged may_end finding old new
  pub whole : finding.verdict ≡ Yes
  pub few : wrong_weight (captured disc place) fields finding.first < enough
  pub low : wrong_weight (captured disc place) fields finding.last < enough
  pub far : finding.first + 2 * reach ≤ finding.last

-- the numbers around the gap are believed, and less than enough was misread around each of the two
pub record IsReadGap (disc : ℕ → Option ℕ) (place : ℕ → ℕ) (judged : Judged) (fields : List Sightings) (gap : Gap)
    : Type 0 where
  pub answers : AreAnswers judged.rule.pace fields judged.numbers
  pub is : IsGap judged gap
  pub few : wrong_weight (captured disc place) fields gap.after < enough
  pub low : wrong_weight (captured disc place) fields gap.before < enough

-- the clock leaves out no number near the first one and the last one
abbrev pub AreClearEnds : Judged → Finding → Type 0
AreClearEnds judged finding = IsClearAt judged.rule.numbering.clock judged.numbers finding.first
    × IsClearAt judged.rule.numbering.clock judged.numbers finding.last

-- at most so many fields are lost between a field near the first number and one near the last
abbrev pub AreFewLost : (ℕ → ℕ) → Finding → ℕ → Type 0
AreFewLost place finding most = (p q some : ℕ) × IsNear finding.first p × IsNear finding.last q
    × AreLost place p q some × (some ≤ most)
