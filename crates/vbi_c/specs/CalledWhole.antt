-- What the calls answer of a side one after the other, and a side that is called whole by that.
use Rattle.std.specs.Prelude.{◌≡◌, ℕ, ◌+◌, ◌<◌, ◌≤◌, Bool, List, Option}
use Rattle.vbi_c.specs.Types.{Gap, Number, Sightings, Finding, LdvbiFieldReadings, Judging, Siding, LdvbiSide, Pace}
use Rattle.vbi_side.specs.Clocks.{IsClearAt}
use Rattle.vbi_side.specs.Side.{Rises, captured, AreLost}
use Rattle.vbi_side.specs.Truth.{wrong_weight, IsNear}
use Rattle.vbi_whole.specs.Verdicts.{IsFinding}
use Rattle.vbi_c.specs.Judging.{AreJudged}
use Rattle.vbi_c.specs.WholeSides.{slack_by, side_for_c}
use Rattle.vbi_whole.specs.Gaps.{Judged, to_judge, rule_by}

-- what the calls are given of a side, and what they answer: ldvbi_judge of its readings, and then ldvbi_judge_side,
-- with the gaps before the call and after it
pub record Called : Type 0 where
  pub judging : Judging
  pub readings : List LdvbiFieldReadings
  pub seen : List Sightings
  pub numbers : List Number
  pub ends : List ℕ
  pub siding : Siding
  pub both : ℕ
  pub may_end : Bool
  pub old : List Gap
  pub new : List Gap
  pub side : LdvbiSide

-- by how many fields its numbers may be off from each other, at this pace
abbrev pub slack_at : Pace → Called → ℕ
slack_at pace called = slack_by pace called.both called.numbers

-- the side as it is judged at this pace and to within so many fields
abbrev pub judged_at : Called → Pace → ℕ → Judged
judged_at called pace slack =
    to_judge (rule_by pace slack called.siding.numbering) called.seen called.numbers called.ends

-- this is found of it then, and answered
abbrev pub Finds : Called → Pace → ℕ → Type 0
Finds called pace slack =
    (found : Finding) × IsFinding (judged_at called pace slack) called.may_end found called.old called.new
    × (called.side ≡ side_for_c found)

-- the calls answer so: the side is judged at the pace at which its numbers were
pub record IsAnswered (called : Called) : Type 0 where
  pub judged : AreJudged called.judging called.readings called.seen called.numbers called.siding.pace
  pub found : Finds called called.siding.pace (slack_at called.siding.pace called)

-- the side is called whole, its fields stand in the disc's order, its first and last number are 48 fields or more
-- apart, and the words misread near each of the two weigh less than 10
pub record IsCalledWhole (disc : ℕ → Option ℕ) (place : ℕ → ℕ) (called : Called) : Type 0 where
  pub answered : IsAnswered called
  pub whole : called.side.verdict ≡ 1
  pub rises : Rises place
  pub few : wrong_weight (captured disc place) called.seen called.side.first < 10
  pub low : wrong_weight (captured disc place) called.seen called.side.last < 10
  pub far : called.side.first + 48 ≤ called.side.last

-- the clock leaves out no number near the first one and the last one
abbrev pub AreClearEnds : Called → Type 0
AreClearEnds called = IsClearAt called.siding.numbering.clock called.numbers called.side.first
    × IsClearAt called.siding.numbering.clock called.numbers called.side.last

-- at most so many fields are lost between a field near the first number and one near the last
abbrev pub AreFewLost : (ℕ → ℕ) → Called → ℕ → Type 0
AreFewLost place called most = (p q some : ℕ) × IsNear called.side.first p × IsNear called.side.last q
    × AreLost place p q some × (some ≤ most)
