-- The verdict on a side, as C asks for it: first the system is looked at, then the lengths of the arrays, then what is
-- counted, then the pace, then the clock.
use Rattle.std.specs.Prelude.{◌≡◌, ◌⊎◌, ℕ, if◌then◌else◌, Bool, true, false, List, Option, Some, ok_or, Result, Ok}
use Rattle.vbi_c.specs.Types.{Number, Plain, DropFrame, Video, Film, Finding, Numbering, LdvbiSide, LdvbiSideRule}
use Rattle.vbi_c.specs.Types.{Siding, Refusal, Sightings}
use Rattle.vbi_side.specs.declared.clock.Clock as clocks
use Rattle.vbi_side.specs.declared.pace.Pace as paces
use Rattle.vbi_side.specs.Clocks.{IsProper}
use Rattle.vbi_whole.specs.ClockSearch.{IsClockTold, ExplainsMost}
use Rattle.vbi_c.specs.declared.status.Refusal.TheVariants.{Counted, Pace, Clock}
use Rattle.vbi_c.specs.Numbers.{system_of, counted_of, pace_given, both_by, clock_given, verdict_for_c, reasons_for_c}
use Rattle.vbi_c.specs.Statuses.{in_turn}
use Rattle.vbi_c.specs.Judging.{with_lengths}
use Rattle.vbi_whole.specs.Gaps.{Judged, to_judge, rule_by, has_clock}

-- what a rule with this clock asks for, of arrays whose lengths fit or don't
abbrev pub siding_with : LdvbiSideRule → Option clocks.Clock → Bool → Result Siding Refusal
siding_with rule clock fit = in_turn (with_lengths (system_of rule.system) fit) (λ system.
    in_turn (ok_or (counted_of rule.counted) Counted) (λ counted.
    in_turn (ok_or (pace_given rule.pace) Pace) (λ pace. in_turn (ok_or clock Clock) (λ clock.
    Ok (record { numbering = record { system = system; counted = counted; clock = clock }; pace = pace })))))

-- what a rule asks for
abbrev pub siding_by : LdvbiSideRule → Bool → Result Siding Refusal
siding_by rule fit = siding_with rule (clock_given rule.clock) fit

-- what a rule asks for whose clock is to be found, of one array
abbrev pub numbering_of : LdvbiSideRule → Result Siding Refusal
numbering_of rule = siding_with rule (Some Plain) true

-- by how many fields numbers may be off from each other: by one of video with numbers on both fields
abbrev pub slack_by : paces.Pace → ℕ → List Number → ℕ
slack_by Video both numbers = if both_by both numbers then 1 else 0
slack_by Film both numbers = 0

-- what is judged of a side for which this is asked
abbrev pub judged_by : Siding → ℕ → List Sightings → List Number → List ℕ → Judged
judged_by siding both seen numbers ends =
    to_judge (rule_by siding.pace (slack_by siding.pace both numbers) siding.numbering) seen numbers ends

-- what is found of a side, as C sees it
abbrev pub side_for_c : Finding → LdvbiSide
side_for_c found = record {
  tally = found.tally;
  first = found.first;
  last = found.last;
  swap = found.swap;
  padded = found.padded;
  blank = found.blank;
  verdict = verdict_for_c found.verdict;
  reasons = reasons_for_c found.reasons;
}

-- the clock is one that the numbers tell, or that of the numbering: drop-frame if that explains most of the places at
-- which they don't go on, and that of the numbering if the disc has none
pub record IsClockFound (pace : paces.Pace) (slack : ℕ) (numbering : Numbering) (answers : List Number)
    (clock : clocks.Clock) : Type 0 where
  pub told : (clock ≡ numbering.clock) ⊎ (IsProper clock × IsClockTold clock (rule_by pace slack numbering) answers)
  pub drop : has_clock numbering ≡ true → ExplainsMost DropFrame (rule_by pace slack numbering) answers → clock
      ≡ DropFrame
  pub none : has_clock numbering ≡ false → clock ≡ numbering.clock
