-- Whether a capture of a side is whole: yes, no, or it can't be told, with the reasons.
use Rattle.std.specs.Prelude.{◌≡◌, ℕ, ◌+◌, ◌*◌, ◌-◌, ◌==◌, nat_lt, nat_le, not, ◌&&◌, ◌||◌, ◌⊎◌, Bool, false, true}
use Rattle.std.specs.Prelude.{if◌then◌else◌, List, [], length, count_by, drop}
use Rattle.vbi_whole.specs.Types.{Number, Gap, Tally, Finding, Findings, Reasons, Verdict, Yes, No, CannotTell, Pace}
use Rattle.vbi_whole.specs.Types.{Video, Film, Place, Plain, Rule}
use Rattle.vbi_side.specs.Paces.{spot, nearly}
use Rattle.vbi_side.specs.Numbers.{IsMarked}
use Rattle.vbi_side.specs.Side.{AreEnds}
use Rattle.vbi_side.specs.Clocks.{by_clock}
use Rattle.vbi_whole.specs.Gaps.{since_end, Judged}
use Rattle.vbi_whole.specs.Tallies.{IsTold, tally_of}
use Rattle.vbi_side.specs.Ends.{lead_out, padding}
use Rattle.vbi_whole.specs.BlankFields.{IsBlankTold}
use Rattle.vbi_whole.specs.Swaps.{IsSwapTold}
use Rattle.vbi_whole.specs.Drifts.{IsDriftTold}

-- nothing speaks against a capture
abbrev pub no_reason : Reasons
no_reason = record {
  is_lost = false;
  is_held = false;
  goes_back = false;
  is_joined = false;
  begins_late = false;
  is_swapped = false;
  is_off = false;
  no_numbers = false;
  end_unseen = false;
  begin_unseen = false;
  many_doubtful = false;
  is_open = false;
  is_inserted = false;
  is_padded = false;
  is_blank = false;
}

-- one of these reasons is seen on the capture itself
abbrev pub are_seen : Reasons → Bool
are_seen reasons =
    reasons.is_lost || reasons.is_held || reasons.goes_back || reasons.is_joined || reasons.begins_late
    || reasons.is_swapped || reasons.is_inserted || reasons.is_padded

-- one of these reasons leaves it open whether the capture is whole
abbrev pub leave_open : Reasons → Bool
leave_open reasons =
    reasons.is_off || reasons.no_numbers || reasons.end_unseen || reasons.begin_unseen || reasons.many_doubtful
    || reasons.is_open || reasons.is_blank

-- the verdict that reasons leave: no if one is seen on the capture, yes if there is none, else it can't be told
abbrev pub verdict_of : Reasons → Verdict
verdict_of reasons = if are_seen reasons then No else (if leave_open reasons then CannotTell else Yes)

-- this many fields are fewer than the numbers before number m take, if 1 is the first; of film by more than a field
abbrev pub too_few : Pace → ℕ → ℕ → Bool
too_few Video fields m = nat_lt fields (2 * (m - 1))
too_few Film fields m = nat_lt (2 * fields + 2) (5 * (m - 1))

-- no gap is open, and the first and the last number don't count to each other, less the fields for which the player
-- stood still, and those that detours insert
abbrev pub is_off : Rule → Tally → Place → Place → Bool
is_off rule tally first last =
    (tally.open_gaps == 0) && not (nearly rule.pace rule.slack
    (spot (first.field + tally.stood + tally.inserted) first.number) last)

-- the first number isn't the disc's first, and over a hundred fields without numbers stand before it
abbrev pub is_begin_unseen : List ℕ → Place → Bool
is_begin_unseen ends first = nat_lt 1 first.number && nat_lt 100 (since_end ends first.field)

-- a field after field k is of lead-out
abbrev pub lead_out_follows : List ℕ → ℕ → Bool
lead_out_follows ends k = nat_lt 0 (count_by (λ e. e == lead_out) (drop (k + 1) ends))

-- no lead-out is seen after the last number, and the caller doesn't say that the capture may end before the disc
abbrev pub is_end_unseen : Bool → List ℕ → ℕ → Bool
is_end_unseen may_end ends last = not may_end && not (lead_out_follows ends last)

-- this many answers are of this state
abbrev pub count_of : ℕ → List Number → ℕ
count_of state answers = count_by (λ (a : Number). a.state == state) answers

-- of the numbers that were read a tenth or more is in doubt
abbrev pub are_doubtful : List Number → Bool
are_doubtful answers =
    nat_le (count_of 1 answers + count_of 2 answers) (10 * count_of 2 answers)

-- this many fields are padding
abbrev pub padded_in : List ℕ → ℕ
padded_in ends = count_by (λ e. e == padding) ends

-- all reasons against a capture of which this is found; how far its first and its last number are from each other and
-- from the disc's beginning is counted by the clock
abbrev pub reasons_of : Judged → Bool → Findings → Reasons
reasons_of judged may_end found =
    let tally = found.tally in
    let first = by_clock judged.rule.numbering.clock found.first in
    let last = by_clock judged.rule.numbering.clock found.last in
    record {
      is_lost = nat_lt 0 tally.lost;
      is_held = nat_lt 0 tally.held;
      goes_back = nat_lt 0 tally.back;
      is_joined = nat_lt 0 tally.joined;
      begins_late = too_few judged.rule.pace (since_end judged.ends first.field) first.number;
      is_swapped = found.swap.is_seen;
      is_off = found.drifts || is_off judged.rule tally first last;
      no_numbers = false;
      end_unseen = is_end_unseen may_end judged.ends found.last.field;
      begin_unseen = is_begin_unseen judged.ends found.first;
      many_doubtful = are_doubtful judged.numbers;
      is_open = nat_lt 0 tally.open_gaps;
      is_inserted = nat_lt 0 tally.inserted;
      is_padded = nat_lt 0 (padded_in judged.ends);
      is_blank = nat_lt 0 found.blank;
    }

-- no number is believed
abbrev pub HasNone : List Number → Type 0
HasNone answers = (i k : ℕ) → IsMarked answers i k → ⊥

-- no number is believed, and nothing else is said of the capture
abbrev pub IsUntold : List Number → Finding → Type 0
IsUntold answers finding =
    HasNone answers × (finding.reasons ≡ record no_reason { no_numbers = true }) × (finding.first ≡ 0)
    × (finding.last ≡ 0)

-- what is found of a capture with these first and last numbers, if it is swapped or drifts as this says
abbrev pub found_by : Finding → Bool → Bool → ℕ → ℕ → Findings
found_by finding swapped drifts m n = record {
  tally = finding.tally;
  padded = finding.padded;
  swap = record { field = finding.swap; is_seen = swapped };
  drifts = drifts;
  blank = finding.blank;
  first = spot finding.first m;
  last = spot finding.last n;
}

-- its reasons: that no number is believed, or all that there are against what is found
abbrev pub AreReasons : Judged → Bool → Finding → Bool → Bool → Type 0
AreReasons judged may_end finding swapped drifts = IsUntold judged.numbers finding
    ⊎ ((m n : ℕ) × AreEnds judged.numbers finding.first m finding.last n
    × (finding.reasons ≡ reasons_of judged may_end (found_by finding swapped drifts m n)))

-- what is said of a capture
pub record IsFinding (judged : Judged) (may_end : Bool) (finding : Finding) (old new : List Gap) : Type 0 where
  pub told : IsTold judged (length judged.numbers) finding.tally old new
  pub swapped : Bool
  pub swap : IsSwapTold judged.rule judged.seen judged.numbers finding.swap swapped
  pub drifts : Bool
  pub drift : IsDriftTold judged.rule judged.numbers drifts
  pub padded : finding.padded ≡ padded_in judged.ends
  pub blank : IsBlankTold judged.rule judged.numbers finding.blank
  pub verdict : finding.verdict ≡ verdict_of finding.reasons
  pub reasons : AreReasons judged may_end finding swapped drifts

-- what is said of a capture with no gap from the first field with a number to the last, to which nothing is to be said
abbrev pub found_whole : ℕ → ℕ → Finding
found_whole first last = record {
  tally = tally_of Plain [] 0;
  first = first;
  last = last;
  swap = 0;
  padded = 0;
  blank = 0;
  verdict = Yes;
  reasons = no_reason;
}
