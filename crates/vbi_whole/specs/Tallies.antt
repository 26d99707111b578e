-- What the gaps of a capture come to, and what is told of them.
use Rattle.std.specs.Prelude.{◌≡◌, ℕ, ◌+◌, ◌-◌, ◌/◌, ◌^◌, ◌<◌, ◌≤◌, ◌==◌, min, max, sum_by, not, ◌&&◌}
use Rattle.std.specs.Prelude.{if◌then◌else◌, List, [], ◌∷◌, ◌++◌, length, Option, Some, None, slice_get}
use Rattle.vbi_whole.specs.Types.{Clock, Gap, Rule, Tally}
use Rattle.vbi_whole.specs.declared.detour.Waiting.{Waiting}
use Rattle.vbi_whole.specs.declared.gaps_so_far.Telling.{Telling}
use Rattle.vbi_whole.specs.Detours.{detoured, detoured_from}
use Rattle.vbi_whole.specs.Gaps.{lost, held, back, still, joined, open_gap, inserted, replaced, skipped, AreGaps}
use Rattle.vbi_whole.specs.Gaps.{Judged}

-- a count, or the most that 64 bits hold
abbrev pub capped : ℕ → ℕ
capped n = min n (2 ^ 64 - 1)

-- one if it is a gap of this kind
abbrev pub one_if : ℕ → Gap → ℕ
one_if kind gap = if gap.kind == kind then 1 else 0

-- its fields if it is a gap of this kind
abbrev pub fields_if : ℕ → Gap → ℕ
fields_if kind gap = if gap.kind == kind then gap.fields else 0

-- one if it is open, or of a detour of which it isn't known what it is
abbrev pub one_if_open : Gap → ℕ
one_if_open gap = one_if open_gap gap + one_if replaced gap

-- of the numbers between those of a gap this many at most are in its fields: one in two fields could be, and each that
-- is shown there is
abbrev pub shown_most : Gap → ℕ
shown_most gap = max gap.shown ((gap.before - gap.after - 1) / 2)

-- of the numbers between those of a gap with lost fields this many at least are lost; none is that the clock leaves out
abbrev pub lost_of : Clock → Gap → ℕ
lost_of clock gap = if gap.kind == lost then skipped clock gap.from gap.to - shown_most gap else 0

-- of the others it isn't known, nor of those between the numbers of an open gap
abbrev pub undecided_of : Clock → Gap → ℕ
undecided_of clock gap =
    if gap.kind == lost then min (skipped clock gap.from gap.to) (shown_most gap)
    else (if gap.kind == open_gap then skipped clock gap.from gap.to else 0)

-- the field after the last still, if that was field `end` before this gap
abbrev pub still_end_of : ℕ → Gap → ℕ
still_end_of end gap = if gap.kind == still then gap.before + 1 else end

-- one if the gap begins a still: it is one, and doesn't go on from the last one
abbrev pub begins_still : ℕ → Gap → ℕ
begins_still end gap = if gap.kind == still && not (end == (gap.after + 1)) then 1 else 0

-- the field after the last still of the gaps
unfoldable pub last_still : ℕ → List Gap → ℕ
last_still end [] = end
last_still end (gap ∷ gaps) = last_still (still_end_of end gap) gaps

-- this many stills are among the gaps
unfoldable pub stills_of : ℕ → List Gap → ℕ
stills_of end [] = 0
stills_of end (gap ∷ gaps) = begins_still end gap + stills_of (still_end_of end gap) gaps

-- what the gaps come to
abbrev pub tally_of : Clock → List Gap → ℕ → Tally
tally_of clock gaps unread = record {
  gaps = length gaps;
  lost = capped (sum_by (fields_if lost) gaps);
  held = capped (sum_by (fields_if held) gaps);
  stood = capped (sum_by (fields_if still) gaps);
  stills = capped (stills_of 0 gaps);
  still_end = last_still 0 gaps;
  back = capped (sum_by (one_if back) gaps);
  joined = capped (sum_by (one_if joined) gaps);
  open_gaps = capped (sum_by one_if_open gaps);
  lost_numbers = capped (sum_by (lost_of clock) gaps);
  undecided = capped (sum_by (undecided_of clock) gaps);
  unread = capped unread;
  inserted = capped (sum_by (fields_if inserted) gaps);
}

-- the tally with one gap more
abbrev pub with_gap : Clock → Tally → Gap → Tally
with_gap clock tally gap = record {
  gaps = tally.gaps + 1;
  lost = capped (tally.lost + fields_if lost gap);
  held = capped (tally.held + fields_if held gap);
  stood = capped (tally.stood + fields_if still gap);
  stills = capped (tally.stills + begins_still tally.still_end gap);
  still_end = still_end_of tally.still_end gap;
  back = capped (tally.back + one_if back gap);
  joined = capped (tally.joined + one_if joined gap);
  open_gaps = capped (tally.open_gaps + one_if_open gap);
  lost_numbers = capped (tally.lost_numbers + lost_of clock gap);
  undecided = capped (tally.undecided + undecided_of clock gap);
  unread = tally.unread;
  inserted = capped (tally.inserted + fields_if inserted gap);
}

-- the tally with this many unread numbers more
abbrev pub with_unread : Tally → ℕ → Tally
with_unread tally more = record tally { unread = capped (tally.unread + more) }

-- the caller's room holds the first gaps as far as it goes, and is else as it was
pub record AreWritten (gaps old new : List Gap) : Type 0 where
  pub room : length new ≡ length old
  pub first : (j : ℕ) (gap : Gap) → j < length old → slice_get gaps j ≡ Some gap → slice_get new j ≡ Some gap
  pub others : (j : ℕ) → length gaps ≤ j → slice_get new j ≡ slice_get old j

-- gaps, and how many numbers weren't read though their fields are there
pub record Listed : Type 0 where
  pub gaps : List Gap
  pub unread : ℕ

abbrev pub listed : List Gap → ℕ → Listed
listed gaps unread = record { gaps = gaps; unread = unread }

-- it is told what these gaps come to, and the room holds the first of them
pub record AreTold (clock : Clock) (all : Listed) (tally : Tally) (old new : List Gap) : Type 0 where
  pub comes_to : tally ≡ tally_of clock all.gaps all.unread
  pub written : AreWritten all.gaps old new

-- the gaps before field k are told, with their detours
pub record IsTold (judged : Judged) (k : ℕ) (tally : Tally) (old new : List Gap) : Type 0 where
  pub gaps : List Gap
  pub unread : ℕ
  pub all : AreGaps judged k gaps unread
  pub told : AreTold judged.rule.numbering.clock (listed (detoured judged.rule gaps) unread) tally old new

-- ---- gap by gap

-- the gap that waits, if one does
abbrev pub waiting : Option Waiting → Option Gap
waiting None = None
waiting (Some one) = Some one.gap

-- how far it is told: the gap that waits, if one does, and what those before it come to
pub record Stage : Type 0 where
  pub last : Option Gap
  pub tally : Tally

abbrev pub stage : Option Gap → Tally → Stage
stage last tally = record { last = last; tally = tally }

abbrev pub stage_of : Telling → Stage
stage_of telling = stage (waiting telling.last) telling.tally

-- the gaps so far are told, but the last one if a detour may begin with it: whatever comes after them is told after
-- these
pub record AreTelling (rule : Rule) (all : Listed) (at : Stage) (old new : List Gap) : Type 0 where
  pub settled : List Gap
  pub goes_on : (more : List Gap) → detoured rule (all.gaps ++ more) ≡ settled ++ detoured_from rule at.last more
  pub told : AreTold rule.numbering.clock (listed settled all.unread) at.tally old new

-- the gaps before field k are so told
pub record IsTelling (judged : Judged) (k : ℕ) (at : Stage) (old new : List Gap) : Type 0 where
  pub gaps : List Gap
  pub unread : ℕ
  pub all : AreGaps judged k gaps unread
  pub telling : AreTelling judged.rule (listed gaps unread) at old new
