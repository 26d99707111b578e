-- Numbers that are set aside: those of a run that replaces what is due there, if the rows of numbers around weigh more.
use Rattle.std.specs.Prelude.{◌≡◌, ℕ, zero, suc, ◌+◌, ◌*◌, ◌-◌, ◌/◌, ◌==◌, nat_le, nat_lt, not, ◌&&◌, ◌||◌, Bool, true}
use Rattle.std.specs.Prelude.{false, if◌then◌else◌, List, [], ◌∷◌, length, slice_get, Option, Some, None}
use Rattle.vbi_whole.specs.Types.{Number, Pace, Video, Film, Place, Gap, Rule}
use Rattle.vbi_side.specs.Clocks.{kept, by_clock}
use Rattle.vbi_side.specs.Numbers.{believed, nothing}
use Rattle.vbi_side.specs.Paces.{spot}
use Rattle.vbi_whole.specs.Gaps.{replaced, gap_made, from_of, to_of}

-- ---- rows

-- one place is in the row of the other: of video to within this many fields, of film to within two, since a cut moves
-- the numbers by one
abbrev pub are_in_row : Pace → ℕ → Place → Place → Bool
are_in_row Video slack a b =
    nat_le (b.field + 2 * a.number) (a.field + 2 * b.number + slack)
    && nat_le (a.field + 2 * b.number) (b.field + 2 * a.number + slack)
are_in_row Film slack a b =
    nat_le (2 * b.field + 5 * a.number) (2 * a.field + 5 * b.number + 4)
    && nat_le (2 * a.field + 5 * b.number) (2 * b.field + 5 * a.number + 4)

-- place b is in the row of place a, by the clock
abbrev pub is_in_row : Rule → Place → Place → Bool
is_in_row rule a b =
    are_in_row rule.pace rule.slack (by_clock rule.numbering.clock a) (by_clock rule.numbering.clock b)

-- field k has a believed number of the row of place a
abbrev pub has_of_row : Rule → Place → ℕ → Option Number → Bool
has_of_row rule a k None = false
has_of_row rule a k (Some answer) = (answer.state == 1) && is_in_row rule a (spot k answer.number)

-- this many fields before field k have one
unfoldable pub row_weight : Rule → List Number → Place → ℕ → ℕ
row_weight rule answers a zero = 0
row_weight rule answers a (suc k) =
    if has_of_row rule a k (slice_get answers k) then suc (row_weight rule answers a k) else row_weight rule answers a k

-- the row of place a weighs less than that of place b
abbrev pub is_lighter : Rule → List Number → Place → Place → Bool
is_lighter rule answers a b =
    nat_lt (row_weight rule answers a (length answers)) (row_weight rule answers b (length answers))

-- ---- which runs

-- so many fields have this many numbers at least, one after the other
abbrev pub numbers_in : Pace → ℕ → ℕ
numbers_in Video fields = fields / 2
numbers_in Film fields = (2 * fields + 1) / 5

-- a number of the run between two gaps may be due there: its numbers lie far enough above the one before the run, and
-- far enough below the one after it, for the fields of the gaps
abbrev pub has_due : Rule → Gap → Gap → Bool
has_due rule a b =
    nat_le (kept rule.numbering.clock a.from + numbers_in rule.pace (a.before - a.after + rule.slack))
    (kept rule.numbering.clock b.from)
    && nat_le (kept rule.numbering.clock a.to + numbers_in rule.pace (b.before - b.after + rule.slack))
    (kept rule.numbering.clock b.to)

-- the numbers of the run between two gaps are set aside: at neither gap the number stays, none of them is due, and at
-- both gaps the row around weighs more than that of the run
abbrev pub is_set_aside : Rule → List Number → Gap → Gap → Bool
is_set_aside rule answers a b =
    not (a.from == a.to || (b.from == b.to)) && (not (has_due rule a b)
    && (is_lighter rule answers (to_of a) (from_of a) && is_lighter rule answers (from_of b) (to_of b)))

-- ---- which fields

-- this gap, if it is the first one of a run that replaces others
abbrev pub begun : Option Gap → Option Gap → Option Gap
begun None (Some gap) = if gap.kind == replaced then Some gap else None
begun _ _ = None

-- the gap before gap k, if it is the first one of such a run: such gaps are taken in pairs, from the first one on
abbrev pub run_before : List Gap → ℕ → Option Gap
run_before gaps zero = None
run_before gaps (suc k) = begun (run_before gaps k) (slice_get gaps k)

-- field i is of the run between two gaps, which replaces others and is set aside
abbrev pub is_of_run : Rule → List Number → ℕ → Option Gap → Option Gap → Bool
is_of_run rule answers i (Some a) (Some b) =
    (nat_le a.before i && nat_le i b.after) && ((b.kind == replaced) && is_set_aside rule answers a b)
is_of_run rule answers i _ _ = false

-- field i is of a run that is set aside and ends before gap k
unfoldable pub is_aside : Rule → List Gap → List Number → ℕ → ℕ → Bool
is_aside rule gaps answers i zero = false
is_aside rule gaps answers i (suc k) =
    is_aside rule gaps answers i k || is_of_run rule answers i (run_before gaps k) (slice_get gaps k)

-- a number that was believed is in doubt if it is set aside; any other answer is as it was
abbrev pub left_of : Bool → Number → Number
left_of aside answer = if aside && (answer.state == 1) then record answer { state = 2 } else answer

-- the answers are left: those of the runs between these gaps that are set aside are in doubt, all others as they were
pub record AreLeft (rule : Rule) (gaps : List Gap) (answers left : List Number) : Type 0 where
  pub count : length left ≡ length answers
  pub each : (i : ℕ) (answer : Number) → slice_get answers i ≡ Some answer
      → slice_get left i ≡ Some (left_of (is_aside rule gaps answers i (length gaps)) answer)

-- ---- what is true of them

-- the run between gaps j and j + 1 replaces others and is set aside
pub record IsAsideAt (rule : Rule) (gaps : List Gap) (answers : List Number) (j : ℕ) : Type 0 where
  pub a : Gap
  pub b : Gap
  pub first : slice_get gaps j ≡ Some a
  pub second : slice_get gaps (suc j) ≡ Some b
  pub begins : a.kind ≡ replaced
  pub ends : b.kind ≡ replaced
  pub aside : is_set_aside rule answers a b ≡ true

-- ---- sides worked by hand

-- an answer in each second field, from the first one on: these numbers, believed
abbrev pub shown_by_turns : List ℕ → List Number
shown_by_turns [] = []
shown_by_turns (n ∷ numbers) = believed n ∷ nothing ∷ shown_by_turns numbers

-- the two gaps around a run
abbrev pub run_of : Place → Place → Place → Place → List Gap
run_of a b c d = gap_made a b replaced 0 0 ∷ gap_made c d replaced 0 0 ∷ []
