-- Where numbers that go on one by one, each to within a field, don't count to each other over a stretch: of film, and
-- of numbers on both fields of a picture.
use Rattle.std.specs.Prelude.{◌≡◌, ℕ, ◌+◌, ◌*◌, ◌<◌, ◌≤◌, nat_le, Bool, true, false, List, Option, Some, None}
use Rattle.vbi_whole.specs.Types.{Number, Pace, Video, Film, Place, Rule}
use Rattle.vbi_side.specs.Numbers.{IsMarked}
use Rattle.vbi_side.specs.Paces.{spot}
use Rattle.vbi_whole.specs.declared.drift.Span.{Span}
use Rattle.vbi_side.specs.Clocks.{by_clock}
use Rattle.vbi_whole.specs.Gaps.{AreNeighbours, IsLast, goes_on}

-- from field i to field j each believed number goes on from the one before it
abbrev pub RunsOn : Rule → List Number → ℕ → ℕ → Type 0
RunsOn rule answers i j = (a m b n : ℕ) → i ≤ a → b ≤ j → AreNeighbours answers (spot a m) (spot b n)
    → goes_on rule (spot a m) (spot b n) ≡ true

-- the number of field j doesn't count to one before it, from which numbers run on
pub record IsDrift (rule : Rule) (answers : List Number) (j : ℕ) : Type 0 where
  pub i : ℕ
  pub m : ℕ
  pub n : ℕ
  pub order : i < j
  pub here : IsMarked answers i m
  pub there : IsMarked answers j n
  pub runs : RunsOn rule answers i j
  pub apart : goes_on rule (spot i m) (spot j n) ≡ false

-- there is such a number, or there is none
abbrev pub IsDriftTold : Rule → List Number → Bool → Type 0
IsDriftTold rule answers true = (j : ℕ) × IsDrift rule answers j
IsDriftTold rule answers false = (j : ℕ) → IsDrift rule answers j → ⊥

-- ---- field by field

-- place a stands no later for its number than place b
abbrev pub leads : Pace → Place → Place → Bool
leads Video a b = nat_le (a.field + 2 * b.number) (b.field + 2 * a.number)
leads Film a b = nat_le (2 * a.field + 5 * b.number) (2 * b.field + 5 * a.number)

-- by the clock it stands no later
abbrev pub leads_by : Rule → Place → Place → Bool
leads_by rule a b = leads rule.pace (by_clock rule.numbering.clock a) (by_clock rule.numbering.clock b)

-- the number before a span doesn't go on to it
abbrev pub IsApart : Rule → Option Place → Place → Type 0
IsApart rule None first = Unit {0}
IsApart rule (Some before) first = goes_on rule before first ≡ false

-- the span that goes on to field k: its first and its last number, and those that stand earliest and latest
pub record IsSpan (rule : Rule) (answers : List Number) (k : ℕ) (span : Span) : Type 0 where
  pub before : IsLast answers span.first.field span.before
  pub first : IsMarked answers span.first.field span.first.number
  pub apart : IsApart rule span.before span.first
  pub last : IsLast answers k (Some span.last)
  pub from : span.first.field ≤ span.last.field
  pub low : IsMarked answers span.low.field span.low.number
  pub low_inside : span.first.field ≤ span.low.field
  pub low_before : span.low.field ≤ span.last.field
  pub high : IsMarked answers span.high.field span.high.number
  pub high_inside : span.first.field ≤ span.high.field
  pub high_before : span.high.field ≤ span.last.field
  pub runs : RunsOn rule answers span.first.field span.last.field
  pub least : (i m : ℕ) → span.first.field ≤ i → i < k → IsMarked answers i m
      → leads_by rule span.low (spot i m) ≡ true
  pub most : (i m : ℕ) → span.first.field ≤ i → i < k → IsMarked answers i m
      → leads_by rule (spot i m) span.high ≡ true

-- the span before field k, if a number is believed before it
abbrev pub IsSpanBefore : Rule → List Number → ℕ → Option Span → Type 0
IsSpanBefore rule answers k None = (j l : ℕ) → j < k → IsMarked answers j l → ⊥
IsSpanBefore rule answers k (Some span) = IsSpan rule answers k span
