-- Seeking a number in the bytes of a side. A last field that is cut is left out.
use Rattle.std.specs.Prelude.{◌≡◌, ◌<◌, ◌≤◌, ◌+◌, ◌*◌, ◌⊎◌, ℕ, List, map, Some, None}
use Rattle.std.specs.List.{range_with_len}
use Rattle.vbi_side.specs.declared.number.Number.{Number}
use Rattle.vbi_side.specs.declared.pace.Pace as paces
use Rattle.vbi_side.specs.declared.sighting.Sightings.{Sightings}
use Rattle.vbi_side.specs.Beliefs.{reach}
use Rattle.vbi_side.specs.Misread.{numbers_in}
use Rattle.vbi_side.specs.Numbers.{nothing, IsAnswer, IsKnown}
use Rattle.vbi_seek.specs.declared.asked.Judging.{Judging}
use Rattle.vbi_seek.specs.declared.search.Seek.{Seek}
use Rattle.vbi_seek.specs.declared.number_search.Sought.{Sought}
use Rattle.vbi_seek.specs.Asked.{IsAskedPace}
use Rattle.vbi_seek.specs.FieldLines.{Side, side_in, lines_at}

-- the fields that tell a number at one place, those that are read there if many were worn, those that are read while
-- the place is sought, and those that are judged, at most
abbrev pub probe_most : ℕ
probe_most = 12

abbrev pub probe_longest : ℕ
probe_longest = 144

abbrev pub probed_most : ℕ
probed_most = 812

abbrev pub around_most : ℕ
around_most = 188

-- the fields that are read in all, at most
abbrev pub looked_most : ℕ
looked_most = 1000

-- the fields between which a number is sought no further
abbrev pub left_most : ℕ
left_most = 32

-- the numbers of a side, and how they are judged
pub record Numbers : Type 0 where
  pub side : Side
  pub judging : Judging

-- those of the side of these bytes
abbrev pub numbers_by : Seek → List ℕ → Numbers
numbers_by seek bytes = record { side = side_in seek.setup bytes; judging = seek.judging }

-- what a field of the side shows of its number, with the nearest words of worn lines
abbrev pub shown_at : Numbers → ℕ → Sightings
shown_at numbers i = numbers_in numbers.judging.system numbers.judging.counted (lines_at numbers.side i)

-- what this many fields from this one on show
abbrev pub shown_from : Numbers → ℕ → ℕ → List Sightings
shown_from numbers first many = map (shown_at numbers) (range_with_len first many)

-- what each field of the side shows
abbrev pub shown_of : Numbers → List Sightings
shown_of numbers = shown_from numbers 0 numbers.side.count

-- this field is answered another number than this one, or none
abbrev pub HasOther : paces.Pace → List Sightings → ℕ → ℕ → Type 0
HasOther pace shown number i = (other : Number) × IsAnswer pace shown i other × (IsKnown other number → ⊥)

-- this many fields from this one on are judged: the field with all on which its answer depends, at the pace that is
-- asked for
pub record IsJudgedIn (numbers : Numbers) (field first many : ℕ) (pace : paces.Pace) : Type 0 where
  pub inside : first + many ≤ numbers.side.count
  pub before : (first ≡ 0) ⊎ (first + 2 * reach ≤ field)
  pub after : (first + many ≡ numbers.side.count) ⊎ (field + 2 * reach < first + many)
  pub asked : IsAskedPace numbers.judging (shown_from numbers first many) pace

-- the number is found: it is what is answered of its field, by what all fields of the side show at this pace, which is
-- the one that is found by the fields that were read around it, if none is given; and the field before it is
-- answered another
pub record IsFoundIn (numbers : Numbers) (number : ℕ) (sought : Sought) (pace : paces.Pace) : Type 0 where
  pub judged : (first many : ℕ) × (many ≤ sought.looked) × IsJudgedIn numbers sought.field first many pace
  pub pace_is : sought.pace ≡ Some pace
  pub known : IsKnown sought.number number
  pub answer : IsAnswer pace (shown_of numbers) sought.field sought.number
  pub begins : (sought.field ≡ 0)
      ⊎ ((before : ℕ) × (before + 1 ≡ sought.field) × HasOther pace (shown_of numbers) number before)

-- this many fields of a side were read at most, and 72 at least or all; the number is found, or the field is none of
-- the side's, and then there is neither a number nor a pace
pub record IsSoughtIn (numbers : Numbers) (number : ℕ) (sought : Sought) : Type 0 where
  pub few : sought.looked ≤ looked_most
  pub read : (numbers.side.count ≤ sought.looked) ⊎ (72 ≤ sought.looked)
  pub inside : sought.field ≤ numbers.side.count
  pub found : sought.field < numbers.side.count → (pace : paces.Pace) × IsFoundIn numbers number sought pace
  pub none : sought.field ≡ numbers.side.count → (sought.number ≡ nothing) × (sought.pace ≡ None)

-- the same of all fields of the side
abbrev pub IsSought : Seek → List ℕ → ℕ → Sought → Type 0
IsSought seek bytes number sought = IsSoughtIn (numbers_by seek bytes) number sought
