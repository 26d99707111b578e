-- When a number that is sought has to be found: what the fields of a side tell leads to its first field.
use Rattle.std.specs.Prelude.{◌≡◌, ◌<◌, ◌≤◌, ℕ, List}
use Rattle.vbi_side.specs.declared.number.Number.{Number}
use Rattle.vbi_side.specs.declared.pace.Pace as paces
use Rattle.vbi_side.specs.Numbers.{IsAnswer, IsKnown}
use Rattle.vbi_seek.specs.declared.search.Seek.{Seek}
use Rattle.vbi_seek.specs.declared.number_search.Sought.{Sought}
use Rattle.vbi_seek.specs.declared.search.Target.TheVariants as kinds
use Rattle.vbi_seek.specs.Targets.{TellFirst}
use Rattle.vbi_seek.specs.NumberSearch.{Numbers, numbers_by, shown_of, around_most}
use Rattle.vbi_seek.specs.NumberSearch.{HasOther, IsJudgedIn}
use Rattle.vbi_seek.specs.Spots.{Spots, Leads, spots_in}

-- this many fields of a side from this one on tell a number together, and fewer tell none; they are no more than are
-- read at one place
abbrev pub Tells : Numbers → ℕ → ℕ → ℕ → Type 0
Tells numbers field k n = TellFirst (kinds.Number numbers.judging) numbers.side field k n

-- the spots of numbers
abbrev pub number_spots : Numbers → Spots
number_spots numbers = spots_in (kinds.Number numbers.judging) numbers.side

-- the first field of the side of which this number is known is t, at this pace, which is the one that is asked for
-- whichever fields are judged for field t
pub record IsFirstKnown (numbers : Numbers) (number t : ℕ) (pace : paces.Pace) : Type 0 where
  pub inside : t < numbers.side.count
  pub known : (answer : Number) × IsAnswer pace (shown_of numbers) t answer × IsKnown answer number
  pub others : (i : ℕ) → i < t → HasOther pace (shown_of numbers) number i
  pub asked : (first many : ℕ) (found : paces.Pace) → many ≤ around_most
      → IsJudgedIn numbers t first many found → found ≡ pace

-- the first field with the number, to which the fields lead, is the one that is answered
abbrev pub IsCompleteIn : Numbers → ℕ → Sought → Type 0
IsCompleteIn numbers number sought = (t a b : ℕ) (pace : paces.Pace) → numbers.side.count ≤ 1000000
    → IsFirstKnown numbers number t pace → Leads (number_spots numbers) number t a b → sought.field ≡ t

-- the same of all fields of the side
abbrev pub IsComplete : Seek → List ℕ → ℕ → Sought → Type 0
IsComplete seek bytes number sought = IsCompleteIn (numbers_by seek bytes) number sought
