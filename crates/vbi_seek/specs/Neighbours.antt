-- The neighbours of a number that is sought: the nearest lower and the nearest higher number that the fields tell in
-- which it was looked for.
use Rattle.std.specs.Prelude.{◌≡◌, ◌<◌, ◌≤◌, ◌+◌, ◌⊎◌, ℕ, List, length, Option, Some, None}
use Rattle.vbi_side.specs.declared.number.Number.{Number}
use Rattle.vbi_side.specs.declared.pace.Pace as paces
use Rattle.vbi_side.specs.declared.sighting.Sightings.{Sightings}
use Rattle.vbi_side.specs.Numbers.{nothing, believed, IsAnswer, IsMarked}
use Rattle.vbi_seek.specs.declared.neighbours.Neighbour.{Neighbour}
use Rattle.vbi_seek.specs.declared.number_search.Around.{Around}
use Rattle.vbi_seek.specs.declared.search.Seek.{Seek}
use Rattle.vbi_seek.specs.declared.number_search.Sought.{Sought}
use Rattle.vbi_seek.specs.NumberLeads.{number_spots}
use Rattle.vbi_seek.specs.Spots.{Leads}
use Rattle.vbi_seek.specs.NumberSearch.{Numbers, numbers_by, shown_of, IsJudgedIn}

-- ---- the two ways

-- a way from a number to a neighbour: whether a number lies that way of another, and whether a field comes no later
-- that way than another of the same number, of which the last one is the neighbour
pub record Way : Type 1 where
  pub lies : ℕ → ℕ → Type 0
  pub passed : ℕ → ℕ → Type 0

-- to the lower numbers, whose neighbour is the last of its fields, and to the higher ones, whose is the first
abbrev pub down : Way
down = record { lies = λ n m. n < m; passed = λ i j. i ≤ j }

abbrev pub up : Way
up = record { lies = λ n m. m < n; passed = λ i j. j ≤ i }

-- ---- among answers

-- field `at` of those before field k is the last one this way with the nearest number that is believed, which is m
pub record IsNearestAt (way : Way) (answers : List Number) (k number at m : ℕ) : Type 0 where
  pub inside : at < k
  pub told : IsMarked answers at m
  pub lies : way.lies m number
  pub nearest : (i n : ℕ) → i < k → IsMarked answers i n → way.lies n number
      → way.lies n m ⊎ ((n ≡ m) × way.passed i at)

-- it is, if one of them has any
abbrev pub IsNearest : Way → List Number → ℕ → ℕ → Option ℕ → Type 0
IsNearest way answers k number (Some at) = (m : ℕ) × IsNearestAt way answers k number at m
IsNearest way answers k number None = (i n : ℕ) → i < k → IsMarked answers i n → way.lies n number → ⊥

-- ---- among the fields of a side from one on up to another

-- the fields from one on up to another, and the pace at which they are judged
pub record Span : Type 0 where
  pub pace : paces.Pace
  pub from : ℕ
  pub to : ℕ

-- those in which a number is looked for
abbrev pub span_of : paces.Pace → Around → Span
span_of pace around = record { pace = pace; from = around.from; to = around.to }

-- all fields of a side of so many
abbrev pub all_of : paces.Pace → ℕ → Span
all_of pace count = record { pace = pace; from = 0; to = count }

-- field i is believed to have number n, by what all fields of the side show at this pace
abbrev pub IsBelieved : paces.Pace → List Sightings → ℕ → ℕ → Type 0
IsBelieved pace shown i n = IsAnswer pace shown i (believed n)

-- this field is the last of them this way with the nearest number that they tell, which is m
pub record IsToldThere (way : Way) (shown : List Sightings) (span : Span) (number field m : ℕ) : Type 0 where
  pub inside : (span.from ≤ field) × (field < span.to)
  pub told : IsBelieved span.pace shown field m
  pub lies : way.lies m number
  pub nearest : (i n : ℕ) → span.from ≤ i → i < span.to → IsBelieved span.pace shown i n → way.lies n number
      → way.lies n m ⊎ ((n ≡ m) × way.passed i field)

-- they tell no number this way
abbrev pub TellNone : Way → List Sightings → Span → ℕ → Type 0
TellNone way shown span number =
    (i n : ℕ) → span.from ≤ i → i < span.to → IsBelieved span.pace shown i n → way.lies n number → ⊥

-- there is no neighbour: the field is none of the side's, and then there is no number
abbrev pub IsNone : ℕ → Neighbour → Type 0
IsNone count neighbour = (neighbour.field ≡ count) × (neighbour.number ≡ nothing)

-- the neighbour this way is the nearest number that these fields tell there, if they tell any
abbrev pub IsBeside : Way → List Sightings → ℕ → Span → ℕ → Neighbour → Type 0
IsBeside way shown count span number neighbour =
    ((m : ℕ) × (neighbour.number ≡ believed m) × IsToldThere way shown span number neighbour.field m)
    ⊎ (IsNone count neighbour × TellNone way shown span number)

-- ---- of the whole side

-- the numbers that the fields of a side tell rise along it, or stay
abbrev pub AreRising : paces.Pace → List Sightings → Type 0
AreRising pace shown = (i j m n : ℕ) → i < j → IsBelieved pace shown i m → IsBelieved pace shown j n → m ≤ n

-- they leave a gap for the number at field t: lower ones are told up to it, one of them at most 24 fields before it,
-- and higher ones from it on, one of them at most 24 fields after it, if there are any
pub record IsGap (pace : paces.Pace) (shown : List Sightings) (number t : ℕ) : Type 0 where
  pub inside : t < length shown
  pub rising : AreRising pace shown
  pub lower : (i n : ℕ) → IsBelieved pace shown i n → n < number
      → (i ≤ t) × ((j m : ℕ) × (t ≤ j + 24) × IsBelieved pace shown j m × (m < number))
  pub higher : (i n : ℕ) → IsBelieved pace shown i n → number < n
      → (t ≤ i) × ((j m : ℕ) × (j ≤ t + 24) × IsBelieved pace shown j m × (number < m))

-- the neighbours are those that the fields from one on up to another tell
abbrev pub AreNeighbours : List Sightings → ℕ → Span → ℕ → Sought → Type 0
AreNeighbours shown count span number sought =
    IsBeside down shown count span number sought.before × IsBeside up shown count span number sought.after

-- they are those that all fields of the side tell
abbrev pub AreOfSide : Numbers → paces.Pace → ℕ → Sought → Type 0
AreOfSide numbers pace number sought =
    AreNeighbours (shown_of numbers) numbers.side.count (all_of pace numbers.side.count) number sought

-- both are told
abbrev pub HasBoth : ℕ → Sought → Type 0
HasBoth count sought = (sought.before.field < count) × (sought.after.field < count)

-- the number was looked for in the fields from one on up to another, in 24 fields at least or all, each of which was
-- judged at this pace with all on which its answer depends. The field that is found is one of them, at this pace. The
-- neighbours are those that they tell; if the numbers rise along the side and both are told, those of the whole side
pub record IsLookedFor (numbers : Numbers) (number : ℕ) (sought : Sought) (span : Span) : Type 0 where
  pub inside : (span.from ≤ span.to) × (span.to ≤ numbers.side.count)
  pub wide : (span.from + 24 ≤ span.to) ⊎ ((span.from ≡ 0) × (span.to ≡ numbers.side.count))
  pub judged : (i : ℕ) → span.from ≤ i → i < span.to
      → (first many : ℕ) × (many ≤ sought.looked) × IsJudgedIn numbers i first many span.pace
  pub found : sought.field < numbers.side.count
      → (span.from ≤ sought.field) × (sought.field < span.to) × (sought.pace ≡ Some span.pace)
  pub told : AreNeighbours (shown_of numbers) numbers.side.count span number sought
  pub rising : AreRising span.pace (shown_of numbers) → HasBoth numbers.side.count sought
      → AreOfSide numbers span.pace number sought

-- the fields from one on up to another have all those of a side from 24 before field t to 24 after it
abbrev pub AreAround : ℕ → ℕ → ℕ → ℕ → Type 0
AreAround count t from to = (i : ℕ) → t ≤ i + 24 → i ≤ t + 24 → i < count → (from ≤ i) × (i < to)

-- if what the fields tell leads to field t, the number was looked for in all around it; and if there is a gap for the
-- number at t, the neighbours are those of the whole side
pub record AreLedTo (numbers : Numbers) (number : ℕ) (sought : Sought) (span : Span) (t : ℕ) : Type 0 where
  pub around : AreAround numbers.side.count t span.from span.to
  pub gap : IsGap span.pace (shown_of numbers) number t → AreOfSide numbers span.pace number sought

-- the neighbours are those of the fields in which the number was looked for
abbrev pub AreBesideIn : Numbers → ℕ → Sought → Type 0
AreBesideIn numbers number sought = (span : Span) × IsLookedFor numbers number sought span
    × ((t a b : ℕ) → numbers.side.count ≤ 1000000 → Leads (number_spots numbers) number t a b
    → AreLedTo numbers number sought span t)

-- the same of all fields of the side
abbrev pub AreBeside : Seek → List ℕ → ℕ → Sought → Type 0
AreBeside seek bytes number sought = AreBesideIn (numbers_by seek bytes) number sought
