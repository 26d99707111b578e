-- Two fields of video that stand in each other's place: between two numbers that go on a field shows one that stands a
-- field off.
use Rattle.std.specs.Prelude.{◌≡◌, ℕ, ◌+◌, ◌-◌, ◌*◌, ◌<◌, ◌==◌, nat_lt, not, ◌&&◌, ◌||◌, Bool, true, false, List}
use Rattle.std.specs.Prelude.{Option, Some, None, slice_get}
use Rattle.vbi_whole.specs.Types.{Clock, Number, Video, Place, Sighting, Sightings, Rule}
use Rattle.vbi_side.specs.Clocks.{clock_fits, by_clock}
use Rattle.vbi_side.specs.Paces.{spot}
use Rattle.vbi_whole.specs.declared.swaps.SwapSearch.{SwapSearch}
use Rattle.vbi_whole.specs.Gaps.{AreNeighbours, IsLast, Judged}

-- place b stands one field before or after the place that place a leaves for its number
abbrev pub stands_off : Place → Place → Bool
stands_off a b = ((b.field + 2 * a.number) == (a.field + 2 * b.number + 1))
    || ((b.field + 2 * a.number + 1) == (a.field + 2 * b.number))

-- the number is believed of the field with this answer
abbrev pub is_believed_as : Option Number → ℕ → Bool
is_believed_as (Some answer) p = (answer.state == 1) && (answer.number == p)
is_believed_as None p = false

-- a field beside field k has the number, which stands on both fields of its picture then
abbrev pub is_beside : List Number → ℕ → ℕ → Bool
is_beside answers k p = is_believed_as (slice_get answers (k - 1)) p || is_believed_as (slice_get answers (k + 1)) p

-- what a line of field k shows stands off from place a by the clock, and isn't the number of a field beside it
abbrev pub shows_off : Clock → List Number → Place → ℕ → Sighting → Bool
shows_off clock answers a k sighting =
    nat_lt 0 sighting.weight && stands_off (by_clock clock a) (by_clock clock (spot k sighting.number)) && not
    (is_beside answers k sighting.number)

-- one of a field's lines does
abbrev pub is_stray : Clock → List Number → Place → ℕ → Option Sightings → Bool
is_stray clock answers a k None = false
is_stray clock answers a k (Some field) =
    shows_off clock answers a k field.line_17 || shows_off clock answers a k field.line_18

-- field k was swapped with one beside it: between two neighbours that go on as video does, by the clock, it shows a
-- number that stands a field off
pub record IsSwap (clock : Clock) (seen : List Sightings) (answers : List Number) (k : ℕ) : Type 0 where
  pub i : ℕ
  pub m : ℕ
  pub j : ℕ
  pub n : ℕ
  pub neighbours : AreNeighbours answers (spot i m) (spot j n)
  pub on : clock_fits clock i m j n ≡ true
  pub after : i < k
  pub before : k < j
  pub stray : is_stray clock answers (spot i m) k (slice_get seen k) ≡ true

-- of this capture field k was swapped
abbrev pub IsSwapIn : Judged → ℕ → Type 0
IsSwapIn judged k = IsSwap judged.rule.numbering.clock judged.seen judged.numbers k

-- of a disc of video with a number on one field of its pictures: the field that is named was swapped and none before
-- it, or none was
abbrev pub IsSwapTold : Rule → List Sightings → List Number → ℕ → Bool → Type 0
IsSwapTold rule seen answers field true =
    (rule.pace ≡ Video) × (rule.slack ≡ 0) × IsSwap rule.numbering.clock seen answers field
    × ((k : ℕ) → k < field → IsSwap rule.numbering.clock seen answers k → ⊥)
IsSwapTold rule seen answers field false =
    (field ≡ 0)
    × (rule.pace ≡ Video → rule.slack ≡ 0 → (k : ℕ) → IsSwap rule.numbering.clock seen answers k → ⊥)

-- of the fields after the last number and before this one, the one that was found is the first that stands off, or none
-- does
abbrev pub IsFirstStray : Clock → List Sightings → List Number → ℕ → SwapSearch → Type 0
IsFirstStray clock seen answers field search = elim search.last [
  | None ↦ elim search.stray [ None ↦ Unit {0} | Some k ↦ ⊥ ]
  | Some place ↦ elim search.stray [
    | None ↦ (k : ℕ) → place.field < k → k < field → is_stray clock answers place k (slice_get seen k) ≡ true → ⊥
    | Some k ↦ (place.field < k) × (k < field) × (is_stray clock answers place k (slice_get seen k) ≡ true)
        × ((j : ℕ) → place.field < j → j < k → is_stray clock answers place j (slice_get seen j) ≡ true → ⊥)
  ]
]

-- and this is the last number before it
abbrev pub IsSearch : Judged → ℕ → SwapSearch → Type 0
IsSearch judged field search = IsLast judged.numbers field search.last
    × IsFirstStray judged.rule.numbering.clock judged.seen judged.numbers field search
