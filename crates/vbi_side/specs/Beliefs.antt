-- Which numbers that fields show are believed: those that enough sightings nearby fit. The rule is this project's own.
use Rattle.std.specs.Prelude.{◌≡◌, ℕ, zero, suc, ◌+◌, ◌*◌, ◌-◌, ◌<◌, ◌≤◌, nat_le, max}
use Rattle.std.specs.Prelude.{Bool, if◌then◌else◌, List, Option, Some, None, slice_get}
use Rattle.vbi_side.specs.Types.{Sighting, Sightings, Pace}
use Rattle.vbi_side.specs.Sightings.{weight_of, Shows}
use Rattle.vbi_side.specs.Paces.{fits, stays}

-- the fields that are looked at on either side of one
abbrev pub reach : ℕ
reach = 24

-- the weight from which on a number is believed
abbrev pub enough : ℕ
enough = 10

-- the most that one field's sightings weigh
abbrev pub field_most : ℕ
field_most = 4

-- ---- what is read around a field

-- the weight of a sighting whose number passes the test
abbrev pub sighting_weight : (ℕ → Bool) → Sighting → ℕ
sighting_weight test sighting = if test sighting.number then weight_of sighting else 0

-- the weight of a field's sightings whose numbers pass the test
abbrev pub field_weight : (ℕ → Bool) → Option Sightings → ℕ
field_weight test None = 0
field_weight test (Some field) = sighting_weight test field.line_17 + sighting_weight test field.line_18

-- the weight of the sightings of field i + k - reach that pass the test, which is told the field and the number
abbrev pub weight_at : (ℕ → ℕ → Bool) → List Sightings → ℕ → ℕ → ℕ
weight_at test fields i k =
    if nat_le reach (i + k) then field_weight (test (i + k - reach)) (slice_get fields (i + k - reach)) else 0

-- the sum of the first n of these
unfoldable pub weight_below : (ℕ → ℕ → Bool) → List Sightings → ℕ → ℕ → ℕ
weight_below test fields i zero = 0
weight_below test fields i (suc n) = weight_below test fields i n + weight_at test fields i n

-- the weight of the sightings that pass the test, of field i and of those within reach of it
abbrev pub window_weight : (ℕ → ℕ → Bool) → List Sightings → ℕ → ℕ
window_weight test fields i = weight_below test fields i (2 * reach + 1)

-- ---- the rule

-- what supports number m in field i: the weight of the sightings within reach that fit it, its own among them, or of
-- those that are of one still with it, less the most that one field of a disc that runs on adds to these
abbrev pub support_of : Pace → List Sightings → ℕ → ℕ → ℕ
support_of pace fields i m =
    max (window_weight (fits pace i m) fields i) (window_weight (stays i m) fields i - field_most)

-- field i shows number n, enough supports it, and less supports any other number of the field
pub record Believed (pace : Pace) (fields : List Sightings) (i n : ℕ) : Type 0 where
  pub shown : Shows (slice_get fields i) n
  pub enough : enough ≤ support_of pace fields i n
  pub ahead : (m : ℕ) → Shows (slice_get fields i) m → (m ≡ n → ⊥)
      → support_of pace fields i m < support_of pace fields i n
