-- Which number some fields tell together, by which a search knows where in a side it is. The rule is this project's
-- own.
use Rattle.std.specs.Prelude.{◌≡◌, ◌≤◌, ◌<◌, ◌+◌, ◌*◌, ◌/◌, ◌⊎◌, ℕ, zero, suc, min, List, length, slice_get}
use Rattle.std.specs.Prelude.{Some, Bool}
use Rattle.vbi_side.specs.declared.pace.Pace.TheVariants.{Video, Film}
use Rattle.vbi_side.specs.declared.sighting.Sightings.{Sightings}
use Rattle.vbi_side.specs.Beliefs.{field_weight, support_of}
use Rattle.vbi_side.specs.Paces.{fits}
use Rattle.vbi_side.specs.Sightings.{Shows}
use Rattle.vbi_seek.specs.declared.narrowing.Between.{Between}
use Rattle.vbi_seek.specs.NumberSearch.{Numbers, shown_from}

-- the weight from which on a number is told; one field alone weighs 4 at most
abbrev pub together : ℕ
together = 6

-- the weight of what the first k of these fields show that passes the test, which is told the field and the number
unfoldable pub sum_below : (ℕ → ℕ → Bool) → List Sightings → ℕ → ℕ
sum_below test seen zero = 0
sum_below test seen (suc k) = sum_below test seen k + field_weight (test k) (slice_get seen k)

-- the weight of what all of them show that fits number n in field i at the pace of video
abbrev pub run_weight : List Sightings → ℕ → ℕ → ℕ
run_weight seen i n = sum_below (fits Video i n) seen (length seen)

-- what supports number n in field i weighs so much, at either pace, or what all these fields show at that of video
abbrev pub IsTold : List Sightings → ℕ → ℕ → Type 0
IsTold seen i n = (together ≤ support_of Video seen i n) ⊎ (together ≤ support_of Film seen i n)
    ⊎ (together ≤ run_weight seen i n)

-- one of these fields shows number n, which is told in it
abbrev pub TellsIn : List Sightings → ℕ → Type 0
TellsIn seen n = (i : ℕ) × Shows (slice_get seen i) n × IsTold seen i n

-- so does one of the first k fields of a side from this one on, by what these k show
abbrev pub TellsFrom : Numbers → ℕ → ℕ → ℕ → Type 0
TellsFrom numbers field k n = TellsIn (shown_from numbers field k) n

-- number n is sought between other fields than before, since another number or n itself is told at this field: from
-- it on if that number is less than n, else up to it
abbrev pub IsNarrowed : ℕ → ℕ → ℕ → Between → Between → Type 0
IsNarrowed n field told old new =
    ((told < n) × (new ≡ record old { low = field; lower = Some told }))
    ⊎ ((n ≤ told) × (new ≡ record old { high = field; higher = Some told }))

-- field i of these shows number n, which is between two others
abbrev pub IsShownBetween : List Sightings → ℕ → ℕ → ℕ → ℕ → Type 0
IsShownBetween seen lower higher i n = Shows (slice_get seen i) n × (lower < n) × (n < higher)

-- the middle of one of this many equal parts of a side
abbrev pub middle_of : ℕ → ℕ → ℕ → ℕ
middle_of count parts part = min (count * (2 * part + 1) / (2 * parts)) count
