-- What the fields of a side are read for: numbers or chapters, what they show of them, and which they tell together.
use Rattle.std.specs.Prelude.{◌==◌, ◌<◌, ◌≤◌, ◌+◌, ◌-◌, ℕ, Bool, List, length, map, min, slice_get}
use Rattle.std.specs.List.{range_with_len}
use Rattle.vbi_side.specs.declared.pace.Pace.TheVariants.{Video}
use Rattle.vbi_side.specs.declared.sighting.Sightings.{Sightings}
use Rattle.vbi_side.specs.Paces.{fits}
use Rattle.vbi_side.specs.Sightings.{Shows}
use Rattle.vbi_seek.specs.declared.search.Target.{Target}
use Rattle.vbi_seek.specs.declared.search.Target.TheVariants.{Number, Chapter}
use Rattle.vbi_seek.specs.ChapterSearch.{chapters_at, said_below, spot_most}
use Rattle.vbi_seek.specs.FieldLines.{Side}
use Rattle.vbi_seek.specs.NumberSearch.{shown_at, probe_most, probe_longest}
use Rattle.vbi_seek.specs.NumberSpots.{IsTold, together}

-- what a field of a side shows
abbrev pub shown_by : Target → Side → ℕ → Sightings
shown_by (Number judging) side = shown_at (record { side = side; judging = judging })
shown_by Chapter side = chapters_at side

-- what this many fields from this one on show
abbrev pub all_shown_by : Target → Side → ℕ → ℕ → List Sightings
all_shown_by kind side first many = map (shown_by kind side) (range_with_len first many)

-- number m in field j says number n in field i: they lie as those of video do, or are the same chapter
abbrev pub fits_in : Target → ℕ → ℕ → ℕ → ℕ → Bool
fits_in (Number judging) i n = fits Video i n
fits_in Chapter i n = λ j m. m == n

-- what these fields show tells number n in field i of them
abbrev pub IsToldBy : Target → List Sightings → ℕ → ℕ → Type 0
IsToldBy (Number judging) seen i n = IsTold seen i n
IsToldBy Chapter seen i n = together ≤ said_below seen n (length seen)

-- one of these fields shows number n, which is told in it
abbrev pub Tell : Target → List Sightings → ℕ → Type 0
Tell kind seen n = (i : ℕ) × Shows (slice_get seen i) n × IsToldBy kind seen i n

-- so many fields are read at a spot, and so many at most if many are worn
abbrev pub most_of : Target → ℕ
most_of (Number judging) = probe_most
most_of Chapter = spot_most

abbrev pub longest_of : Target → ℕ
longest_of (Number judging) = probe_longest
longest_of Chapter = spot_most

-- this many fields are read at a spot if few lines show anything there, and this many may be read besides
abbrev pub read_most : Target → ℕ → ℕ → ℕ
read_most kind more spare = most_of kind + min (min more (longest_of kind - most_of kind)) spare

-- this many fields of a side from this one on tell number n together, and fewer tell none; they are no more than are
-- read at one spot
pub record TellFirst (kind : Target) (side : Side) (field k n : ℕ) : Type 0 where
  pub few : k ≤ longest_of kind
  pub inside : field + k ≤ side.count
  pub tells : Tell kind (all_shown_by kind side field k) n
  pub first : (j m : ℕ) → j < k → Tell kind (all_shown_by kind side field j) m → ⊥
