-- What the fields of a side tell of a number or a chapter that is sought there, and what that says of the fields
-- between which it is sought.
use Rattle.std.specs.Prelude.{◌≡◌, ◌≤◌, ◌<◌, ◌+◌, ◌-◌, ◌*◌, ◌/◌, ◌⊎◌, ℕ, List, None, Some, min, slice_get}
use Rattle.vbi_side.specs.declared.sighting.Sightings.{Sightings}
use Rattle.vbi_side.specs.Sightings.{Shows}
use Rattle.vbi_seek.specs.declared.halving.End.{End}
use Rattle.vbi_seek.specs.declared.halving.End.TheVariants.{First, Last}
use Rattle.vbi_seek.specs.declared.narrowing.Between.{Between}
use Rattle.vbi_seek.specs.declared.narrowing.Spot.{Spot}
use Rattle.vbi_seek.specs.declared.narrowing.Told.{Told}
use Rattle.vbi_seek.specs.declared.search.Target.{Target}
use Rattle.vbi_seek.specs.declared.search.Target.TheVariants.{Number, Chapter}
use Rattle.vbi_seek.specs.declared.search.Looked.{Looked}
use Rattle.vbi_seek.specs.declared.search.Search.{Search}
use Rattle.vbi_seek.specs.ChapterSearch.{IsBetween, placed_most}
use Rattle.vbi_seek.specs.FieldLines.{side_of}
use Rattle.vbi_seek.specs.Targets.{Tell, all_shown_by, longest_of, most_of, shown_by}
use Rattle.vbi_seek.specs.NumberSearch.{probe_most, probe_longest}
use Rattle.vbi_seek.specs.NumberSpots.{IsNarrowed, IsShownBetween}
use Rattle.vbi_seek.specs.Spots.{Leads, IsWithin, IsToldAt, left_by, spots_in}

-- ---- what fields tell

-- what a field of the side shows
abbrev pub shows : Search → ℕ → Sightings
shows search = shown_by search.kind (side_of search.side)

-- what this many fields from this one on show
abbrev pub shown_from : Search → ℕ → ℕ → List Sightings
shown_from search first many = all_shown_by search.kind (side_of search.side) first many

-- the first k fields from this one on tell number n
abbrev pub TellsAt : Search → ℕ → ℕ → ℕ → Type 0
TellsAt search field k n = Tell search.kind (shown_from search field k) n

-- the fields from this one on tell nothing: no more than this many of them do
abbrev pub IsSilentFor : Search → ℕ → ℕ → Type 0
IsSilentFor search field most = (k n : ℕ) → k ≤ most → field + k ≤ search.side.count → TellsAt search field k n → ⊥

-- no 12 of them do, or fewer, or of a chapter no 24
abbrev pub IsSilent : Search → ℕ → Type 0
IsSilent search field = IsSilentFor search field (most_of search.kind)

-- what these show is what the fields from this one on show
pub record AreSeenFrom (search : Search) (field : ℕ) (seen : List Sightings) : Type 0 where
  pub each : (i n : ℕ) → Shows (slice_get seen i) n
      → (field + i < search.side.count) × Shows (Some (shows search (field + i))) n

-- what the fields of the side tell leads to field t with what is sought
abbrev pub LeadsTo : Search → ℕ → ℕ → ℕ → Type 0
LeadsTo search t a b = Leads (spots_in search.kind (side_of search.side)) search.sought t a b

-- ---- the fields between which it is sought

-- they are some of the side
abbrev pub IsPart : Search → Between → Type 0
IsPart search between = IsBetween search.side.count between

-- the field in the middle of them
abbrev pub middle_in : Between → ℕ
middle_in between = between.low + (between.high - between.low) / 2

-- all that is read at this spot are some of them
abbrev pub IsSpotIn : Between → Spot → Type 0
IsSpotIn between spot = (between.low ≤ spot.field) × (spot.field + spot.more ≤ between.high)

-- whatever is told of a number at this spot leaves three quarters of them at most
pub record IsHalving (between : Between) (spot : Spot) : Type 0 where
  pub inside : IsSpotIn between spot
  pub later : 4 * (between.high - spot.field) ≤ 3 * (between.high - between.low)
  pub earlier : 4 * (spot.field + spot.more - between.low) ≤ 3 * (between.high - between.low)

-- it is sought between others of them than before, by what some fields from this spot on tell, this many more than at
-- other spots at most, if fewer tell nothing: one is told at the first of them, or at the first of the last 12 or 24
pub record IsNarrowedAt (search : Search) (spot : Spot) (old new : Between) : Type 0 where
  pub read : ℕ
  pub number : ℕ
  pub few : (read ≤ longest_of search.kind) × (read ≤ most_of search.kind + spot.more)
  pub inside : spot.field + read ≤ search.side.count
  pub told : TellsAt search spot.field read number
  pub first : (k m : ℕ) → k < read → TellsAt search spot.field k m → ⊥
  pub narrowed : IsNarrowed search.sought (spot.field + (read - most_of search.kind)) number old new

-- the number is sought between others of them than before, by a line of a field from this one on: it shows a number
-- between the two that were told at both ends
pub record IsNarrowedByOne (search : Search) (field : ℕ) (told : Told) (old new : Between) : Type 0 where
  pub after : ℕ
  pub number : ℕ
  pub inside : field + after < search.side.count
  pub shown : Shows (Some (shows search (field + after))) number
  pub between : (told.lower < number) × (number < told.higher)
  pub narrowed : IsNarrowed search.sought (min (field + after) old.high) number old new

-- so it is by what is told at a spot, or by such a line
abbrev pub IsNarrowedNear : Search → Spot → Told → Between → Between → Type 0
IsNarrowedNear search spot told old new =
    IsNarrowedAt search spot old new ⊎ IsNarrowedByOne search spot.field told old new

-- the spots at three quarters and at one quarter of them
abbrev pub later_in : Between → Spot
later_in between = record {
  field = middle_in between + (between.high - between.low) / 4;
  more = (between.high - between.low) / 16;
}

abbrev pub earlier_in : Between → Spot
earlier_in between = record {
  field = between.low + (between.high - between.low) / 4;
  more = (between.high - between.low) / 16;
}

-- by where it stands between the numbers that were told at both ends, a number is more likely after this field
abbrev pub IsMoreLikelyAfter : ℕ → ℕ → Told → Between → Type 0
IsMoreLikelyAfter number field told between =
    (field - between.low) * (told.higher - told.lower) < (between.high - between.low) * (number - told.lower)

-- it is sought in the half in which it is more likely, since nothing is told at the two quarters, as far as `spare`
-- fields allow to read there
pub record IsGuessed (search : Search) (told : Told) (spare : ℕ) (old new : Between) : Type 0 where
  pub later : most_of search.kind ≤ spare → IsSilent search (later_in old).field
  pub earlier : (probe_longest - probe_most) + 2 * most_of search.kind ≤ spare
      → IsSilent search (earlier_in old).field
  pub half : (IsMoreLikelyAfter search.sought (middle_in old) told old × (new ≡ record old { low = middle_in old }))
      ⊎ ((IsMoreLikelyAfter search.sought (middle_in old) told old → ⊥)
      × (new ≡ record old { high = middle_in old }))

-- it is sought between others of them than before, if both ends have told a number and the middle none: by one of these
-- fields in the middle, if one shows a number between the two, else by a quarter, or by a guess
pub record IsNarrowedBetween (search : Search) (told : Told) (spare : ℕ) (seen : List Sightings) (old new : Between) :
    Type 0 where
  pub shown : (i n : ℕ) → IsShownBetween seen told.lower told.higher i n
      → IsNarrowedByOne search (middle_in old) told old new
  pub by : IsNarrowedByOne search (middle_in old) told old new
      ⊎ IsNarrowedNear search (later_in old) told old new
      ⊎ IsNarrowedNear search (earlier_in old) told old new
      ⊎ IsGuessed search told spare old new

-- if both ends have told a number, it is by what is told in the middle, or else in one of these ways
abbrev pub IsHalvedByBoth : Search → Between → Between → Type 0
IsHalvedByBoth search old new = (told : Told) → old.lower ≡ Some told.lower → old.higher ≡ Some told.higher
    → IsNarrowedAt search (record { field = middle_in old; more = (old.high - old.low) / 8 }) old new
    ⊎ ((spare : ℕ) × (seen : List Sightings) × AreSeenFrom search (middle_in old) seen
    × IsNarrowedBetween search told spare seen old new)

-- the fields have field t among them as before, and are fewer
pub record IsNarrower (kind : Target) (t a b : ℕ) (old new : Between) : Type 0 where
  pub within : IsWithin (most_of kind) t a b new
  pub told : IsToldAt new
  pub narrower : new.high - new.low ≤ left_by kind (old.high - old.low)

-- whatever leads to what is sought leads to fewer fields between which it is then
abbrev pub IsHalved : Search → Between → Between → Type 0
IsHalved search old new = (t a b : ℕ) → LeadsTo search t a b → IsWithin (most_of search.kind) t a b old → IsToldAt old
    → IsNarrower search.kind t a b old new

-- where the fields lead to what is sought, a step reads no more of them than at one spot
abbrev pub IsSpent : Search → Between → Looked → Looked → Type 0
IsSpent search old before after =
    (t a b : ℕ) → LeadsTo search t a b → IsWithin (most_of search.kind) t a b old
    → after.fields + after.spare ≤ before.fields + before.spare + most_of search.kind

-- a step reads no more fields for a number than at one spot, wherever they lead, and for a chapter no more than may be
-- read while its place is sought
abbrev pub IsReadAtMost : Target → Looked → Looked → Type 0
IsReadAtMost (Number judging) before after =
    after.fields + after.spare ≤ before.fields + before.spare + probe_most
IsReadAtMost Chapter before after = after.fields + after.spare ≤ placed_most

-- nothing was told at the other end than this one
abbrev pub IsAlone : End → Between → Type 0
IsAlone First between = between.higher ≡ None
IsAlone Last between = between.lower ≡ None
