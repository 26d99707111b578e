-- Seeking a chapter in the bytes of a side: the field in which it begins. A last field that is cut is left out.
use Rattle.std.specs.Prelude.{◌≡◌, ◌==◌, ◌<◌, ◌≤◌, ◌+◌, ◌⊎◌, ℕ, List, length, map, min, slice_get}
use Rattle.std.specs.List.{range_with_len}
use Rattle.vbi_side.specs.declared.number.Number.{Number}
use Rattle.vbi_side.specs.declared.sighting.Sightings.{Sightings}
use Rattle.vbi_side.specs.Beliefs.{reach}
use Rattle.vbi_side.specs.Chapters.{BelievedChapter, chapters_of}
use Rattle.vbi_side.specs.Numbers.{IsMarked}
use Rattle.vbi_side.specs.Sightings.{Shows}
use Rattle.vbi_seek.specs.declared.chapter_search.Window.{Window}
use Rattle.vbi_seek.specs.declared.narrowing.Between.{Between}
use Rattle.vbi_seek.specs.declared.side_bytes.SideBytes.{SideBytes}
use Rattle.vbi_seek.specs.declared.side_bytes.FoundField.{FoundField}
use Rattle.vbi_seek.specs.FieldLines.{Side, side_of, lines_at}
use Rattle.vbi_seek.specs.NumberSearch.{looked_most}
use Rattle.vbi_seek.specs.NumberSpots.{together, sum_below}

-- ---- what is sought

-- what field i of a side shows of its chapter, with the nearest words of worn lines
abbrev pub chapters_at : Side → ℕ → Sightings
chapters_at side i = let lines = lines_at side i in chapters_of lines.line_17 lines.line_18

-- what this many fields from this one on show
abbrev pub chapters_from : Side → ℕ → ℕ → List Sightings
chapters_from side first many = map (chapters_at side) (range_with_len first many)

-- chapter n is believed of field i, by what all fields of the side show
abbrev pub HasChapter : Side → ℕ → ℕ → Type 0
HasChapter side i n = BelievedChapter (chapters_from side 0 side.count) i n

-- this many fields before a field have another chapter, or none
abbrev pub before_most : ℕ
before_most = 72

-- chapter n begins in field i: it is believed of it, and of none of the 72 fields before it
pub record Begins (side : Side) (i n : ℕ) : Type 0 where
  pub has : HasChapter side i n
  pub first : (j : ℕ) → j < i → i ≤ j + before_most → HasChapter side j n → ⊥

-- the fields that are read while its place is sought, and those that are judged, at most
abbrev pub placed_most : ℕ
placed_most = 824

abbrev pub around_most : ℕ
around_most = 176

-- this many fields of a side were read at most. The chapter begins in the field that is answered. Or the field is none
-- of the side's: then the chapter begins in none of those that were looked at, 24 in a row or more, or all
pub record IsChapterSought (side : Side) (chapter : ℕ) (place : FoundField) : Type 0 where
  pub few : place.looked ≤ looked_most
  pub inside : place.field ≤ side.count
  pub found : place.field < side.count → Begins side place.field chapter
  pub none : place.field ≡ side.count → (first many : ℕ) × (first + many ≤ side.count) × (many ≤ place.looked)
      × (min side.count reach ≤ many)
      × ((i : ℕ) → first ≤ i → i < first + many → Begins side i chapter → ⊥)

-- ---- which chapter some fields tell together

-- the weight of what the first k of these fields show that is chapter n
abbrev pub said_below : List Sightings → ℕ → ℕ → ℕ
said_below seen n k = sum_below (λ j m. m == n) seen k

-- no more fields than these are read at one spot
abbrev pub spot_most : ℕ
spot_most = 24

-- one of these fields shows chapter n, and what all of them show of it weighs so much that no field alone does
abbrev pub TellChapter : List Sightings → ℕ → Type 0
TellChapter seen n = (i : ℕ) × Shows (slice_get seen i) n × (together ≤ said_below seen n (length seen))

-- ---- how it is sought

-- what fields of the side show
abbrev pub side_from : SideBytes → ℕ → ℕ → List Sightings
side_from side first many = chapters_from (side_of side) first many

-- the fields between which it is sought are some of the side
abbrev pub IsBetween : ℕ → Between → Type 0
IsBetween count between = (between.low ≤ between.high) × (between.high ≤ count)

-- of the answers of fields from this one on, the one in place i is the chapter, and none of the 72 before it is
pub record BeginsAmong (answers : List Number) (from i n : ℕ) : Type 0 where
  pub has : IsMarked answers i n
  pub first : (j : ℕ) → from ≤ j → j < i → i ≤ j + before_most → IsMarked answers j n → ⊥

-- the 72 fields before the one in place i are among those from this one on, which may be the first of the side
abbrev pub AreSeenBefore : ℕ → ℕ → ℕ → Type 0
AreSeenBefore first from i = (from + before_most ≤ i) ⊎ (first + from ≡ 0)

-- the fields that are judged have 24 more on either side of those in which the chapter is looked for, or all that there
-- are; and it can be found in 24 of those at least, or all, with 72 more before them, or all
pub record IsWindowOf (count : ℕ) (window : Window) : Type 0 where
  pub order : (window.from ≤ window.to) × (window.to ≤ window.many) × (window.first + window.many ≤ count)
  pub before : (window.first ≡ 0) ⊎ (reach ≤ window.from)
  pub after : (window.first + window.many ≡ count) ⊎ (window.to + reach ≤ window.many)
  pub wide : ((window.first + window.from ≡ 0) × (min count reach ≤ window.to))
      ⊎ (window.from + before_most + min count reach ≤ window.to)
