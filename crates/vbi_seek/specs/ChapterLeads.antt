-- When a chapter that is sought has to be found: what the fields of a side tell leads to its first field.
use Rattle.std.specs.Prelude.{◌≡◌, ◌<◌, ◌≤◌, ◌+◌, ◌⊎◌, ℕ}
use Rattle.vbi_seek.specs.declared.chapter_search.Window.{Window}
use Rattle.vbi_seek.specs.declared.search.Target.TheVariants.{Chapter}
use Rattle.vbi_seek.specs.declared.side_bytes.FoundField.{FoundField}
use Rattle.vbi_seek.specs.ChapterSearch.{HasChapter, before_most}
use Rattle.vbi_seek.specs.FieldLines.{Side}
use Rattle.vbi_seek.specs.Targets.{TellFirst}
use Rattle.vbi_seek.specs.Spots.{Spots, Leads, spots_in}

-- this many fields of a side from this one on tell a chapter together, and fewer tell none; they are no more than are
-- read at one spot
abbrev pub TellsChapter : Side → ℕ → ℕ → ℕ → Type 0
TellsChapter side field k n = TellFirst Chapter side field k n

-- the spots of chapters
abbrev pub chapter_spots : Side → Spots
chapter_spots side = spots_in Chapter side

-- the first field of the side of which this chapter is believed is t
pub record IsFirstOf (side : Side) (chapter t : ℕ) : Type 0 where
  pub has : HasChapter side t chapter
  pub others : (i : ℕ) → i < t → HasChapter side i chapter → ⊥

-- the first field with the chapter, to which the fields lead, is the one that is answered
abbrev pub IsChapterComplete : Side → ℕ → FoundField → Type 0
IsChapterComplete side chapter place = (t a b : ℕ) → side.count ≤ 1000000 → IsFirstOf side chapter t
    → Leads (chapter_spots side) chapter t a b → place.field ≡ t

-- field t is one of those in which the chapter is looked for, and so are the 72 fields before it, or all
pub record IsReached (t : ℕ) (window : Window) : Type 0 where
  pub before : (window.first + window.from + before_most ≤ t) ⊎ (window.first + window.from ≡ 0)
  pub to : t < window.first + window.to
