-- A side that leaves nothing to doubt, by what the calls answer one after the other, and one whose chapters do.
use Rattle.std.specs.Prelude.{◌≡◌, ◌≢◌, ◌⊎◌, ℕ, ◌<◌, ◌≤◌, ◌+◌, List}
use Rattle.vbi_c.specs.Types.{Pal, Clock, Plain, Times, Video, Film, Sightings, Given, Found, Judging}
use Rattle.vbi_whole.specs.CleanRuns.{IsCleanSide, IsReadRun}
use Rattle.vbi_c.specs.CalledWhole.{Called, IsAnswered, judged_at, slack_at}

-- what was seen is one run of a disc that counts by the clock, from its first number to lead-out, each number read on
-- both lines in pass 1. The pace of video is asked for, or that which is found; and numbers are said to be on one field
-- of a picture, or that is to be found
pub record IsJudgedClean (number : ℕ → ℕ) (called : Called) (begin last : ℕ) : Type 0 where
  pub clean : IsCleanSide (judged_at called called.siding.pace (slack_at called.siding.pace called)) number begin last
      called.may_end
  pub asked : called.judging.asked ≢ Given Film
  pub on_one : (called.both ≡ 0) ⊎ (called.both ≡ 3)
  pub answered : IsAnswered called

-- of a run by this clock the pace of video is asked for; or the pace is to be found, and the disc leaves out no number,
-- counts times, or is PAL
abbrev pub AsksVideo : Clock → Judging → Type 0
AsksVideo clock judging =
    (judging.asked ≡ Given Video)
    ⊎ ((judging.asked ≡ Found) × ((clock ≡ Plain) ⊎ (judging.counted ≡ Times) ⊎ (judging.system ≡ Pal)))

-- from field `begin` on every other field shows the chapter of the next picture on both lines, in pass 1, up to picture
-- `last`; no other field shows one. Chapters never fall, and each lasts three pictures or more
pub record AreChaptersRead (chapter : ℕ → ℕ) (fields : List Sightings) (begin last : ℕ) : Type 0 where
  pub read : IsReadRun chapter fields begin last
  pub rise : (p q : ℕ) → p ≤ q → q ≤ last → chapter p ≤ chapter q
  pub three : (p : ℕ) → p ≤ last → (q : ℕ) × (q ≤ p) × (p ≤ q + 2) × (q + 2 ≤ last)
      × (chapter q ≡ chapter p) × (chapter (q + 2) ≡ chapter p)

-- the chapter of picture p begins with it
abbrev pub IsFirstPicture : (ℕ → ℕ) → ℕ → Type 0
IsFirstPicture chapter p = (q : ℕ) → q < p → chapter q ≢ chapter p
