-- Rows that differ a little from a drawn one: a change of level may lie a column early or late, as jitter has it; the
-- two samples beside it may lie on either side of the middle; there may be glitches.
use Rattle.std.specs.Prelude.{◌≡◌, ◌↔◌, ℕ, suc, zero, ◌≤◌, ◌+◌, ◌-◌, ◌⊎◌, Bool, true, false, List, [], ◌∷◌, length}
use Rattle.vbi_words.specs.declared.system.System.{System}
use Rattle.vbi_words.specs.declared.system.System.TheVariants.{Ntsc, Pal}
use Rattle.vbi_words.specs.declared.outcome.Outcome.TheVariants.{Word}
use Rattle.vbi_words.specs.Geometry.{half_min, half_max}
use Rattle.vbi_words.specs.Levels.{level_at}
use Rattle.vbi_words.specs.Words.{halves_of}
use Rattle.vbi_words.specs.Shows.{Shows, Spells}
use Rattle.vbi_words.specs.Smooth.{Glitch}
use Rattle.vbi_words.specs.Readings.{IsReading}

-- the levels show the word with two columns to spare in each half cell, and have five lows after it
pub record ShowsAmply (system : System) (levels : List Bool) (word : ℕ) : Type 0 where
  pub cut : Shows system levels word
  pub lows : 5 ≤ cut.after
  pub spelled : Spells (half_min system + 2) (half_max system - 2) (halves_of word) cut.drawn

-- the levels are those of the row drawn, but perhaps in the two columns beside each change of its level: the last
-- before it and the first after it
pub record IsBlurred (drawn levels : List Bool) : Type 0 where
  pub same_length : length levels ≡ length drawn
  pub others : (c : ℕ) → level_at drawn (c - 1) ≡ level_at drawn c → level_at drawn (c + 1) ≡ level_at drawn c
      → level_at levels c ≡ level_at drawn c

-- no column stands alone: each has the level of the one before it or of the one after it
abbrev pub NoneAlone : List Bool → Type 0
NoneAlone levels =
    (c : ℕ) → (level_at levels c ≡ level_at levels (c - 1)) ⊎ (level_at levels c ≡ level_at levels (c + 1))

-- each change of the row drawn lies where it was, or one column before or after, and there is no other
abbrev pub IsJittered : List Bool → List Bool → Type 0
IsJittered drawn levels = IsBlurred drawn levels × NoneAlone levels

-- the reading of the levels is the word: in the first pass exactly if no column stands alone, else in the second
pub record ReadsWord (system : System) (levels : List Bool) (word : ℕ) : Type 0 where
  pub pass : ℕ
  pub reading : IsReading system levels (record { outcome = Word word; pass = pass })
  pub first : (pass ≡ 1) ↔ NoneAlone levels

-- n glitches, one after the other, make these levels the turned ones: each turns over one to three columns that have
-- four equal columns on either side, as the glitches before it left them
abbrev pub HasGlitches : ℕ → List Bool → List Bool → Type 0
HasGlitches zero levels turned = turned ≡ levels
HasGlitches (suc n) levels turned = (before : List Bool) × HasGlitches n levels before × Glitch before turned

-- ---- how far lists of levels are apart

-- 1 for two different levels, 0 for a level twice
abbrev pub differs : Bool → Bool → ℕ
differs true true = 0
differs true false = 1
differs false true = 1
differs false false = 0

-- in how many columns two lists of one length have different levels
abbrev pub differences : List Bool → List Bool → ℕ
differences [] others = 0
differences (x ∷ levels) [] = 0
differences (x ∷ levels) (y ∷ others) = differs x y + differences levels others

-- in how many columns two lists that show different words differ at least: twice the fewest columns of a half cell less
-- the most of one
abbrev pub least_distance : System → ℕ
least_distance Ntsc = 4
least_distance Pal = 6
