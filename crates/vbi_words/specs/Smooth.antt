-- The smoothed levels of a line (this project's own rule): at each column the level of the latest four equal columns.
-- So a run of one to three columns leaves no trace, and a longer one begins three columns later.
use Rattle.std.specs.Prelude.{◌≡◌, ℕ, suc, zero, ◌≤◌, ◌<◌, ◌+◌, ◌-◌, ◌⊎◌, Bool, true, false, not, List, length, map}
use Rattle.std.specs.List.{range_with_len}
use Rattle.vbi_words.specs.Levels.{level_at}

-- the four columns that begin at d are all v
abbrev pub FourEqual : List Bool → ℕ → Bool → Type 0
FourEqual levels d v = (i : ℕ) → i < 4 → level_at levels (d + i) ≡ v

-- v is the smoothed level at column c: that of the latest four equal columns up to c, or low if there are none
abbrev pub SmoothAt : List Bool → ℕ → Bool → Type 0
SmoothAt levels c v =
    ((d : ℕ) × (d + 3 ≤ c) × FourEqual levels d v × ((e : ℕ) (u : Bool) → d < e → e + 3 ≤ c → FourEqual levels e u → ⊥))
    ⊎ ((v ≡ false) × ((e : ℕ) (u : Bool) → e + 3 ≤ c → FourEqual levels e u → ⊥))

-- each column of smoothed has the smoothed level of that column of levels; each list has exactly one such, which
-- `smooth_of` gives, as `laws::one_smooth` says
abbrev pub IsSmooth : List Bool → List Bool → Type 0
IsSmooth levels smoothed =
    (length smoothed ≡ length levels) × ((c : ℕ) → c < length levels → SmoothAt levels c (level_at smoothed c))

-- ---- as a function

-- four equal levels give their level, any other four leave the earlier one
abbrev pub level_of_four : Bool → Bool → Bool → Bool → Bool → Bool
level_of_four true true true true earlier = true
level_of_four false false false false earlier = false
level_of_four _ _ _ _ earlier = earlier

-- the level of the latest four equal columns that begin before column n, low if there are none
unfoldable pub latest : List Bool → ℕ → Bool
latest levels zero = false
latest levels (suc d) =
    level_of_four (level_at levels d) (level_at levels (d + 1)) (level_at levels (d + 2)) (level_at levels (d + 3))
    (latest levels d)

-- the smoothed levels, which `laws::one_smooth` shows to be the only ones
unfoldable pub smooth_of : List Bool → List Bool
smooth_of levels = map (λ c. latest levels (c - 2)) (range_with_len 0 (length levels))

-- ---- a glitch

-- columns g to g + m - 1 of levels are turned over: one to three columns, which had the level of the four before them
-- and of the four after them
pub record Glitch (levels turned : List Bool) : Type 0 where
  pub g : ℕ
  pub m : ℕ
  pub some : 1 ≤ m
  pub few : m ≤ 3
  pub before : 4 ≤ g
  pub behind : g + m + 4 ≤ length levels
  pub equal : (c : ℕ) → g ≤ c + 4 → c < g + m + 4 → level_at levels c ≡ level_at levels g
  pub same_length : length turned ≡ length levels
  pub others : (c : ℕ) → (c < g) ⊎ (g + m ≤ c) → level_at turned c ≡ level_at levels c
  pub over : (c : ℕ) → g ≤ c → c < g + m → level_at turned c ≡ not (level_at levels c)
